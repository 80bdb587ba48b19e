-- What carries it: an action's position is looked up in the list, and its number among the callables.
use Rattle.std.proofs.lemmas.Result.{err_from_is_err_and}
use Rattle.lists.proofs.Actions.{actions}
use borrow.Author.Rules.{rules}
use Rattle.lists.proofs.entries.action_at.Goals as goal

pub returns-in_err-position : goal.returns-in_err-position
returns-in_err-position c = let p = err_from_is_err_and c.from_residual.result c.from_residual.ensures.1 in rw (p.1, p.2) (search (actions, c.in_err-position.ensures, rules))

pub bounds-source-actions-then-position-source : goal.bounds-source-actions-then-position-source
bounds-source-actions-then-position-source c = search (actions, rules)

pub returns-then-position-source : goal.returns-then-position-source
returns-then-position-source c = search (actions, c.in_ok-position.ensures, rules)

pub returns-else-position-source : goal.returns-else-position-source
returns-else-position-source c = search (actions, c.in_ok-position.ensures, rules)
