-- What carries it: a statement and then a transition.
use Rattle.std.proofs.lemmas.Result.{err_from_is_err_and}
use Rattle.shape.proofs.Transitions.{states}
use borrow.Author.Rules.{rules}
use Rattle.shape.proofs.states.state_at.Goals as goal

pub returns-in_err-next : goal.returns-in_err-next
returns-in_err-next c = let p = err_from_is_err_and c.from_residual.result c.from_residual.ensures.1 in rw (p.1, p.2) (search (states, c.in_err-next.ensures, rules))

pub returns : goal.returns
returns c = search (states, c.in_ok-next.ensures, rules)
