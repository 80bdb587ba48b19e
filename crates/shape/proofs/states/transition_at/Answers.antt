-- What carries it: a transition by the number of its tag.
use Rattle.std.proofs.lemmas.Result.{err_from_is_err_and}
use Rattle.shape.proofs.Transitions.{transitions}
use borrow.Author.Rules.{rules}
use Rattle.shape.proofs.states.transition_at.Goals as goal

pub returns-in_err-value : goal.returns-in_err-value
returns-in_err-value c = let p = err_from_is_err_and c.from_residual.result c.from_residual.ensures.1 in rw (p.1, p.2) (search (transitions, c.in_err-value.ensures, rules))

pub returns-in-2 : goal.returns-in-2
returns-in-2 c = search (transitions, c.in_ok-value.ensures, rules)

pub returns-in-3 : goal.returns-in-3
returns-in-3 c = search (transitions, c.in_ok-value.ensures, rules)

pub returns-in-4 : goal.returns-in-4
returns-in-4 c = search (transitions, c.in_ok-value.ensures, rules)

pub returns-in_default : goal.returns-in_default
returns-in_default c = search (transitions, c.in_ok-value.ensures, rules)
