-- What carries it: an expression and a list of pairs.
use mathlib.Core.Path.{refl}
use Rattle.std.proofs.lemmas.Result.{err_from_is_err_and}
use Rattle.shape.proofs.Transitions.{select-past, transitions}
use borrow.Author.Rules.{rules}
use Rattle.shape.proofs.states.select_at.Goals as goal

pub returns-in_err-next : goal.returns-in_err-next
returns-in_err-next c = let p = err_from_is_err_and c.from_residual.result c.from_residual.ensures.1 in rw (p.1, p.2) (search (transitions, c.in_err-next.ensures, rules))

pub returns : goal.returns
returns c = select-past _ _ _ _ _ _ _ _ _ c.in_ok-next.ensures refl c.list_at.ensures (λ at r p. search rules)
