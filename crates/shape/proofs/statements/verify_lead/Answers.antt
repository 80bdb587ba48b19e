-- What carries it: a verify is its condition and its error.
use Rattle.std.proofs.lemmas.Result.{err_from_is_err_and}
use Rattle.shape.proofs.Targets.{verifies}
use borrow.Author.Rules.{rules}
use Rattle.shape.proofs.statements.verify_lead.Goals as goal

pub returns-in_err-next : goal.returns-in_err-next
returns-in_err-next c = let p = err_from_is_err_and c.from_residual.result c.from_residual.ensures.1 in rw (p.1, p.2) (search (verifies, c.in_err-next.ensures, rules))

pub returns : goal.returns
returns c = search (verifies, c.in_ok-next.ensures, rules)
