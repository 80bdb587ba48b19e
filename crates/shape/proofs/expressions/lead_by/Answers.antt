-- What carries it: the laws of leads.
use Rattle.std.proofs.lemmas.Result.{err_from_is_err_and}
use Rattle.shape.proofs.Tags.{leads}
use borrow.Author.Rules.{rules}
use Rattle.shape.proofs.expressions.lead_by.Goals as goal

pub returns-in_err-next : goal.returns-in_err-next
returns-in_err-next c = let p = err_from_is_err_and c.from_residual.result c.from_residual.ensures.1 in rw (p.1, p.2) (search (leads, c.in_err-next.was, rules))

pub returns : goal.returns
returns c = search (leads, c.in_ok-next.was, rules)
