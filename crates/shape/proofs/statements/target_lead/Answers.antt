-- What carries it: a target that reads is inside the list.
use Rattle.std.proofs.lemmas.Result.{err_from_is_err_and}
use Rattle.shape.proofs.Targets.{target_leads}
use borrow.Author.Rules.{rules}
use Rattle.shape.proofs.statements.target_lead.Goals as goal

pub returns-in_err-next : goal.returns-in_err-next
returns-in_err-next c = let p = err_from_is_err_and c.from_residual.result c.from_residual.ensures.1 in rw (p.1, p.2) (search (target_leads, c.in_err-next.ensures, rules))

pub offset_bounds-ends-at : goal.offset_bounds-ends-at
offset_bounds-ends-at c = search (target_leads, c.in_ok-next.ensures, rules)

pub bounds-ends-at : goal.bounds-ends-at
bounds-ends-at c = search (target_leads, c.in_ok-next.ensures, rules)

pub returns : goal.returns
returns c = search (target_leads, c.in_ok-next.ensures, rules)
