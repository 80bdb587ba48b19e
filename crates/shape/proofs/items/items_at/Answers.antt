-- What carries it: what is left of the items scans to what all of them do.
use Rattle.std.proofs.lemmas.Result.{err_from_is_err_and}
use Rattle.shape.proofs.Listings.{lists}
use borrow.Author.Rules.{rules}
use Rattle.shape.proofs.items.items_at.Goals as goal

pub returns-in_err-next : goal.returns-in_err-next
returns-in_err-next g c = let p = err_from_is_err_and c.from_residual.result c.from_residual.ensures.1 in rw (p.1, p.2) (search (lists, c.in_err-next.ensures, rules))

pub loop-preserved : goal.loop-preserved
loop-preserved g c = search (lists, c.in_ok-next.ensures, rules)

pub returns : goal.returns
returns g c = search (lists, rules)
