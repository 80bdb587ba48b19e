-- What carries it: a list is its count and its members.
use Rattle.std.proofs.lemmas.Result.{err_from_is_err_and}
use Rattle.shape.proofs.Listings.{lists}
use borrow.Author.Rules.{rules}
use Rattle.shape.proofs.items.list_at.Goals as goal

pub returns-in_err-value : goal.returns-in_err-value
returns-in_err-value g c = let p = err_from_is_err_and c.from_residual.result c.from_residual.ensures.1 in rw (p.1, p.2) (search (lists, c.in_err-value.ensures, rules))

pub returns : goal.returns
returns g c = search (lists, c.in_ok-value.ensures, rules)
