-- What carries it: how each part of a program scans.
use Rattle.std.proofs.lemmas.Result.{err_from_is_err_and}
use Rattle.shape.proofs.Parts.{parts}
use borrow.Author.Rules.{rules}
use Rattle.shape.proofs.tables.default_at.Goals as goal

pub returns-in_err-next : goal.returns-in_err-next
returns-in_err-next c = let p = err_from_is_err_and c.from_residual.result c.from_residual.ensures.1 in rw (p.1, p.2) (search (parts, c.in_err-next.ensures, rules))

pub returns : goal.returns
returns c = search (parts, c.in_ok-next.ensures, rules)
