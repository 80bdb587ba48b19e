-- What carries it: how each part of a program scans.
use Rattle.std.proofs.lemmas.Result.{err_from_is_err_and}
use Rattle.shape.proofs.Parts.{parts}
use borrow.Author.Rules.{rules}
use Rattle.shape.proofs.callables.returning_at.Goals as goal

pub returns-in_err-value : goal.returns-in_err-value
returns-in_err-value c = let p = err_from_is_err_and c.from_residual.result c.from_residual.ensures.1 in rw (p.1, p.2) (search (parts, c.in_err-value.ensures, rules))

pub returns-then-value-eq0 : goal.returns-then-value-eq0
returns-then-value-eq0 c = search (parts, c.in_ok-value.ensures, rules)

pub returns-else-value-eq0 : goal.returns-else-value-eq0
returns-else-value-eq0 c = search (parts, c.in_ok-value.ensures, rules)
