-- What carries it: how each part of a program scans.
use mathlib.Core.Path.{refl}
use Rattle.std.proofs.lemmas.Result.{err_from_is_err_and}
use Rattle.shape.proofs.Holders.{choices-past, holders}
use borrow.Author.Rules.{rules}
use Rattle.shape.proofs.tables.choices_at.Goals as goal

pub returns-in_err-next : goal.returns-in_err-next
returns-in_err-next c = let p = err_from_is_err_and c.from_residual.result c.from_residual.ensures.1 in rw (p.1, p.2) (search (holders, c.in_err-next.ensures, rules))

pub returns : goal.returns
returns c = choices-past _ _ _ _ _ _ _ _ _ c.in_ok-next.ensures refl c.list_at.ensures (λ at r p. search rules)
