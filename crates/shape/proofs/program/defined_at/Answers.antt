-- What carries it: two lists of parts, one after the other.
use mathlib.Core.Path.{refl}
use Rattle.std.proofs.lemmas.Result.{err_from_is_err_and}
use Rattle.shape.proofs.Starts.{defined-past, defined-fault, defined-ends, defined-no-ends, reads-parts}
use borrow.Author.Rules.{rules}
use Rattle.shape.proofs.program.defined_at.Goals as goal

pub returns-in_err-next-clause-lays_directory : goal.returns-in_err-next-clause-lays_directory
returns-in_err-next-clause-lays_directory c = let p = err_from_is_err_and c.from_residual.result c.from_residual.ensures.1 in rw (p.1, p.2) (defined-fault _ _ _ c.in_err-next.ensures (reads-parts _ _ _ λ at e e₂ r p. search rules) refl)

pub returns-in_err-next-clause-lays_ends : goal.returns-in_err-next-clause-lays_ends
returns-in_err-next-clause-lays_ends c = let p = err_from_is_err_and c.from_residual.result c.from_residual.ensures.1 in rw (p.1, p.2) (defined-no-ends _ _ _ c.in_err-next.ensures (reads-parts _ _ _ λ at e e₂ r p. search rules) refl)

pub returns-clause-lays_directory : goal.returns-clause-lays_directory
returns-clause-lays_directory c = defined-past _ _ _ c.in_ok-next.ensures (reads-parts _ _ _ λ at e e₂ r p. search rules) refl c.part_list_at-2.ensures (reads-parts _ _ _ λ at e e₂ r p. search rules)

pub returns-clause-lays_ends : goal.returns-clause-lays_ends
returns-clause-lays_ends c = defined-ends _ _ _ c.in_ok-next.ensures (reads-parts _ _ _ λ at e e₂ r p. search rules) refl c.part_list_at-2.ensures (reads-parts _ _ _ λ at e e₂ r p. search rules)
