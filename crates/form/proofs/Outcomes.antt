-- The promise of the judgement of a program allows one outcome: any two that it allows are equal.
use mathlib.Core.Path.{◌≡◌, refl, sym, ap, ◌∙◌}
use mathlib.Core.List.{List}
use Prim.Native.Nat.{ℕ}
use native.Mathlib.Omega.{arith}
use Rattle.std.specs.Prelude.{Ok, Err}
use Rattle.program.specs.Stands.{SomeProgram}
use Rattle.bodies.proofs.Same.{fault-once}
use Rattle.form.specs.Claims.{Formal, told_form, JudgesForm}

same-told : (r s : Formal) → told_form r ≡ told_form s → r ≡ s
unfolding told_form
same-told (Ok a) (Ok b) e = refl
same-told (Ok a) (Err f) e = let z : ◌≡◌ {A = ℕ} 0 1 = cc in absurd (omega arith)
same-told (Err f) (Ok b) e = let z : ◌≡◌ {A = ℕ} 0 1 = cc in absurd (omega arith)
same-told (Err f) (Err g) e = ap Err (fault-once f g e)

-- the answer, and what the widths are left with
pub one-judge-form : (nums directory ends widths left other : List ℕ) (r s : Formal) → SomeProgram nums directory ends
    → JudgesForm nums directory ends widths left r → JudgesForm nums directory ends widths other s
    → (r ≡ s) × (left ≡ other)
one-judge-form nums directory ends widths left other r s h p q = (
  same-told r s (p.judged h.program h.end h.stands ∙ sym (q.judged h.program h.end h.stands)),
  p.laid h.program h.end h.stands ∙ sym (q.laid h.program h.end h.stands),
)
