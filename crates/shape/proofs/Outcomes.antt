-- The public operation's promise allows one outcome: any two that it allows are equal.
use mathlib.Core.Path.{◌≡◌, sym, ◌∙◌}
use mathlib.Core.List.{List}
use Prim.Native.Nat.{ℕ}
use native.Mathlib.Omega.{arith}
use Rattle.std.specs.Prelude.{Result, Ok, Err}
use Rattle.rules.specs.declared.Fault as rules
use Rattle.rules.specs.Answers.{number_of}
use Rattle.rules.proofs.Same.{reason-same}
use Rattle.shape.specs.Ends.{ScansProgram}
use Rattle.shape.specs.Scans.{Scan, told}

same-scanned : (r s : Result ℕ rules.Fault) → told r ≡ told s → r ≡ s
same-scanned (Ok a) (Ok b) e =
    let f : a ≡ b = cc in
    rw f
same-scanned (Ok a) (Err g) e = let z : ◌≡◌ {A = ℕ} 0 1 = cc in absurd (omega arith)
same-scanned (Err f) (Ok b) e = let z : ◌≡◌ {A = ℕ} 0 1 = cc in absurd (omega arith)
same-scanned (Err f) (Err g) e =
    let n : number_of f.reason ≡ number_of g.reason = cc in
    let m : f.reason ≡ g.reason = reason-same f.reason g.reason n in
    let o : f.index ≡ g.index = cc in
    rw (m, o)

-- what is told, and what the directory and the ends are left with
pub one-scan : (nums directory left other ends laid laid₂ : List ℕ) (r s : Scan)
    → ScansProgram nums directory left ends laid r
    → ScansProgram nums directory other ends laid₂ s
    → (r ≡ s) × (left ≡ other) × (laid ≡ laid₂)
one-scan nums directory left other ends laid laid₂ r s p q =
    (p.answer ∙ sym q.answer, p.parts ∙ sym q.parts, p.laid ∙ sym q.laid)

-- the answer, and what they are left with
pub one-scan-program : (nums directory left other ends laid laid₂ : List ℕ) (r s : Result ℕ rules.Fault)
    → ScansProgram nums directory left ends laid (told r)
    → ScansProgram nums directory other ends laid₂ (told s)
    → (r ≡ s) × (left ≡ other) × (laid ≡ laid₂)
one-scan-program nums directory left other ends laid laid₂ r s p q =
    let same = one-scan nums directory left other ends laid laid₂ (told r) (told s) p q in
    (same-scanned r s same.0, same.1, same.2)
