-- The promise of the judge of lists allows one outcome: any two that it allows are equal.
use mathlib.Core.Path.{◌≡◌, sym, ◌∙◌}
use mathlib.Core.List.{List}
use Prim.Native.Nat.{ℕ}
use native.Mathlib.Omega.{arith}
use Rattle.std.specs.Prelude.{Result, Ok, Err}
use Rattle.rules.specs.declared.Fault as rules
use Rattle.rules.specs.Answers.{number_of}
use Rattle.rules.proofs.Same.{reason-same}
use Rattle.lists.specs.declared.Lists as coded
use Rattle.lists.specs.Listing.{told_listed, AsksLists, ListsJudged, JudgesLists}

same-listed : (r s : Result coded.Lists rules.Fault) → told_listed r ≡ told_listed s → r ≡ s
same-listed (Ok l) (Ok m) e =
    let f : l.store ≡ m.store = cc in
    let g : l.length ≡ m.length = cc in
    rw (f, g)
same-listed (Ok l) (Err f) e = let z : ◌≡◌ {A = ℕ} 0 1 = cc in absurd (omega arith)
same-listed (Err f) (Ok l) e = let z : ◌≡◌ {A = ℕ} 0 1 = cc in absurd (omega arith)
same-listed (Err f) (Err g) e =
    let n : number_of f.reason ≡ number_of g.reason = cc in
    let m : f.reason ≡ g.reason = reason-same f.reason g.reason n in
    let o : f.index ≡ g.index = cc in
    rw (m, o)

-- the answer, and what the entries and the offsets are left with
pub one-judge-lists : (nums directory ends widths entries left other offsets laid laid₂ : List ℕ)
    (r s : Result coded.Lists rules.Fault)
    → AsksLists nums directory ends widths
    → JudgesLists nums directory ends widths entries left offsets laid r
    → JudgesLists nums directory ends widths entries other offsets laid₂ s
    → (r ≡ s) × (left ≡ other) × (laid ≡ laid₂)
one-judge-lists nums directory ends widths entries left other offsets laid laid₂ r s h p q =
    let a : ListsJudged h.program h.end nums entries left offsets laid (told_listed r)
    = p.judged h.program h.end h.stands h.known in
    let b : ListsJudged h.program h.end nums entries other offsets laid₂ (told_listed s)
    = q.judged h.program h.end h.stands h.known in
    (same-listed r s (a.answer ∙ sym b.answer), a.entries_are ∙ sym b.entries_are, a.offsets_are ∙ sym b.offsets_are)
