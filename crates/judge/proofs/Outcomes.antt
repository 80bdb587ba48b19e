-- The judge's promise allows one outcome: any two that it allows are equal, the answer and what is left in every slot.
use mathlib.Core.Path.{◌≡◌, sym, ◌∙◌}
use mathlib.Core.List.{List}
use Prim.Native.Nat.{ℕ}
use native.Mathlib.Omega.{arith}
use Rattle.std.specs.Prelude.{Result, Ok, Err}
use Rattle.rules.specs.declared.Fault as rules
use Rattle.rules.specs.Answers.{number_of}
use Rattle.rules.proofs.Same.{reason-same}
use Rattle.judge.specs.declared.Verdict as coded
use Rattle.judge.specs.Verdicts.{told_verdict, JudgesNumbers}

same-verdict : (r s : Result coded.Verdict rules.Fault) → told_verdict r ≡ told_verdict s → r ≡ s
same-verdict (Ok v) (Ok w) e =
    let f : v.ceiling ≡ w.ceiling = cc in
    let g : v.store ≡ w.store = cc in
    let h : v.length ≡ w.length = cc in
    rw (f, g, h)
same-verdict (Ok v) (Err f) e = let z : ◌≡◌ {A = ℕ} 0 1 = cc in absurd (omega arith)
same-verdict (Err f) (Ok v) e = let z : ◌≡◌ {A = ℕ} 0 1 = cc in absurd (omega arith)
same-verdict (Err f) (Err g) e =
    let n : number_of f.reason ≡ number_of g.reason = cc in
    let m : f.reason ≡ g.reason = reason-same f.reason g.reason n in
    let o : f.index ≡ g.index = cc in
    rw (m, o)

pub record SameOutcome (directory directory₂ ends ends₂ widths widths₂ entries entries₂ offsets offsets₂ : List ℕ)
    (r s : Result coded.Verdict rules.Fault) : Type 0 where
  pub verdict : r ≡ s
  pub directory_is : directory ≡ directory₂
  pub ends_are : ends ≡ ends₂
  pub widths_are : widths ≡ widths₂
  pub entries_are : entries ≡ entries₂
  pub offsets_are : offsets ≡ offsets₂

pub one-judge : (nums directory directory' directory'' ends ends' ends'' widths widths' widths'' entries entries' entries''
    offsets offsets' offsets'' : List ℕ) (r s : Result coded.Verdict rules.Fault)
    → JudgesNumbers nums directory directory' ends ends' widths widths' entries entries' offsets offsets' r
    → JudgesNumbers nums directory directory'' ends ends'' widths widths'' entries entries'' offsets offsets'' s
    → SameOutcome directory' directory'' ends' ends'' widths' widths'' entries' entries'' offsets' offsets'' r s
one-judge nums directory directory' directory'' ends ends' ends'' widths widths' widths'' entries entries' entries'' offsets
    offsets' offsets'' r s p q = record {
      verdict = same-verdict r s (p.verdict ∙ sym q.verdict);
      directory_is = p.directory_is ∙ sym q.directory_is;
      ends_are = p.ends_are ∙ sym q.ends_are;
      widths_are = p.widths_are ∙ sym q.widths_are;
      entries_are = p.entries_are ∙ sym q.entries_are;
      offsets_are = p.offsets_are ∙ sym q.offsets_are;
    }
