-- One key against one pattern, by the kind of the key.
use mathlib.Core.Bool.{Bool, true, false}
use mathlib.Core.Path.{◌≡◌, refl, sym, ◌∙◌}
use mathlib.Core.List.{List, ◌∷◌}
use Prim.Native.Nat.{ℕ, ◌+◌, ◌≤◌, ◌<◌}
use native.Mathlib.Omega.{arith}
use lib.Dec.{eqb, leb}
use lib.ListN.{length, get_or}
use borrow.Author.Tests.{leb-true}
use Rattle.rules.specs.Words.{fits_width, prefix_fits, prefix_matches, mask_matches}
use Rattle.rules.specs.Syntax.{KeyKind}
use Rattle.rules.specs.Lists.{Pattern}
use Rattle.rules.specs.Running.{Worked, pattern_fits, matches, prefix_of}
use Rattle.rules.proofs.Predicates.{and_both}
use Rattle.program.specs.Codes.{key_kind_number}
use Rattle.lists.specs.Listing.{pattern_size}
use Rattle.lists.specs.Stands.{StandsPattern, on-exact, on-lpm, on-ternary}
use Rattle.lookup.specs.Matching.{StandsWorked, AsksOne, prefix_behind, TellsOne}

module _ (nums directory keys : List ℕ) (from slot j at : ℕ) (a : AsksOne nums directory keys from slot j at) where
  -- behind the value of an lpm or a ternary key stands another number
  pub second-inside : (get_or nums from 0 ≡ 0 → ⊥) → at + 1 < length nums
  unfolding key_kind_number
  second-inside n = go a.stands.stands a.stands.kind_is.is
    where
      go : {kind : KeyKind} {p : Pattern} → StandsPattern nums at kind p → get_or nums from 0 ≡ key_kind_number kind
          → at + 1 < length nums
      go (on-exact v) e = absurd (n e)
      go (on-lpm v prefix) e = prefix.inside
      go (on-ternary v mask) e = mask.inside

  -- an lpm key's prefix is at most its width, which is at most the widest
  pub prefix-fits : get_or nums from 0 ≡ 1 → (get_or nums (at + 1) 0 ≤ get_or directory slot 0) × (get_or directory slot 0 ≤ 64)
  unfolding key_kind_number pattern_fits prefix_fits
  prefix-fits k =
      go a.stands.stands a.stands.kind_is.is a.stands.fits
    where
      go : {kind : KeyKind} {p : Pattern} → StandsPattern nums at kind p → get_or nums from 0 ≡ key_kind_number kind
          → pattern_fits a.key.width p ≡ true
          → (get_or nums (at + 1) 0 ≤ get_or directory slot 0) × (get_or directory slot 0 ≤ 64)
      go (on-exact v) e f = absurd (omega (arith, e, k))
      go (on-lpm {v = n} {prefix = m} v prefix) e f =
          let b : (fits_width a.key.width n ≡ true) × (prefix_fits a.key.width n m ≡ true)
          = and_both (fits_width a.key.width n) (prefix_fits a.key.width n m) f in
          let d : (leb m a.key.width ≡ true) × _ = and_both (leb m a.key.width) _ b.1 in
          let l : m ≤ a.key.width = leb-true m a.key.width d.0 in
          (rw (prefix.is, a.stands.worked.width) l, rw a.stands.worked.width a.stands.worked.most)
      go (on-ternary v mask) e f = absurd (omega (arith, e, k))

-- what each kind tells
module _ (nums directory keys : List ℕ) (from slot j at : ℕ) where
  pub exact-told : (m : Bool) → get_or nums from 0 ≡ 0 → m ≡ eqb (get_or keys j 0) (get_or nums at 0)
      → TellsOne nums directory keys from slot j at m (at + 1) false 0
  unfolding key_kind_number matches pattern_size prefix_of prefix_behind
  exact-told m k e = record {
    told = λ kind w p s. go s.stands s.kind_is.is s.worked;
    next_is = λ kind w p s. size s.stands s.kind_is.is;
    prefix_is = λ kind w p s ps. others s.stands s.kind_is.is ps;
    no_prefix = λ _. refl;
  }
    where
      go : {kind : KeyKind} {p : Pattern} {w : Worked} → StandsPattern nums at kind p
          → get_or nums from 0 ≡ key_kind_number kind → StandsWorked directory keys slot j w
          → m ≡ matches w.width p w.number
      go (on-exact v) q w = e ∙ rw (w.number, v.is)
      go (on-lpm v prefix) q w = absurd (omega (arith, q, k))
      go (on-ternary v mask) q w = absurd (omega (arith, q, k))

      size : {kind : KeyKind} {p : Pattern} → StandsPattern nums at kind p → get_or nums from 0 ≡ key_kind_number kind
          → at + 1 ≡ at + pattern_size p
      size (on-exact v) q = refl
      size (on-lpm v prefix) q = absurd (omega (arith, q, k))
      size (on-ternary v mask) q = absurd (omega (arith, q, k))

      others : {kind : KeyKind} {p : Pattern} → StandsPattern nums at kind p → get_or nums from 0 ≡ key_kind_number kind
          → (ps : List Pattern) → prefix_of (p ∷ ps) ≡ prefix_of ps
      others (on-exact v) q ps = refl
      others (on-lpm v prefix) q ps = absurd (omega (arith, q, k))
      others (on-ternary v mask) q ps = absurd (omega (arith, q, k))

  pub lpm-told : (m : Bool) → get_or nums from 0 ≡ 1
      → m ≡ prefix_matches (get_or directory slot 0) (get_or nums (at + 1) 0) (get_or nums at 0) (get_or keys j 0)
      → TellsOne nums directory keys from slot j at m (at + 2) true (get_or nums (at + 1) 0)
  unfolding key_kind_number matches pattern_size prefix_of prefix_behind
  lpm-told m k e = record {
    told = λ kind w p s. go s.stands s.kind_is.is s.worked;
    next_is = λ kind w p s. size s.stands s.kind_is.is;
    prefix_is = λ kind w p s ps. own s.stands s.kind_is.is ps;
    no_prefix = λ q. let z : ◌≡◌ {A = ℕ} 0 1 = cc in absurd (omega arith);
  }
    where
      go : {kind : KeyKind} {p : Pattern} {w : Worked} → StandsPattern nums at kind p
          → get_or nums from 0 ≡ key_kind_number kind → StandsWorked directory keys slot j w
          → m ≡ matches w.width p w.number
      go (on-exact v) q w = absurd (omega (arith, q, k))
      go (on-lpm v prefix) q w = e ∙ rw (w.width, w.number, v.is, prefix.is)
      go (on-ternary v mask) q w = absurd (omega (arith, q, k))

      size : {kind : KeyKind} {p : Pattern} → StandsPattern nums at kind p → get_or nums from 0 ≡ key_kind_number kind
          → at + 2 ≡ at + pattern_size p
      size (on-exact v) q = absurd (omega (arith, q, k))
      size (on-lpm v prefix) q = refl
      size (on-ternary v mask) q = refl

      own : {kind : KeyKind} {p : Pattern} → StandsPattern nums at kind p → get_or nums from 0 ≡ key_kind_number kind
          → (ps : List Pattern) → prefix_of (p ∷ ps) ≡ get_or nums (at + 1) 0
      own (on-exact v) q ps = absurd (omega (arith, q, k))
      own (on-lpm v prefix) q ps = sym prefix.is
      own (on-ternary v mask) q ps = absurd (omega (arith, q, k))

  pub ternary-told : (m : Bool) → (get_or nums from 0 ≡ 0 → ⊥) → (get_or nums from 0 ≡ 1 → ⊥)
      → m ≡ mask_matches (get_or nums (at + 1) 0) (get_or nums at 0) (get_or keys j 0)
      → TellsOne nums directory keys from slot j at m (at + 2) false 0
  unfolding key_kind_number matches pattern_size prefix_of prefix_behind
  ternary-told m n₀ n₁ e = record {
    told = λ kind w p s. go s.stands s.kind_is.is s.worked;
    next_is = λ kind w p s. size s.stands s.kind_is.is;
    prefix_is = λ kind w p s ps. others s.stands s.kind_is.is ps;
    no_prefix = λ _. refl;
  }
    where
      go : {kind : KeyKind} {p : Pattern} {w : Worked} → StandsPattern nums at kind p
          → get_or nums from 0 ≡ key_kind_number kind → StandsWorked directory keys slot j w
          → m ≡ matches w.width p w.number
      go (on-exact v) q w = absurd (n₀ q)
      go (on-lpm v prefix) q w = absurd (n₁ q)
      go (on-ternary v mask) q w = e ∙ rw (w.number, v.is, mask.is)

      size : {kind : KeyKind} {p : Pattern} → StandsPattern nums at kind p → get_or nums from 0 ≡ key_kind_number kind
          → at + 2 ≡ at + pattern_size p
      size (on-exact v) q = absurd (n₀ q)
      size (on-lpm v prefix) q = refl
      size (on-ternary v mask) q = refl

      others : {kind : KeyKind} {p : Pattern} → StandsPattern nums at kind p → get_or nums from 0 ≡ key_kind_number kind
          → (ps : List Pattern) → prefix_of (p ∷ ps) ≡ prefix_of ps
      others (on-exact v) q ps = absurd (n₀ q)
      others (on-lpm v prefix) q ps = absurd (n₁ q)
      others (on-ternary v mask) q ps = refl

pub ruleset ones = (second-inside, prefix-fits, exact-told, lpm-told, ternary-told)
