-- A reader that gave something, taken apart: what the readers in it gave, from which index to which.
use mathlib.Core.Bool.{Bool, true, false}
use mathlib.Core.Option.{Option, none, some}
use mathlib.Core.Path.{◌≡◌, refl, sym, ◌∙◌}
use mathlib.Core.List.{List, [], ◌∷◌}
use Prim.Native.Nat.{ℕ, suc, ◌+◌, ◌≤◌, ◌<◌}
use native.Mathlib.Omega.{arith}
use lib.ListN.{length, get_or, drop}
use lib.Dec.{ltb, leb}
use borrow.Author.Tests.{ltb-true, ltb-false, leb-true}
use Rattle.rules.specs.Reading.{Got, got, bad, Reader, and_then, ◌>>=◌, pure, here, number, meaning, stands_for, within, between, repeat, list_of, too_deep}
use Rattle.rules.proofs.Readers.{Kept, Keeps, number_in, number-out, looked-in, looked-out, deep_in, deep_out, keeps-between, keeps-repeat}
use Rattle.rules.proofs.Readers as gives
use Rattle.program.specs.Stands.{Holds, HoldsWithin}

-- what a reader gave from an index to another
pub record Reads {A : Type 0} (read : Reader A) (nums : List ℕ) (at next : ℕ) (a : A) : Type 0 where
  pub gave : read (drop at nums) at ≡ got a (drop next nums) next

pub reads-to : {A : Type 0} {read : Reader A} {nums : List ℕ} {at mid next : ℕ} {a : A} → mid ≡ next
    → Reads read nums at mid a → Reads read nums at next a
reads-to e r = rw (← e) r

pub reads-from : {A : Type 0} {read : Reader A} {nums : List ℕ} {at other next : ℕ} {a : A} → at ≡ other
    → Reads read nums at next a → Reads read nums other next a
reads-from e r = rw (← e) r

-- one reader behind another
pub record Both {A B : Type 0} (read : Reader A) (k : A → Reader B) (nums : List ℕ) (at next : ℕ) (b : B) : Type 0 where
  pub result : A
  pub mid : ℕ
  pub first : Reads read nums at mid result
  pub second : Reads (k result) nums mid next b

module _ {A B : Type 0} {read : Reader A} {k : A → Reader B} {nums : List ℕ} {at next : ℕ} {b : B} where
  pub both : Keeps read → Reads (read >>= k) nums at next b → Both read k nums at next b
  unfolding ◌>>=◌ and_then Kept
  both h r = go (read (drop at nums) at) refl (h.kept nums at) r.gave
    where
      go : (x : Got A) → read (drop at nums) at ≡ x → Kept nums at x → and_then x k ≡ got b (drop next nums) next
          → Both read k nums at next b
      go (got a left mid) e l f =
          record {
            result = a;
            mid = mid;
            first = record { gave = e ∙ rw l.rest };
            second = record {
              gave = rw
                  l.rest at f;
            };
          }
      go (bad fault index) e l f = let z : ◌≡◌ {A = ℕ} 0 1 = cc in absurd (omega arith)

-- nothing read, and the index itself
pub record Given {A : Type 0} (a b : A) (at next : ℕ) : Type 0 where
  pub same : a ≡ b
  pub stays : at ≡ next

pub reads-pure : {A : Type 0} {a b : A} {nums : List ℕ} {at next : ℕ} → Reads (pure a) nums at next b
    → Given a b at next
unfolding pure
reads-pure r = record { same = let e = r.gave in cc; stays = let e = r.gave in cc }

pub reads_here : {B : Type 0} (k : ℕ → Reader B) {nums : List ℕ} {at next : ℕ} {b : B}
    → Reads (here >>= k) nums at next b
    → Reads (k at) nums at next b
unfolding here ◌>>=◌ and_then
reads_here k r = record { gave = r.gave }

-- a number, and one that stands for something
pub record Number (nums : List ℕ) (at next n : ℕ) : Type 0 where
  pub holds : Holds nums at n
  pub next_is : next ≡ at + 1

pub reads-number : {nums : List ℕ} {at next n : ℕ} → Reads number nums at next n → Number nums at next n
reads-number {nums} {at} {next} {n} r = go (ltb at (length nums)) refl
  where
    go : (b : Bool) → ltb at (length nums) ≡ b → Number nums at next n
    go true e =
        let h : at < length nums = ltb-true at (length nums) e in
        let g : got (get_or nums at 0) (drop (suc at) nums) (suc at) ≡ got n (drop next nums) next
        = sym (number_in nums at h) ∙ r.gave in
        let v : get_or nums at 0 ≡ n = cc in
        let m : suc at ≡ next = cc in
        record { holds = record { inside = h; is = v }; next_is = omega (arith, m) }
    go false e =
        let g : bad 4 at ≡ got n (drop next nums) next
        = sym (number-out nums at (ltb-false at (length nums) e)) ∙ r.gave in
        let z : ◌≡◌ {A = ℕ} 0 1 = cc in
        absurd (omega arith)

pub record Meant {A : Type 0} (what : ℕ → Option A) (nums : List ℕ) (at next : ℕ) (a : A) : Type 0 where
  pub inside : at < length nums
  pub means : what (get_or nums at 0) ≡ some a
  pub next_is : next ≡ at + 1

pub reads-stands : {A : Type 0} {what : ℕ → Option A} {nums : List ℕ} {at next : ℕ} {a : A}
    → Reads (stands_for what) nums at next a
    → Meant what nums at next a
unfolding stands_for meaning
reads-stands {A} {what} {nums} {at} {next} {a} r = go (ltb at (length nums)) refl
  where
    inner : (x : Option A) → at < length nums → what (get_or nums at 0) ≡ x
        → meaning 4 x (drop (suc at) nums) at ≡ got a (drop next nums) next → Meant what nums at next a
    inner none h e g = let z : ◌≡◌ {A = ℕ} 0 1 = cc in absurd (omega arith)
    inner (some b) h e g =
        let v : b ≡ a = cc in
        let m : suc at ≡ next = cc in
        record { inside = h; means = e ∙ rw v; next_is = omega (arith, m) }

    go : (b : Bool) → ltb at (length nums) ≡ b → Meant what nums at next a
    go true e =
        let h : at < length nums = ltb-true at (length nums) e in
        inner (what (get_or nums at 0)) h refl (sym (looked-in 4 what nums at h) ∙ r.gave)
    go false e =
        let g : bad 4 at ≡ got a (drop next nums) next
        = sym (looked-out 4 what nums at (ltb-false at (length nums) e)) ∙ r.gave in
        let z : ◌≡◌ {A = ℕ} 0 1 = cc in
        absurd (omega arith)

-- a number within bounds
pub within-some : (least most n m : ℕ) → within least most n ≡ some m → (n ≡ m) × ((least ≤ n) × (n ≤ most))
unfolding within
within-some least most n m e = go (leb least n) refl (leb n most) refl e
  where
    go : (b : Bool) → leb least n ≡ b → (d : Bool) → leb n most ≡ d → within least most n ≡ some m
        → (n ≡ m) × ((least ≤ n) × (n ≤ most))
    go true p true q f =
        let g : some n ≡ some m = rw (within, p, q) at f in
        let v : n ≡ m = cc in
        (v, (leb-true least n p, leb-true n most q))
    go true p false q f =
        let g : none ≡ some m = rw (within, p, q) at f in
        let z : ◌≡◌ {A = ℕ} 0 1 = cc in
        absurd (omega arith)
    go false p d q f =
        let g : none ≡ some m = rw (within, p) at f in
        let z : ◌≡◌ {A = ℕ} 0 1 = cc in
        absurd (omega arith)

pub record Bounded (least most : ℕ) (nums : List ℕ) (at next n : ℕ) : Type 0 where
  pub holds : HoldsWithin least most nums at n
  pub next_is : next ≡ at + 1

pub reads-between : {least most : ℕ} {nums : List ℕ} {at next n : ℕ} → Reads (between least most) nums at next n
    → Bounded least most nums at next n
unfolding between
reads-between {least} {most} {nums} {at} {next} {n} r =
    let m : Meant (within least most) nums at next n = reads-stands r in
    let w : (get_or nums at 0 ≡ n) × ((least ≤ get_or nums at 0) × (get_or nums at 0 ≤ most))
    = within-some least most (get_or nums at 0) n m.means in
    record {
      holds = record {
        holds = record { inside = m.inside; is = w.0 };
        at_least = rw w.0 at w.1.0;
        at_most = rw w.0 at w.1.1;
      };
      next_is = m.next_is;
    }

-- a list: its count, then so many
pub record Counted {A : Type 0} (least most : ℕ) (one : Reader A) (nums : List ℕ) (at next : ℕ)
    (xs : List A) : Type 0 where
  pub holds : HoldsWithin least most nums at (length xs)
  pub members : Reads (repeat (length xs) one) nums (at + 1) next xs

repeat-length : {A : Type 0} (n : ℕ) (one : Reader A) {nums : List ℕ} {at next : ℕ} {xs : List A}
    → Reads (repeat n one) nums at next xs → length xs ≡ n
unfolding gives.Given
repeat-length n one {nums} {at} r = rw r.gave at ((gives.gives-repeat n one).given (drop at nums) at)

pub reads-list : {A : Type 0} {least most : ℕ} {one : Reader A} {nums : List ℕ} {at next : ℕ} {xs : List A}
    → Reads (list_of least most one) nums at next xs → Counted least most one nums at next xs
unfolding list_of
reads-list {A} {least} {most} {one} {nums} {at} {next} {xs} r =
    let b : Both (between least most) (λ n. repeat n one) nums at next xs = both (keeps-between least most) r in
    let c : Bounded least most nums at b.mid b.result = reads-between b.first in
    let l : length xs ≡ b.result = repeat-length b.result one b.second in
    record { holds = rw l c.holds; members = rw (l, ← c.next_is) b.second }

-- none of some, and the first of more
pub reads_none : {A : Type 0} (one : Reader A) {nums : List ℕ} {at next : ℕ} {xs : List A}
    → Reads (repeat 0 one) nums at next xs → Given [] xs at next
unfolding repeat
reads_none one r = reads-pure r

pub record Head {A : Type 0} (n : ℕ) (one : Reader A) (nums : List ℕ) (at next : ℕ) (xs : List A) : Type 0 where
  pub member : A
  pub others : List A
  pub mid : ℕ
  pub same : xs ≡ member ∷ others
  pub first : Reads one nums at mid member
  pub rest : Reads (repeat n one) nums mid next others

pub reads_more : {A : Type 0} {n : ℕ} {one : Reader A} {nums : List ℕ} {at next : ℕ} {xs : List A} → Keeps one
    → Reads (repeat (suc n) one) nums at next xs → Head n one nums at next xs
unfolding repeat
reads_more {A} {n} {one} {nums} {at} {next} {xs} h r =
    let b : Both one (λ a. repeat n one >>= λ rest. pure (a ∷ rest)) nums at next xs = both h r in
    let d : Both (repeat n one) (λ rest. pure (b.result ∷ rest)) nums b.mid next xs
    = both (keeps-repeat n h) b.second in
    let p : Given (b.result ∷ d.result) xs d.mid next = reads-pure d.second in
    record {
      member = b.result;
      others = d.result;
      mid = b.mid;
      same = sym p.same;
      first = b.first;
      rest = reads-to p.stays d.first;
    }

-- no reader gives anything below the deepest level
pub reads-deep : {A : Type 0} {nums : List ℕ} {at next : ℕ} {a : A} → Reads too_deep nums at next a → ⊥
reads-deep {A} {nums} {at} {next} {a} r = go (ltb at (length nums)) refl
  where
    go : (b : Bool) → ltb at (length nums) ≡ b → ⊥
    go true e =
        let g : bad 5 at ≡ got a (drop next nums) next
        = sym (deep_in nums at (ltb-true at (length nums) e)) ∙ r.gave in
        let z : ◌≡◌ {A = ℕ} 0 1 = cc in
        omega arith
    go false e =
        let g : bad 4 at ≡ got a (drop next nums) next
        = sym (deep_out nums at (ltb-false at (length nums) e)) ∙ r.gave in
        let z : ◌≡◌ {A = ℕ} 0 1 = cc in
        omega arith
