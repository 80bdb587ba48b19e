-- Scanning, step by step: a number that must pass a test, and one reader behind another.
use mathlib.Core.Bool.{Bool, true, false}
use mathlib.Core.Option.{some}
use mathlib.Core.Path.{◌≡◌, refl, sym, ◌∙◌}
use mathlib.Core.List.{List}
use Prim.Native.Nat.{ℕ, zero, suc, ◌+◌, ◌<◌}
use native.Mathlib.Omega.{arith}
use native.Mathlib.Numerals.{add-one}
use lib.ListN.{length, get_or, drop}
use lib.Dec.{ltb}
use borrow.Author.Tests.{ltb-true, ltb-false}
use Rattle.rules.specs.Words.{fits_width}
use Rattle.rules.specs.Reading.{Got, got, bad, Reader, and_then, ◌>>=◌, pure, meaning}
use Rattle.rules.specs.Form.{only_if, fits}
use Rattle.rules.specs.Lists.{passing}
use Rattle.rules.proofs.Readers.{looked-in, looked-out}
use Rattle.shape.specs.Scans.{Scan, Past, Fault}
use Rattle.shape.specs.Scans.{forget, scan_of}
use Rattle.shape.specs.Walks.{Laid, Lays}
use Rattle.program.specs.Codes.{ty_of}
use Rattle.program.specs.Stands.{Holds}
use Rattle.lists.specs.Parts.{Lacks}
use Rattle.lists.proofs.Places.{PlacedAt, Placed}

-- a number that passes a test, does not, or is missing
module _ (fault : ℕ) (test : ℕ → Bool) (nums : List ℕ) (at : ℕ) where
  pub passed : (n : ℕ) (b : Bool) → Holds nums at n → b ≡ test n → b ≡ true
      → Past (at + 1) ≡ scan_of (passing fault test) nums at
  unfolding scan_of forget passing meaning only_if
  passed n b h e t =
      let p : test (get_or nums at 0) ≡ true = rw h.is (sym e ∙ t) in
      rw (looked-in fault (λ n. only_if (test n) (some n)) nums at h.inside, p, add-one at)

  pub failed : (n : ℕ) (b : Bool) → Holds nums at n → b ≡ test n → b ≡ false
      → Fault fault at ≡ scan_of (passing fault test) nums at
  unfolding scan_of forget passing meaning only_if
  failed n b h e t =
      let p : test (get_or nums at 0) ≡ false = rw h.is (sym e ∙ t) in
      rw (looked-in fault (λ n. only_if (test n) (some n)) nums at h.inside, p)

  pub missing : (n i : ℕ) → Lacks nums fault at n i → Fault n i ≡ scan_of (passing fault test) nums at
  unfolding scan_of forget passing
  missing n i h = rw (h.number_is, h.index_is, looked-out fault (λ n. only_if (test n) (some n)) nums at h.beyond)

pub ruleset leaves = (passed, failed, missing)

-- a number that fits a type: a bool is of one bit
module _ (fault ty : ℕ) (nums : List ℕ) (at : ℕ) (r : Scan) where
  pub typed-bool : ty ≡ 0 → r ≡ scan_of (passing fault (fits_width 1)) nums at
      → r ≡ scan_of (passing fault (fits (ty_of ty))) nums at
  unfolding fits ty_of fits_width
  typed-bool e h = rw e h

  pub typed-bits : (ty ≡ 0 → ⊥) → r ≡ scan_of (passing fault (fits_width ty)) nums at
      → r ≡ scan_of (passing fault (fits (ty_of ty))) nums at
  unfolding fits ty_of
  typed-bits x h = go ty x h
    where
      go : (n : ℕ) → (n ≡ 0 → ⊥) → r ≡ scan_of (passing fault (fits_width n)) nums at
          → r ≡ scan_of (passing fault (fits (ty_of n))) nums at
      go zero y k = absurd (y refl)
      go (suc n) y k = k

pub ruleset types = (typed-bool, typed-bits)

-- what passing tells of the number
pub record Passes (test : ℕ → Bool) (nums : List ℕ) (at next : ℕ) : Type 0 where
  pub inside : at < length nums
  pub after : next ≡ suc at
  pub passes : test (get_or nums at 0) ≡ true

module _ (fault : ℕ) (test : ℕ → Bool) (nums : List ℕ) (at : ℕ) where
  pub past-passes : (next : ℕ) → scan_of (passing fault test) nums at ≡ Past next → Passes test nums at next
  past-passes next e = go (ltb at (length nums)) refl
    where
      never : (f i : ℕ) → Fault f i ≡ scan_of (passing fault test) nums at → Passes test nums at next
      never f i q = let z : ◌≡◌ {A = ℕ} 0 1 = cc in absurd (omega arith)

      in-range : at < length nums → (b : Bool) → b ≡ test (get_or nums at 0) → Passes test nums at next
      in-range h true t =
          let q : Past (at + 1) ≡ Past next = passed fault test nums at _ true (record { inside = h; is = refl }) t refl ∙ e in
          let n : at + 1 ≡ next = cc in
          record { inside = h; after = sym n ∙ add-one at; passes = sym t }
      in-range h false t = never fault at (failed fault test nums at _ false (record { inside = h; is = refl }) t refl)

      go : (b : Bool) → ltb at (length nums) ≡ b → Passes test nums at next
      go true l = in-range (ltb-true at (length nums) l) (test (get_or nums at 0)) refl
      go false l = never fault at (missing fault test nums at fault at
          (record { beyond = ltb-false at (length nums) l; number_is = refl; index_is = refl }))

  pub past-inside : (a : Scan) (next : ℕ) → a ≡ scan_of (passing fault test) nums at → a ≡ Past next → at < length nums
  past-inside a next q p = (past-passes next (sym q ∙ p)).inside

  -- what follows it sees its value
  pub behind-passed : {B : Type 0} (k : ℕ → Reader B) (a : Scan) (next : ℕ) → a ≡ scan_of (passing fault test) nums at
      → a ≡ Past next → scan_of (passing fault test >>= k) nums at ≡ scan_of (k (get_or nums at 0)) nums next
  unfolding scan_of passing meaning only_if ◌>>=◌ and_then
  behind-passed k a next q p =
      let h : Passes test nums at next = past-passes next (sym q ∙ p) in
      rw (looked-in fault (λ n. only_if (test n) (some n)) nums at h.inside, h.passes, h.after)

-- what a scan tells of the reader
pub record Read {A : Type 0} (Stands : List ℕ → ℕ → ℕ → A → Type 0) (read : Reader A) (nums : List ℕ) (at next : ℕ)
    : Type 0 where
  pub value : A
  pub gave : read (drop at nums) at ≡ got value (drop next nums) next
  pub stands : Stands nums at next value

pub past-read : {A : Type 0} {S : List ℕ → ℕ → ℕ → A → Type 0} {read : Reader A} (nums : List ℕ) (at n : ℕ) (a : Scan)
    → Placed S read → a ≡ scan_of read nums at → a ≡ Past n → Read S read nums at n
unfolding scan_of forget PlacedAt
past-read {A} {S} {read} nums at n a h q p = go (read (drop at nums) at) refl (h.placed nums at) (sym q ∙ p)
  where
    go : (x : Got A) → read (drop at nums) at ≡ x → PlacedAt S nums at x → forget x ≡ Past n → Read S read nums at n
    go (got v left next) e l t =
        let o : next ≡ n = cc in
        record { value = v; gave = rw (l.0, o) at e; stands = rw o at l.1 }
    go (bad fault index) e l t = let z : ◌≡◌ {A = ℕ} 0 1 = cc in absurd (omega arith)

pub fault-read : {A : Type 0} (read : Reader A) (nums : List ℕ) (at f i : ℕ) (a : Scan) → a ≡ scan_of read nums at
    → a ≡ Fault f i → read (drop at nums) at ≡ bad f i
unfolding scan_of forget
fault-read {A} read nums at f i a q p = go (read (drop at nums) at) (sym q ∙ p)
  where
    go : (x : Got A) → forget x ≡ Fault f i → x ≡ bad f i
    go (got v left next) e = let z : ◌≡◌ {A = ℕ} 0 1 = cc in absurd (omega arith)
    go (bad fault index) e =
        let m : fault ≡ f = cc in
        let o : index ≡ i = cc in
        rw (m, o)

-- a fault of the first is the fault of the whole; behind the first, whatever it read
module _ {A B : Type 0} (read : Reader A) (k : A → Reader B) (nums : List ℕ) (at : ℕ) where
  pub then-fault : (f i : ℕ) (a : Scan) → a ≡ scan_of read nums at → a ≡ Fault f i
      → Fault f i ≡ scan_of (read >>= k) nums at
  unfolding scan_of forget ◌>>=◌ and_then
  then-fault f i a q p = rw (fault-read read nums at f i a q p)

  pub then-past : {S : List ℕ → ℕ → ℕ → A → Type 0} (n : ℕ) (a r : Scan) → Placed S read → a ≡ scan_of read nums at
      → a ≡ Past n → ((x : A) → r ≡ scan_of (k x) nums n) → r ≡ scan_of (read >>= k) nums at
  unfolding scan_of ◌>>=◌ and_then
  then-past {S} n a r h q p s =
      let d : Read S read nums at n = past-read nums at n a h q p in
      rw d.gave (s d.value)

-- a fault tells nothing of the slots
pub lays-bad : {A : Type 0} (read : Reader A) (lay : A → ℕ → List ℕ → List ℕ) (nums : List ℕ) (at f i : ℕ)
    (found filled : List ℕ) → read (drop at nums) at ≡ bad f i → Lays read lay nums at found filled (Fault f i)
unfolding scan_of forget Laid
lays-bad read lay nums at f i found filled e = record { scan = rw e; laid = rw e tt }

-- readers that scan alike, whatever they make of what they read
pub record Alike {A B : Type 0} (read : Reader A) (other : Reader B) : Type 0 where
  pub alike : (left : List ℕ) (at : ℕ) → forget (read left at) ≡ forget (other left at)

pub alike-made : {A B : Type 0} (read : Reader A) (make : A → B) → Alike read (read >>= λ a. pure (make a))
unfolding forget ◌>>=◌ and_then pure
alike-made {A} read make = record { alike = λ left at. go (read left at) }
  where
    go : (x : Got A) → forget x ≡ forget (and_then x (λ a. pure (make a)))
    go (got a left next) = refl
    go (bad fault index) = refl

pub alike_then : {A B C : Type 0} (read : Reader A) {k : A → Reader B} {l : A → Reader C}
    → ((a : A) → Alike (k a) (l a)) → Alike (read >>= k) (read >>= l)
unfolding forget ◌>>=◌ and_then
alike_then {A} read {k} {l} h = record { alike = λ left at. go (read left at) }
  where
    go : (x : Got A) → forget (and_then x k) ≡ forget (and_then x l)
    go (got a left next) = (h a).alike left next
    go (bad fault index) = refl

pub alike-scan : {A B : Type 0} {read : Reader A} {other : Reader B} (nums : List ℕ) (at : ℕ) (r : Scan)
    → Alike read other → r ≡ scan_of read nums at → r ≡ scan_of other nums at
unfolding scan_of
alike-scan nums at r h e = e ∙ h.alike (drop at nums) at
