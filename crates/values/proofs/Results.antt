-- The rules' functions on values that fit: their answers in numbers. What carries it: the rules' own laws that answers
-- fit; where there is an answer, its tests hold.
use mathlib.Core.Bool.{Bool, true, false}
use mathlib.Core.Option.{Option, none, some}
use mathlib.Core.Path.{◌≡◌, refl}
use Prim.Native.Nat.{ℕ, zero, suc, ◌+◌, ◌-◌, ◌^◌, ◌≤◌, ◌<◌}
use native.Mathlib.Omega.{arith}
use lib.Dec.{ltb, leb, eqb}
use borrow.Author.Tests.{eqb-true, ltb-true, leb-true}
use Rattle.rules.specs.Words.{widest, fits_width, complement_of, cast_to, slice_fits, slice_width, slice_of, join_fits, joined}
use Rattle.rules.specs.Syntax.{Ty, bits, Value, value, Arithmetic, Order, Shift, Equality}
use Rattle.rules.specs.Form.{only_if, same_ty, fits}
use Rattle.rules.specs.Lists.{mark_of}
use Rattle.rules.specs.Running.{calculate, compare, shift_by, agree, truth, arithmetic_on, order_on, shift_on, equality_on}
use Rattle.rules.specs.Running.{not_on, complement_on, cast_on, slice_on, concatenation_on}
use Rattle.rules.proofs.Predicates.{SomeOf, is_some, and_both}
use Rattle.rules.proofs.Fitting.{joined-in-word}
use Rattle.rules.proofs.Fits.{HasTy, has, same_ty-true, truth-has, arithmetic-ok, shift-ok}
use Rattle.rules.proofs.Fits.{not-ok, complement-ok, cast_ok, slice-ok, concatenation-ok}
use Rattle.program.specs.Codes.{ty_of}
use Rattle.program.proofs.Members.{bits_of}
use Rattle.values.specs.Claims.{value_of, Gives, AsksOne, AsksCast, AsksTwo, Made}

pub nothing : {A B : Type 0} {a : A} → ◌≡◌ {A = Option A} none (some a) → B
nothing e = let z : ◌≡◌ {A = ℕ} 0 1 = cc in absurd (omega arith)

tested : {A : Type 0} {a : A} (o : Option A) (b : Bool) → only_if b o ≡ some a → b ≡ true
unfolding only_if
tested o true e = refl
tested o false e = nothing e

-- an answer that the rules' laws give a type
fitting : {t : Ty} {o : Option Value} {n : ℕ} → SomeOf (HasTy t) o → o ≡ some (value t n) → fits t n ≡ true
fitting {n} (is_some (has {n = m} h)) e = let same : m ≡ n = cc in rw (← same) h

gives : {o : Option Value} (t n : ℕ) → t ≤ widest → o ≡ some (value (ty_of t) n) → SomeOf (HasTy (ty_of t)) o
    → Gives o t n
unfolding value_of
gives t n most e h = record { given = e; is_value = record { most = most; fit = fitting h e } }

fits_below : (w n : ℕ) → fits (bits w) n ≡ true → n < 2 ^ w
unfolding fits fits_width
fits_below w n h = ltb-true n (2 ^ w) h

pub made-gives : {o : Option Value} {t n s k : ℕ} → Gives o t n → Made t n s k → Gives o s k
made-gives h m = rw (m.ty_is, m.number_is) h

-- truths
truth-gives : (b : Bool) → Gives (some (truth b)) 0 (mark_of b)
unfolding truth ty_of
truth-gives b = gives 0 (mark_of b) (omega arith) refl (is_some (truth-has b))

module _ (b : Bool) (s k : ℕ) where
  pub true-told : b ≡ true → Made 0 1 s k → Gives (some (truth b)) s k
  unfolding mark_of
  true-told e made = made-gives (rw e (truth-gives true)) made

  pub false-told : b ≡ false → Made 0 0 s k → Gives (some (truth b)) s k
  unfolding mark_of
  false-told e made = made-gives (rw e (truth-gives false)) made

pub ruleset truths = (true-told, false-told)

-- one value
not_is : (t n : ℕ) → AsksOne not_on t n → Gives (not_on (value_of t n)) 0 (1 - n)
unfolding not_on value_of ty_of
not_is zero n h = gives 0 (1 - n) (omega arith) refl (not-ok (has h.operand.fit))
not_is (suc t) n h = nothing h.answered

complement-is : (t n : ℕ) → AsksOne complement_on t n → Gives (complement_on (value_of t n)) t (complement_of t n)
unfolding complement_on value_of ty_of
complement-is zero n h = nothing h.answered
complement-is (suc t) n h =
    gives (suc t) (complement_of (suc t) n) h.operand.most refl (complement-ok (has h.operand.fit))

cast_is : (width t n : ℕ) → AsksCast width t n → Gives (cast_on width (value_of t n)) width (cast_to width n)
unfolding cast_on value_of ty_of
cast_is zero t n h = absurd (omega (arith, h.least))
cast_is (suc width) zero n h = nothing h.asks.answered
cast_is (suc width) (suc t) n h =
    gives (suc width) (cast_to (suc width) n) h.most refl (cast_ok (suc width) (has h.asks.operand.fit))

slice-tested : (high low t n : ℕ) → AsksOne (slice_on high low) t n → slice_fits high low t ≡ true
unfolding slice_on value_of ty_of
slice-tested high low zero n h = nothing h.answered
slice-tested high low (suc t) n h = tested _ (slice_fits high low (suc t)) h.answered

slice-bounds : (high low t n : ℕ) → AsksOne (slice_on high low) t n → (low ≤ high) × (high < t)
unfolding slice_fits
slice-bounds high low t n h =
    let both : (leb low high ≡ true) × (ltb high t ≡ true)
    = and_both (leb low high) (ltb high t) (slice-tested high low t n h) in
    (leb-true low high both.0, ltb-true high t both.1)

slice-width : (high low : ℕ) → low ≤ high → slice_width high low ≡ high - low + 1
unfolding slice_width
slice-width high low h = omega arith

slice_is : (high low t n : ℕ) → AsksOne (slice_on high low) t n
    → Gives (slice_on high low (value_of t n)) (high - low + 1) (slice_of high low n)
unfolding slice_on value_of ty_of only_if
slice_is high low zero n h = nothing h.answered
slice_is high low (suc t) n h =
    let e : slice_fits high low (suc t) ≡ true = slice-tested high low (suc t) n h in
    let inside : (low ≤ high) × (high < suc t) = slice-bounds high low (suc t) n h in
    let w : slice_width high low ≡ high - low + 1 = slice-width high low inside.0 in
    let ty : ty_of (high - low + 1) ≡ bits (slice_width high low) = rw w (bits_of (high - low + 1) (omega arith)) in
    gives (high - low + 1) (slice_of high low n) (omega (arith, h.operand.most, inside))
    (rw (e, ty)) (rw ty (slice-ok high low (suc t) e (has h.operand.fit)))

-- two values
same-has : {t u : Ty} {m : ℕ} → same_ty t u ≡ true → fits u m ≡ true → HasTy t (value u m)
same-has {t} {u} e h = rw (same_ty-true t u e) (has h)

pub arithmetic-is : (x : Arithmetic) (t n u m : ℕ) → AsksTwo (arithmetic_on x) t n u m
    → Gives (arithmetic_on x (value_of t n) (value_of u m)) t (calculate x t n m)
unfolding arithmetic_on value_of ty_of only_if same_ty
arithmetic-is x zero n u m h = nothing h.answered
arithmetic-is x (suc t) n zero m h = nothing h.answered
arithmetic-is x (suc t) n (suc u) m h =
    let e : eqb (suc t) (suc u) ≡ true = tested _ (eqb (suc t) (suc u)) h.answered in
    gives (suc t) (calculate x (suc t) n m) h.first.most (rw e)
    (arithmetic-ok x (has h.first.fit) (same-has e h.second.fit))

-- the right operand of an arithmetic operator fits the left one's width
pub right-below : (x : Arithmetic) (t n u m : ℕ) → AsksTwo (arithmetic_on x) t n u m → m < 2 ^ t
unfolding arithmetic_on value_of ty_of
right-below x zero n u m h = nothing h.answered
right-below x (suc t) n zero m h = nothing h.answered
right-below x (suc t) n (suc u) m h =
    let e : suc t ≡ suc u = eqb-true (suc t) (suc u) (tested _ (eqb (suc t) (suc u)) h.answered) in
    rw e (fits_below (suc u) m h.second.fit)

pub shift_is : (x : Shift) (t n u m : ℕ) → AsksTwo (shift_on x) t n u m
    → Gives (shift_on x (value_of t n) (value_of u m)) t (shift_by x t n m)
unfolding shift_on value_of ty_of
shift_is x zero n u m h = nothing h.answered
shift_is x (suc t) n zero m h = nothing h.answered
shift_is x (suc t) n (suc u) m h =
    gives (suc t) (shift_by x (suc t) n m) h.first.most refl
    (shift-ok x (has h.first.fit) (has h.second.fit))

pub equality-is : (x : Equality) (t n u m : ℕ) → AsksTwo (equality_on x) t n u m
    → equality_on x (value_of t n) (value_of u m) ≡ some (truth (agree x (eqb n m)))
unfolding equality_on value_of only_if
equality-is x t n u m h = rw (tested _ (same_ty (ty_of t) (ty_of u)) h.answered)

pub order_is : (x : Order) (t n u m : ℕ) → AsksTwo (order_on x) t n u m
    → order_on x (value_of t n) (value_of u m) ≡ some (truth (compare x n m))
unfolding order_on value_of ty_of only_if
order_is x zero n u m h = nothing h.answered
order_is x (suc t) n zero m h = nothing h.answered
order_is x (suc t) n (suc u) m h = rw (tested _ (eqb (suc t) (suc u)) h.answered)

join-tested : (t n u m : ℕ) → AsksTwo concatenation_on t n u m → (1 ≤ t) × (1 ≤ u) × (join_fits t u ≡ true)
unfolding concatenation_on value_of ty_of
join-tested zero n u m h = nothing h.answered
join-tested (suc t) n zero m h = nothing h.answered
join-tested (suc t) n (suc u) m h = (omega arith, omega arith, tested _ (join_fits (suc t) (suc u)) h.answered)

join_is : (t n u m : ℕ) → AsksTwo concatenation_on t n u m
    → Gives (concatenation_on (value_of t n) (value_of u m)) (t + u) (joined u n m)
unfolding concatenation_on value_of ty_of only_if join_fits
join_is zero n u m h = nothing h.answered
join_is (suc t) n zero m h = nothing h.answered
join_is (suc t) n (suc u) m h =
    let e : join_fits (suc t) (suc u) ≡ true = (join-tested (suc t) n (suc u) m h).2 in
    let ty : ty_of (suc t + suc u) ≡ bits (suc t + suc u) = bits_of (suc t + suc u) (omega arith) in
    gives (suc t + suc u) (joined (suc u) n m) (leb-true (suc t + suc u) widest e) (rw (e, ty))
    (rw ty (concatenation-ok e (has h.first.fit) (has h.second.fit)))

-- what a function of words asks; what the value that is made of its result is
pub not-below : (t n : ℕ) → AsksOne not_on t n → n ≤ 1
unfolding not_on value_of ty_of fits
not-below zero n h = omega (arith, ltb-true n 2 h.operand.fit)
not-below (suc t) n h = nothing h.answered

pub complement-asks : (t n : ℕ) → AsksOne complement_on t n → (t ≤ 64) × (n < 2 ^ t)
unfolding complement_on value_of ty_of
complement-asks zero n h = nothing h.answered
complement-asks (suc t) n h = (h.operand.most, fits_below (suc t) n h.operand.fit)

module _ (high low t n : ℕ) (h : AsksOne (slice_on high low) t n) where
  pub slice-low : low ≤ high
  slice-low = (slice-bounds high low t n h).0

  pub slice-asks : (low ≤ high) × (high < 64)
  slice-asks = (slice-low, omega (arith, slice-bounds high low t n h, h.operand.most))

module _ (t n u m : ℕ) (h : AsksTwo concatenation_on t n u m) where
  join-most : t + u ≤ 64
  unfolding join_fits
  join-most = leb-true (t + u) 64 (join-tested t n u m h).2

  pub join-asks : (u < 64) × (joined u n m < 2 ^ 64)
  join-asks =
      let parts : (1 ≤ t) × (1 ≤ u) × (join_fits t u ≡ true) = join-tested t n u m h in (
        omega (arith, join-most, parts.0),
        joined-in-word t u n m join-most
            (fits_below t n (rw (bits_of t parts.0) at h.first.fit))
            (fits_below u m (rw (bits_of u parts.1) at h.second.fit)),
      )

module _ (t n s k : ℕ) where
  pub not-told : AsksOne not_on t n → Made 0 (1 - n) s k → Gives (not_on (value_of t n)) s k
  not-told h made = made-gives (not_is t n h) made

  pub complement-told : (v : ℕ) → AsksOne complement_on t n → v ≡ complement_of t n → Made t v s k
      → Gives (complement_on (value_of t n)) s k
  complement-told v h e made = made-gives (complement-is t n h) (rw e at made)

  pub cast-told : (width v : ℕ) → AsksCast width t n → v ≡ cast_to width n → Made width v s k
      → Gives (cast_on width (value_of t n)) s k
  cast-told width v h e made = made-gives (cast_is width t n h) (rw e at made)

  pub slice-told : (high low v : ℕ) → AsksOne (slice_on high low) t n → v ≡ slice_of high low n
      → Made (high - low + 1) v s k → Gives (slice_on high low (value_of t n)) s k
  slice-told high low v h e made = made-gives (slice_is high low t n h) (rw e at made)

  pub join-told : (u m v : ℕ) → AsksTwo concatenation_on t n u m → v ≡ joined u n m → Made (t + u) v s k
      → Gives (concatenation_on (value_of t n) (value_of u m)) s k
  join-told u m v h e made = made-gives (join_is t n u m h) (rw e at made)

pub ruleset singles = (not-below, not-told, complement-asks, complement-told, cast-told)

pub ruleset parts = (slice-low, slice-asks, slice-told, join-asks, join-told)
