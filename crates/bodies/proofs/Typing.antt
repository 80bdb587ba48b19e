-- What the checks of types rest on: each rule of the rules' page Form about types, as a test on their numbers.
use mathlib.Core.Bool.{Bool, true, false, not, ◌&&◌}
use mathlib.Core.Path.{◌≡◌, refl, sym, ◌∙◌}
use mathlib.Core.List.{List}
use Prim.Native.Nat.{ℕ, zero, suc, ◌+◌, ◌-◌, ◌≤◌, ◌<◌}
use native.Mathlib.Omega.{arith}
use lib.ListN.{length, get_or}
use lib.Dec.{ltb, leb, eqb}
use borrow.Author.Tests.{ne_eqb, le-ltb, le-leb, lt-leb, leb-true, ltb-true}
use Rattle.std.specs.Prelude.{Ok}
use Rattle.rules.specs.declared.Reason.TheVariants as reason
use Rattle.rules.specs.Words.{fits_width, slice_fits, slice_width, join_fits}
use Rattle.rules.specs.Syntax.{Ty, bool, bits, Arithmetic, plus, minus, times, and, or, xor, Order, less, less_or_equal, Shift, shift_left, shift_right, Equality, equal, unequal, Logic, both, either}
use Rattle.rules.specs.Syntax.{Operator, arithmetic, order, shift, equality, logic}
use Rattle.rules.specs.Form.{Res, ok, fault, ◌>>=◌, need, same_ty, fits, width_at, need_ty, judge_operator}
use Rattle.program.specs.Codes.{ty_of, operator_number}
use Rattle.program.proofs.Members.{same-types, bits_of}
use Rattle.bodies.specs.Claims.{Typed, refused, told_ty, TyMost}
use Rattle.bodies.specs.Leaves.{Tells, checked_ty, MostIf, IsWidth, bool_ty, bits_ty, not_ty, complement_ty, cast_ty, slice_ty, SliceMost, AsksOne, OneTyped, join_ty, OperatorTyped, TwoTyped}

-- a rule that holds, and one that does not
module _ (at t : ℕ) (holds : Bool) where
  pub checked-holds : MostIf holds t → holds ≡ true → Tells (Ok t) (checked_ty at holds (ty_of t))
  unfolding checked_ty told_ty TyMost ◌>>=◌ need
  checked-holds m e = record { judged = rw e; most = m.most e }

  pub checked-not : holds ≡ false → Tells (refused reason.Type at) (checked_ty at holds (ty_of t))
  unfolding checked_ty told_ty TyMost ◌>>=◌ need
  checked-not e = record { judged = rw e; most = tt }

retold : {r : Typed} {x y : Res Ty} → Tells r x → x ≡ y → Tells r y
retold h e = record { judged = h.judged ∙ e; most = h.most }

-- literals
pub bool-told : (at n : ℕ) (r : Typed) → Tells r (checked_ty at (ltb n 2) (ty_of 0)) → Tells r (bool_ty at n)
unfolding checked_ty bool_ty fits ty_of
bool-told at n r h = retold h refl

pub bits-told : (at width n : ℕ) (b : Bool) (r : Typed) → IsWidth width → b ≡ fits_width width n
    → Tells r (checked_ty at b (ty_of width)) → Tells r (bits_ty at width n)
unfolding checked_ty bits_ty fits
bits-told at width n b r w e h = retold h (rw (e, bits_of width w.least))

-- one operand
pub more : (n : ℕ) → eqb (suc n) 0 ≡ false
more n = ne_eqb (suc n) 0 (λ e. absurd (omega (arith, e)))

pub bool-rule : (at t : ℕ) → need 7 at (eqb t 0) ≡ need_ty at bool (ty_of t)
unfolding need_ty same_ty ty_of
bool-rule at zero = refl
bool-rule at (suc t) = rw (more t)

not_is : (at t : ℕ) → checked_ty at (eqb t 0) (ty_of 0) ≡ not_ty at (ty_of t)
unfolding checked_ty not_ty need_ty same_ty ty_of
not_is at zero = refl
not_is at (suc t) = rw (more t)

complement-is : (at t : ℕ) → checked_ty at (not (eqb t 0)) (ty_of t) ≡ complement_ty at (ty_of t)
unfolding checked_ty complement_ty width_at ty_of need ◌>>=◌
complement-is at zero = refl
complement-is at (suc t) = rw (more t)

cast_is : (at width t : ℕ) → 1 ≤ width → checked_ty at (not (eqb t 0)) (ty_of width) ≡ cast_ty at width (ty_of t)
unfolding checked_ty cast_ty width_at need ◌>>=◌ ty_of
cast_is at zero t h = absurd (omega arith)
cast_is at (suc width) zero h = refl
cast_is at (suc width) (suc t) h = rw (more t)

slice_is : (at high low t : ℕ)
    → slice_ty at high low (ty_of t) ≡ checked_ty at (leb low high && ltb high t) (bits (suc high - low))
unfolding checked_ty slice_ty width_at ty_of slice_fits slice_width need ◌>>=◌
slice_is at high low zero = rw (le-ltb high 0 (omega arith)) (go (leb low high))
  where
    go : (x : Bool) → fault 7 at ≡ (need 7 at (x && false) >>= λ _. ok (bits (suc high - low)))
    go true = refl
    go false = refl
slice_is at high low (suc t) = refl

module _ (at high low t : ℕ) where
  pub slice-most : SliceMost high t → MostIf (ltb high t) (high - low + 1)
  slice-most m = record { most = λ e. omega (arith, ltb-true high t e) }

  pub slice-told : (r : Typed) → low ≤ high → Tells r (checked_ty at (ltb high t) (ty_of (high - low + 1)))
      → Tells r (slice_ty at high low (ty_of t))
  slice-told r h k =
      let w : high - low + 1 ≡ suc high - low = omega (arith, h) in
      retold k (rw (slice_is at high low t, le-leb low high h, bits_of (high - low + 1) (omega arith), w))

  pub slice-not : high < low → Tells (refused reason.Type at) (slice_ty at high low (ty_of t))
  unfolding checked_ty told_ty TyMost need ◌>>=◌
  slice-not h = record { judged = rw (slice_is at high low t, lt-leb low high h); most = tt }

and_right : (a b : Bool) → (a && b) ≡ true → b ≡ true
and_right true b e = e
and_right false b e = let z : ◌≡◌ {A = ℕ} 0 1 = cc in absurd (omega arith)

-- by the tag
never : {A : Type 0} {n k l : ℕ} → n ≡ k → n ≡ l → (k ≡ l → ⊥) → A
never e f x = absurd (x (sym e ∙ f))

module _ (nums : List ℕ) (at t : ℕ) (r : Typed) (asks : AsksOne nums at t) where
  pub not-told : get_or nums at 0 ≡ 7 → Tells r (checked_ty at (eqb t 0) (ty_of 0)) → OneTyped nums at t r
  not-told k h = record {
    negation = λ _. h.judged ∙ not_is at t;
    complement = λ e. never k e (λ z. absurd (omega (arith, z)));
    cast = λ e. never k e (λ z. absurd (omega (arith, z)));
    slice = λ e. never k e (λ z. absurd (omega (arith, z)));
    most = h.most;
  }

  pub complement-told : get_or nums at 0 ≡ 8 → Tells r (checked_ty at (not (eqb t 0)) (ty_of t)) → OneTyped nums at t r
  complement-told k h = record {
    negation = λ e. never k e (λ z. absurd (omega (arith, z)));
    complement = λ _. h.judged ∙ complement-is at t;
    cast = λ e. never k e (λ z. absurd (omega (arith, z)));
    slice = λ e. never k e (λ z. absurd (omega (arith, z)));
    most = h.most;
  }

  pub cast-told : get_or nums at 0 ≡ 10 → Tells r (checked_ty at (not (eqb t 0)) (ty_of (get_or nums (at + 1) 0)))
      → OneTyped nums at t r
  cast-told k h = record {
    negation = λ e. never k e (λ z. absurd (omega (arith, z)));
    complement = λ e. never k e (λ z. absurd (omega (arith, z)));
    cast = λ _. h.judged ∙ cast_is at (get_or nums (at + 1) 0) t (asks.cast k).1.least;
    slice = λ e. never k e (λ z. absurd (omega (arith, z)));
    most = h.most;
  }

  module _ (x : get_or nums at 0 ≡ 7 → ⊥) (y : get_or nums at 0 ≡ 8 → ⊥) (z : get_or nums at 0 ≡ 10 → ⊥) where
    pub other-told : Tells r (slice_ty at (get_or nums (at + 1) 0) (get_or nums (at + 2) 0) (ty_of t)) → OneTyped nums at t r
    other-told h = record {
      negation = λ e. absurd (x e);
      complement = λ e. absurd (y e);
      cast = λ e. absurd (z e);
      slice = λ _. h.judged;
      most = h.most;
    }

module _ (nums : List ℕ) (at t : ℕ) (asks : AsksOne nums at t) where
  pub cast-inside : get_or nums at 0 ≡ 10 → at + 1 < length nums
  cast-inside k = (asks.cast k).0.inside

  pub cast-most : get_or nums at 0 ≡ 10 → (b : Bool) → MostIf b (get_or nums (at + 1) 0)
  cast-most k b = record { most = λ _. (asks.cast k).1.most }

  module _ (x : get_or nums at 0 ≡ 7 → ⊥) (y : get_or nums at 0 ≡ 8 → ⊥) (z : get_or nums at 0 ≡ 10 → ⊥) where
    pub high-inside : at + 1 < length nums
    high-inside = omega (arith, asks.slice x y z)

    pub low-inside : at + 2 < length nums
    low-inside = (asks.slice x y z).inside

    pub bounds-most : SliceMost (get_or nums (at + 1) 0) t
    bounds-most = record { bound = (asks.slice x y z).bound; most = asks.most }

pub ruleset ones = (
  not-told,
  complement-told,
  cast-told,
  other-told,
  cast-inside,
  cast-most,
  high-inside,
  low-inside,
  bounds-most,
)

-- two operands
same-is : (at t u : ℕ) (v : Ty) → (need_ty at (ty_of t) (ty_of u) >>= λ _. ok v) ≡ checked_ty at (eqb t u) v
unfolding checked_ty need_ty
same-is at t u v = rw (same-types t u)

arithmetic-is : (at t u : ℕ) (x : Arithmetic)
    → checked_ty at (not (eqb t 0) && eqb t u) (ty_of t) ≡ judge_operator at (arithmetic x) (ty_of t) (ty_of u)
unfolding judge_operator checked_ty width_at ty_of need ◌>>=◌
arithmetic-is at zero u x = refl
arithmetic-is at (suc t) u x = rw (more t) (sym (same-is at (suc t) u (bits (suc t))))

order_is : (at t u : ℕ) (x : Order)
    → checked_ty at (not (eqb t 0) && eqb t u) (ty_of 0) ≡ judge_operator at (order x) (ty_of t) (ty_of u)
unfolding judge_operator checked_ty width_at ty_of need ◌>>=◌
order_is at zero u x = refl
order_is at (suc t) u x = rw (more t) (sym (same-is at (suc t) u bool))

shift_is : (at t u : ℕ) (x : Shift)
    → checked_ty at (not (eqb t 0) && not (eqb u 0)) (ty_of t) ≡ judge_operator at (shift x) (ty_of t) (ty_of u)
unfolding judge_operator checked_ty width_at ty_of need ◌>>=◌
shift_is at zero u x = refl
shift_is at (suc t) zero x = rw (more t)
shift_is at (suc t) (suc u) x = rw (more t, more u)

equality-is : (at t u : ℕ) (x : Equality)
    → checked_ty at (eqb t u) (ty_of 0) ≡ judge_operator at (equality x) (ty_of t) (ty_of u)
unfolding judge_operator ty_of
equality-is at t u x = sym (same-is at t u bool)

logic-is : (at t u : ℕ) (x : Logic)
    → checked_ty at (eqb t 0 && eqb u 0) (ty_of 0) ≡ judge_operator at (logic x) (ty_of t) (ty_of u)
unfolding judge_operator checked_ty need_ty same_ty ty_of need ◌>>=◌
logic-is at zero zero x = refl
logic-is at zero (suc u) x = rw (more u)
logic-is at (suc t) u x = rw (more t)

-- the numbers of the operators of each kind
pub record Between (low high n : ℕ) : Type 0 where
  pub least : low ≤ n
  pub below : n < high

arithmetic-number : (x : Arithmetic) → Between 0 6 (operator_number (arithmetic x))
unfolding operator_number
arithmetic-number plus = record { least = omega arith; below = omega arith }
arithmetic-number minus = record { least = omega arith; below = omega arith }
arithmetic-number times = record { least = omega arith; below = omega arith }
arithmetic-number and = record { least = omega arith; below = omega arith }
arithmetic-number or = record { least = omega arith; below = omega arith }
arithmetic-number xor = record { least = omega arith; below = omega arith }

shift-number : (x : Shift) → Between 6 8 (operator_number (shift x))
unfolding operator_number
shift-number shift_left = record { least = omega arith; below = omega arith }
shift-number shift_right = record { least = omega arith; below = omega arith }

equality-number : (x : Equality) → Between 8 10 (operator_number (equality x))
unfolding operator_number
equality-number equal = record { least = omega arith; below = omega arith }
equality-number unequal = record { least = omega arith; below = omega arith }

order-number : (x : Order) → Between 10 12 (operator_number (order x))
unfolding operator_number
order-number less = record { least = omega arith; below = omega arith }
order-number less_or_equal = record { least = omega arith; below = omega arith }

logic-number : (x : Logic) → Between 12 14 (operator_number (logic x))
unfolding operator_number
logic-number both = record { least = omega arith; below = omega arith }
logic-number either = record { least = omega arith; below = omega arith }

module _ (at operator t u : ℕ) (r : Typed) where
  pub arithmetic-told : operator < 6 → (b : Bool) → b ≡ (not (eqb t 0) && eqb t u) → Tells r (checked_ty at b (ty_of t))
      → OperatorTyped at operator t u r
  arithmetic-told high b e h = record { judged = go; most = h.most }
    where
      go : (o : Operator) → operator_number o ≡ operator → told_ty r ≡ judge_operator at o (ty_of t) (ty_of u)
      go (arithmetic x) q = (rw e at h.judged) ∙ arithmetic-is at t u x
      go (shift x) q = absurd (omega (arith, q, shift-number x))
      go (equality x) q = absurd (omega (arith, q, equality-number x))
      go (order x) q = absurd (omega (arith, q, order-number x))
      go (logic x) q = absurd (omega (arith, q, logic-number x))

  pub shift-told : 6 ≤ operator → operator < 8 → (b : Bool) → b ≡ (not (eqb t 0) && not (eqb u 0))
      → Tells r (checked_ty at b (ty_of t))
      → OperatorTyped at operator t u r
  shift-told low high b e h = record { judged = go; most = h.most }
    where
      go : (o : Operator) → operator_number o ≡ operator → told_ty r ≡ judge_operator at o (ty_of t) (ty_of u)
      go (arithmetic x) q = absurd (omega (arith, q, arithmetic-number x))
      go (shift x) q = (rw e at h.judged) ∙ shift_is at t u x
      go (equality x) q = absurd (omega (arith, q, equality-number x))
      go (order x) q = absurd (omega (arith, q, order-number x))
      go (logic x) q = absurd (omega (arith, q, logic-number x))

  pub equality-told : 8 ≤ operator → operator < 10 → Tells r (checked_ty at (eqb t u) (ty_of 0))
      → OperatorTyped at operator t u r
  equality-told low high h = record { judged = go; most = h.most }
    where
      go : (o : Operator) → operator_number o ≡ operator → told_ty r ≡ judge_operator at o (ty_of t) (ty_of u)
      go (arithmetic x) q = absurd (omega (arith, q, arithmetic-number x))
      go (shift x) q = absurd (omega (arith, q, shift-number x))
      go (equality x) q = h.judged ∙ equality-is at t u x
      go (order x) q = absurd (omega (arith, q, order-number x))
      go (logic x) q = absurd (omega (arith, q, logic-number x))

  pub order-told : 10 ≤ operator → operator < 12 → (b : Bool) → b ≡ (not (eqb t 0) && eqb t u)
      → Tells r (checked_ty at b (ty_of 0))
      → OperatorTyped at operator t u r
  order-told low high b e h = record { judged = go; most = h.most }
    where
      go : (o : Operator) → operator_number o ≡ operator → told_ty r ≡ judge_operator at o (ty_of t) (ty_of u)
      go (arithmetic x) q = absurd (omega (arith, q, arithmetic-number x))
      go (shift x) q = absurd (omega (arith, q, shift-number x))
      go (equality x) q = absurd (omega (arith, q, equality-number x))
      go (order x) q = (rw e at h.judged) ∙ order_is at t u x
      go (logic x) q = absurd (omega (arith, q, logic-number x))

  pub logic-told : 12 ≤ operator → (b : Bool) → b ≡ (eqb t 0 && eqb u 0) → Tells r (checked_ty at b (ty_of 0))
      → OperatorTyped at operator t u r
  logic-told low b e h = record { judged = go; most = h.most }
    where
      go : (o : Operator) → operator_number o ≡ operator → told_ty r ≡ judge_operator at o (ty_of t) (ty_of u)
      go (arithmetic x) q = absurd (omega (arith, q, arithmetic-number x))
      go (shift x) q = absurd (omega (arith, q, shift-number x))
      go (equality x) q = absurd (omega (arith, q, equality-number x))
      go (order x) q = absurd (omega (arith, q, order-number x))
      go (logic x) q = (rw e at h.judged) ∙ logic-is at t u x

join_is : (at t u : ℕ) (b c : Bool) → b ≡ (not (eqb t 0) && not (eqb u 0)) → c ≡ (b && leb (t + u) 64)
    → checked_ty at c (ty_of (t + u)) ≡ join_ty at (ty_of t) (ty_of u)
unfolding checked_ty join_ty join_fits width_at ty_of need ◌>>=◌
join_is at zero u b c e f = rw (f, e)
join_is at (suc t) zero b c e f = rw (f, e, more t)
join_is at (suc t) (suc u) b c e f = rw (f, e, more t, more u, bits_of (suc t + suc u) (omega arith))

module _ (at t u : ℕ) (b c : Bool) (e : b ≡ (not (eqb t 0) && not (eqb u 0))) (f : c ≡ (b && leb (t + u) 64)) where
  pub join-most : MostIf c (t + u)
  join-most = record { most = λ k. leb-true (t + u) 64 (and_right b _ (sym f ∙ k)) }

  pub join-told : (r : Typed) → Tells r (checked_ty at c (ty_of (t + u))) → Tells r (join_ty at (ty_of t) (ty_of u))
  join-told r h = retold h (join_is at t u b c e f)

module _ (nums : List ℕ) (at t u : ℕ) (r : Typed) where
  pub binary-told : get_or nums at 0 ≡ 9 → OperatorTyped at (get_or nums (at + 1) 0) t u r → TwoTyped nums at t u r
  binary-told k h = record {
    binary = λ _. h.judged;
    join = λ e. never k e (λ z. absurd (omega (arith, z)));
    most = h.most;
  }

  pub joined-told : (get_or nums at 0 ≡ 9 → ⊥) → Tells r (join_ty at (ty_of t) (ty_of u)) → TwoTyped nums at t u r
  joined-told x h = record { binary = λ e. absurd (x e); join = λ _. h.judged; most = h.most }

pub ruleset checks = (checked-holds, checked-not, bool-told, bits-told, slice-most, slice-told, slice-not)

pub ruleset twos = (
  arithmetic-told,
  shift-told,
  equality-told,
  order-told,
  logic-told,
  join-most,
  join-told,
  binary-told,
  joined-told,
)
