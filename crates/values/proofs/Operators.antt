-- What each arm of `binary` asks and gives. What carries it: no two operators have the same number, and the rules'
-- answers on values that fit.
use mathlib.Core.Bool.{Bool, not}
use mathlib.Core.Option.{some}
use mathlib.Core.Path.{◌≡◌, refl, sym, ◌∙◌}
use Prim.Native.Nat.{ℕ, ◌^◌, ◌<◌}
use lib.Bits.{bit_and, bit_or, bit_xor}
use lib.Dec.{ltb, leb, eqb}
use lib.ListN.{get_elem?}
use Rattle.rules.specs.Words.{sum, difference, product, shifted_left, shifted_right}
use Rattle.rules.specs.Syntax.{Operator, arithmetic, order, shift, equality, logic, both, either}
use Rattle.rules.specs.Syntax.{Arithmetic, plus, minus, times, and, or, xor, Shift, shift_left, shift_right}
use Rattle.rules.specs.Syntax.{Equality, equal, unequal, Order, less, less_or_equal}
use Rattle.rules.specs.Reading.{operators}
use Rattle.rules.specs.Running.{calculate, compare, shift_by, agree, truth}
use Rattle.program.specs.Codes.{operator_number}
use Rattle.values.specs.Claims.{value_of, Gives, AsksTwo, binary_on, AsksBinary, GivesBinary, Made}
use Rattle.values.proofs.Results.{nothing, made-gives, right-below}
use Rattle.values.proofs.Results.{arithmetic-is, shift_is, equality-is, order_is}

-- the operator of a number
operator-at : (o : Operator) → get_elem? (operators 1) (operator_number o) ≡ some o
unfolding operator_number
operator-at (arithmetic plus) = refl
operator-at (arithmetic minus) = refl
operator-at (arithmetic times) = refl
operator-at (arithmetic and) = refl
operator-at (arithmetic or) = refl
operator-at (arithmetic xor) = refl
operator-at (order less) = refl
operator-at (order less_or_equal) = refl
operator-at (shift shift_left) = refl
operator-at (shift shift_right) = refl
operator-at (equality equal) = refl
operator-at (equality unequal) = refl
operator-at (logic both) = refl
operator-at (logic either) = refl

operator-once : (o p : Operator) → operator_number o ≡ operator_number p → o ≡ p
operator-once o p e =
    let same : get_elem? (operators 1) (operator_number p) ≡ some o = rw (← e) (operator-at o) in
    cc (operator-at p)

module _ (operator t n u m : ℕ) (asks : AsksBinary operator t n u m) where
  asked : (p : Operator) → operator ≡ operator_number p → AsksTwo (binary_on p) t n u m
  asked p e = rw (operator-once asks.of p (asks.numbered ∙ e)) at asks.asks

  pub minus-below : operator ≡ 1 → m < 2 ^ t
  unfolding operator_number binary_on
  minus-below e = right-below minus t n u m (asked (arithmetic minus) e)

  module _ (s k : ℕ) where
    told : (p : Operator) → operator ≡ operator_number p → Gives (binary_on p (value_of t n) (value_of u m)) s k
        → GivesBinary operator t n u m s k
    told p e g = record { given = λ o q. rw (operator-once o p (q ∙ e)) g.given; is_value = g.is_value }

    calculated : (x : Arithmetic) (w : ℕ) → operator ≡ operator_number (arithmetic x) → w ≡ calculate x t n m
        → Made t w s k → GivesBinary operator t n u m s k
    unfolding binary_on
    calculated x w e q made =
        told (arithmetic x) e
        (made-gives (arithmetic-is x t n u m (asked (arithmetic x) e)) (rw q at made))

    shifted : (x : Shift) (w : ℕ) → operator ≡ operator_number (shift x) → w ≡ shift_by x t n m → Made t w s k
        → GivesBinary operator t n u m s k
    unfolding binary_on
    shifted x w e q made =
        told (shift x) e (made-gives (shift_is x t n u m (asked (shift x) e)) (rw q at made))

    equalled : (x : Equality) (b : Bool) → operator ≡ operator_number (equality x) → b ≡ agree x (eqb n m)
        → Gives (some (truth b)) s k → GivesBinary operator t n u m s k
    unfolding binary_on
    equalled x b e q g =
        told (equality x) e (rw (equality-is x t n u m (asked (equality x) e)) (rw q at g))

    compared : (x : Order) (b : Bool) → operator ≡ operator_number (order x) → b ≡ compare x n m
        → Gives (some (truth b)) s k → GivesBinary operator t n u m s k
    unfolding binary_on
    compared x b e q g = told (order x) e (rw (order_is x t n u m (asked (order x) e)) (rw q at g))

    -- the arms: the operator's number, what words gives, the value made of it
    module _ (w : ℕ) where
      pub plus-told : operator ≡ 0 → w ≡ sum t n m → Made t w s k → GivesBinary operator t n u m s k
      unfolding operator_number calculate
      plus-told = calculated plus w

      pub minus-told : operator ≡ 1 → w ≡ difference t n m → Made t w s k → GivesBinary operator t n u m s k
      unfolding operator_number calculate
      minus-told = calculated minus w

      pub times-told : operator ≡ 2 → w ≡ product t n m → Made t w s k → GivesBinary operator t n u m s k
      unfolding operator_number calculate
      times-told = calculated times w

      pub and-told : operator ≡ 3 → w ≡ bit_and n m → Made t w s k → GivesBinary operator t n u m s k
      unfolding operator_number calculate
      and-told = calculated and w

      pub or-told : operator ≡ 4 → w ≡ bit_or n m → Made t w s k → GivesBinary operator t n u m s k
      unfolding operator_number calculate
      or-told = calculated or w

      pub xor-told : operator ≡ 5 → w ≡ bit_xor n m → Made t w s k → GivesBinary operator t n u m s k
      unfolding operator_number calculate
      xor-told = calculated xor w

      pub left-told : operator ≡ 6 → w ≡ shifted_left t n m → Made t w s k → GivesBinary operator t n u m s k
      unfolding operator_number shift_by
      left-told = shifted shift_left w

      pub right-told : operator ≡ 7 → w ≡ shifted_right t n m → Made t w s k → GivesBinary operator t n u m s k
      unfolding operator_number shift_by
      right-told = shifted shift_right w

    module _ (b : Bool) where
      pub equal-told : operator ≡ 8 → b ≡ eqb n m → Gives (some (truth b)) s k → GivesBinary operator t n u m s k
      unfolding operator_number agree
      equal-told = equalled equal b

      pub unequal-told : operator ≡ 9 → b ≡ eqb n m → Gives (some (truth (not b))) s k
          → GivesBinary operator t n u m s k
      unfolding operator_number agree
      unequal-told e q g = equalled unequal (not b) e (rw q) g

      pub less-told : operator ≡ 10 → b ≡ ltb n m → Gives (some (truth b)) s k → GivesBinary operator t n u m s k
      unfolding operator_number compare
      less-told = compared less b

-- the last arm: what is left when all others are not it
module _ (operator t n u m s v : ℕ) (asks : AsksBinary operator t n u m) (a : operator ≡ 0 → ⊥)
    (b : operator ≡ 1 → ⊥) (c : operator ≡ 2 → ⊥) (d : operator ≡ 3 → ⊥) (e : operator ≡ 4 → ⊥)
    (f : operator ≡ 5 → ⊥) (g : operator ≡ 6 → ⊥) (h : operator ≡ 7 → ⊥) (i : operator ≡ 8 → ⊥)
    (j : operator ≡ 9 → ⊥) (k : operator ≡ 10 → ⊥) where
  left_over : (o : Operator) → operator_number o ≡ operator → AsksTwo (binary_on o) t n u m → operator ≡ 11
  unfolding operator_number binary_on
  left_over (arithmetic plus) q y = absurd (a (sym q))
  left_over (arithmetic minus) q y = absurd (b (sym q))
  left_over (arithmetic times) q y = absurd (c (sym q))
  left_over (arithmetic and) q y = absurd (d (sym q))
  left_over (arithmetic or) q y = absurd (e (sym q))
  left_over (arithmetic xor) q y = absurd (f (sym q))
  left_over (shift shift_left) q y = absurd (g (sym q))
  left_over (shift shift_right) q y = absurd (h (sym q))
  left_over (equality equal) q y = absurd (i (sym q))
  left_over (equality unequal) q y = absurd (j (sym q))
  left_over (order less) q y = absurd (k (sym q))
  left_over (order less_or_equal) q y = sym q
  left_over (logic o) q y = nothing y.answered

  pub at-most-told : (y : Bool) → y ≡ leb n m → Gives (some (truth y)) s v → GivesBinary operator t n u m s v
  unfolding operator_number compare
  at-most-told y q g =
      compared operator t n u m asks s v less_or_equal y (left_over asks.of asks.numbered asks.asks) q g

pub ruleset arms = (
  minus-below,
  plus-told,
  minus-told,
  times-told,
  and-told,
  or-told,
  xor-told,
  left-told,
  right-told,
  equal-told,
  unequal-told,
  less-told,
  at-most-told,
)
