-- Each result fits its width. (`and`, `or` and `xor`: `and_lt`, `or_lt` and `xor_lt` of lib.Bits.)
use mathlib.Core.Bool.{Bool, true, false}
use mathlib.Core.Path.{◌≡◌, refl, sym, subst}
use Prim.Native.Nat.{ℕ, ◌+◌, ◌-◌, ◌*◌, ◌/◌, ◌^◌, ◌≤◌, ◌<◌}
use native.Mathlib.Nat.{lt_of_lt_of_le, lt_of_le_of_lt, mod-lt}
use lib.Arith.{digits_lt}
use lib.Dec.{ltb}
use lib.Pow.{pow_pos, pow-add, pow_mono, ones_sub-lt, shr_le}
use Rattle.rules.specs.Words.{largest, sum, difference, product, complement_of, shifted_left, shifted_right}
use Rattle.rules.specs.Words.{cast_to, slice_width, slice_of, joined}

pub sum_fits : (width a b : ℕ) → sum width a b < 2 ^ width
unfolding sum
sum_fits width a b = mod-lt (a + b) (pow_pos width)

pub difference-fits : (width a b : ℕ) → difference width a b < 2 ^ width
unfolding difference
difference-fits width a b = mod-lt (a + (2 ^ width - b)) (pow_pos width)

pub product-fits : (width a b : ℕ) → product width a b < 2 ^ width
unfolding product
product-fits width a b = mod-lt (a * b) (pow_pos width)

pub complement-fits : (width a : ℕ) → complement_of width a < 2 ^ width
unfolding complement_of largest
complement-fits width a = ones_sub-lt width a

pub left-fits : (width a by : ℕ) → shifted_left width a by < 2 ^ width
unfolding shifted_left
left-fits width a by = go (ltb by width) refl
  where
    go : (t : Bool) → ltb by width ≡ t → shifted_left width a by < 2 ^ width
    go true e = rw (e, shifted_left) (mod-lt (a * 2 ^ by) (pow_pos width))
    go false e = rw (e, shifted_left) (pow_pos width)

pub right-fits : (width a by : ℕ) → a < 2 ^ width → shifted_right width a by < 2 ^ width
unfolding shifted_right
right-fits width a by h = go (ltb by width) refl
  where
    go : (t : Bool) → ltb by width ≡ t → shifted_right width a by < 2 ^ width
    go true e = rw (e, shifted_right) (lt_of_le_of_lt (shr_le a by) h)
    go false e = rw (e, shifted_right) (pow_pos width)

pub cast_fits : (width a : ℕ) → cast_to width a < 2 ^ width
unfolding cast_to
cast_fits width a = mod-lt a (pow_pos width)

pub slice-fits : (high low a : ℕ) → slice_of high low a < 2 ^ slice_width high low
unfolding slice_of
slice-fits high low a = mod-lt (a / 2 ^ low) (pow_pos (slice_width high low))

pub joined-fits : (front width a b : ℕ) → a < 2 ^ front → b < 2 ^ width → joined width a b < 2 ^ (front + width)
unfolding joined
joined-fits front width a b h l =
    subst (λ (n : ℕ). a * 2 ^ width + b < n) (sym (pow-add 2 front width)) (digits_lt h l)

-- what is joined to at most 64 bits fits a word
pub joined-in-word : (front width a b : ℕ) → front + width ≤ 64 → a < 2 ^ front → b < 2 ^ width
    → joined width a b < 2 ^ 64
joined-in-word front width a b most h l = lt_of_lt_of_le (joined-fits front width a b h l) (pow_mono most)
