-- Patterns of 1 to 64 bits (document 01, "How it runs", first paragraph; the keys of entries in "What is well formed").
-- Each is a natural number below 2^width; every result is stated once, for all widths.
use Rattle.std.specs.Prelude.{Bool, true, false, ◌&&◌, ℕ, suc, ◌+◌, ◌-◌, ◌*◌, ◌/◌, ◌%◌, ◌^◌, ltb, leb, eqb}
use Rattle.std.specs.Int.Bits.{bit_and}

-- the most bits of a pattern
abbrev pub widest : ℕ
widest = 64

-- the largest number of a width
unfoldable pub largest : ℕ → ℕ
largest width = 2 ^ width - 1

unfoldable pub fits_width : ℕ → ℕ → Bool
fits_width width n = ltb n (2 ^ width)

-- +, −, ×: modulo 2^width
unfoldable pub sum : ℕ → ℕ → ℕ → ℕ
sum width a b = (a + b) % 2 ^ width

unfoldable pub difference : ℕ → ℕ → ℕ → ℕ
difference width a b = (a + (2 ^ width - b)) % 2 ^ width

unfoldable pub product : ℕ → ℕ → ℕ → ℕ
product width a b = a * b % 2 ^ width

unfoldable pub complement_of : ℕ → ℕ → ℕ
complement_of width a = largest width - a

-- shifts: by the width or more they give 0
unfoldable pub shifted_left : ℕ → ℕ → ℕ → ℕ
shifted_left width a by = elim (ltb by width) [ true ↦ a * 2 ^ by % 2 ^ width | false ↦ 0 ]

unfoldable pub shifted_right : ℕ → ℕ → ℕ → ℕ
shifted_right width a by = elim (ltb by width) [ true ↦ a / 2 ^ by | false ↦ 0 ]

-- a cast drops high bits or adds zeros
unfoldable pub cast_to : ℕ → ℕ → ℕ
cast_to width a = a % 2 ^ width

-- the bits from `high` down to `low`, both counted from 0: low ≤ high < width
unfoldable pub slice_fits : ℕ → ℕ → ℕ → Bool
slice_fits high low width = leb low high && ltb high width

unfoldable pub slice_width : ℕ → ℕ → ℕ
slice_width high low = suc high - low

unfoldable pub slice_of : ℕ → ℕ → ℕ → ℕ
slice_of high low a = a / 2 ^ low % 2 ^ slice_width high low

-- a in front of b, which has so many bits: together at most 64
unfoldable pub join_fits : ℕ → ℕ → Bool
join_fits front width = leb (front + width) widest

unfoldable pub joined : ℕ → ℕ → ℕ → ℕ
joined width a b = a * 2 ^ width + b

-- lpm keys: the first `prefix` of `width` bits agree; bits outside the prefix are 0
unfoldable pub prefix_matches : ℕ → ℕ → ℕ → ℕ → Bool
prefix_matches width prefix value key = eqb (key / 2 ^ (width - prefix)) (value / 2 ^ (width - prefix))

unfoldable pub prefix_fits : ℕ → ℕ → ℕ → Bool
prefix_fits width value prefix = leb prefix width && eqb (value % 2 ^ (width - prefix)) 0

-- ternary keys: the bits of the mask agree; an entry's bits outside the mask are 0
unfoldable pub mask_matches : ℕ → ℕ → ℕ → Bool
mask_matches mask value key = eqb (bit_and key mask) value

unfoldable pub mask_fits : ℕ → ℕ → ℕ → Bool
mask_fits width value mask = fits_width width mask && eqb (bit_and value mask) value
