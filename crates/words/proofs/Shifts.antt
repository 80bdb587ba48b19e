-- Shifts: by less than the width, and by the width or more.
-- Assumes nothing.
use Rattle.std.proofs.Common.{◌≡◌, ℕ, ◌*◌, ◌/◌, ◌%◌, ◌^◌, ◌<◌, ◌≤◌, refl, le-ltb, lt-ltb}
use lib.Bits.{bit_and}
use Rattle.rules.specs.Words.{largest, shifted_left, shifted_right}
use Rattle.words.proofs.Masks.{mask-wrapped}

pub left-within : (width a by m : ℕ) → by < width → width ≤ 64 → m ≡ largest width
    → bit_and (a * 2 ^ by % 2 ^ 64) m ≡ shifted_left width a by
unfolding shifted_left
left-within width a by m h l e =
    rw (lt-ltb by width h, shifted_left) (mask-wrapped width (a * 2 ^ by) (a * 2 ^ by % 2 ^ 64) m l refl e)

pub left-past : (width a by : ℕ) → width ≤ by → 0 ≡ shifted_left width a by
unfolding shifted_left
left-past width a by h = rw (le-ltb by width h, shifted_left)

pub right-within : (width a by : ℕ) → by < width → a / 2 ^ by ≡ shifted_right width a by
unfolding shifted_right
right-within width a by h = rw (lt-ltb by width h, shifted_right)

pub right-past : (width a by : ℕ) → width ≤ by → 0 ≡ shifted_right width a by
unfolding shifted_right
right-past width a by h = rw (le-ltb by width h, shifted_right)
