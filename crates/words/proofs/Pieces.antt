-- Slices, and patterns joined.
-- Assumes nothing.
use Rattle.std.proofs.Common.{◌≡◌, ℕ, ◌+◌, ◌-◌, ◌*◌, ◌/◌, ◌%◌, ◌^◌, ◌<◌, ◌≤◌, sym, ap, ◌∙◌, subst, le-add_right, lt_of_le_of_lt, mod-eq_of_lt, arith, w64, Fits}
use lib.Bits.{bit_and}
use Rattle.rules.specs.Words.{largest, slice_width, slice_of, joined}
use Rattle.words.proofs.Masks.{mask}

pub slice-masked : (high low a m : ℕ) → low ≤ high → m ≡ largest (high - low + 1)
    → bit_and (a / 2 ^ low) m ≡ slice_of high low a
unfolding slice_of slice_width
slice-masked high low a m h e =
    mask (high - low + 1) (a / 2 ^ low) m e ∙ ap (λ (k : ℕ). a / 2 ^ low % 2 ^ k) (omega arith)

-- nothing is shifted out in front
pub joined-whole : (width a b : ℕ) → joined width a b < 2 ^ 64 → a * 2 ^ width % 2 ^ 64 + b ≡ joined width a b
unfolding joined
joined-whole width a b h =
    ap (λ (n : ℕ). n + b) (mod-eq_of_lt (lt_of_le_of_lt (le-add_right (a * 2 ^ width) b) h))

pub joined_word : (width a b : ℕ) → joined width a b < 2 ^ 64 → Fits w64 (a * 2 ^ width % 2 ^ 64 + b)
joined_word width a b h = record { fits = subst (λ (n : ℕ). n < 2 ^ 64) (sym (joined-whole width a b h)) h }
