-- Keys of tables: prefixes by shifts and masks, masks by `and`.
-- Assumes nothing.
use Rattle.std.proofs.Common.{◌≡◌, ℕ, ◌-◌, ◌/◌, ◌^◌, ◌<◌, ◌≤◌, Bool, true, false, eqb, ltb, sym, refl, ap, ◌∙◌, ap₂, lt_of_lt_of_le, pow_mono, w64, Fits, ltb-false, ltb-true, le-leb}
use native.Mathlib.Nat.{div-eq_of_lt}
use borrow.Author.Tests.{lt-leb}
use lib.Bits.{bit_and}
use Rattle.rules.specs.Words.{largest, fits_width, shifted_right, prefix_matches, prefix_fits, mask_fits}
use Rattle.words.proofs.Masks.{mask}
use Rattle.words.proofs.Shifts.{right-within, right-past}

-- a word of 64 bits shifted right by any amount is a quotient
right-quotient : (a by : ℕ) → Fits w64 a → shifted_right 64 a by ≡ a / 2 ^ by
right-quotient a by h = go (ltb by 64) refl
  where
    go : (t : Bool) → ltb by 64 ≡ t → shifted_right 64 a by ≡ a / 2 ^ by
    go true e = sym (right-within 64 a by (ltb-true by 64 e))
    go false e =
        sym (right-past 64 a by (ltb-false by 64 e))
        ∙ sym (div-eq_of_lt (lt_of_lt_of_le h.fits (pow_mono (ltb-false by 64 e))))

pub prefix-agrees : (width prefix value key x y : ℕ) → Fits w64 key → Fits w64 value
    → x ≡ shifted_right 64 key (width - prefix) → y ≡ shifted_right 64 value (width - prefix)
    → eqb x y ≡ prefix_matches width prefix value key
unfolding prefix_matches
prefix-agrees width prefix value key x y h l e k =
    ap₂ eqb (e ∙ right-quotient key (width - prefix) h) (k ∙ right-quotient value (width - prefix) l)

pub prefix-within : (width value prefix m : ℕ) → prefix ≤ width → m ≡ largest (width - prefix)
    → eqb (bit_and value m) 0 ≡ prefix_fits width value prefix
unfolding prefix_fits
prefix-within width value prefix m h e =
    rw (le-leb prefix width h) (ap (λ (n : ℕ). eqb n 0) (mask (width - prefix) value m e))

pub prefix-past : (width value prefix : ℕ) → width < prefix → false ≡ prefix_fits width value prefix
unfolding prefix_fits
prefix-past width value prefix h = rw (lt-leb prefix width h)

pub mask-within : (width value mask : ℕ) (fits : Bool) → fits ≡ true → fits ≡ fits_width width mask
    → eqb (bit_and value mask) value ≡ mask_fits width value mask
unfolding mask_fits
mask-within width value mask fits h e = rw (sym e ∙ h)

pub mask-past : (width value mask : ℕ) (fits : Bool) → fits ≡ false → fits ≡ fits_width width mask
    → false ≡ mask_fits width value mask
unfolding mask_fits
mask-past width value mask fits h e = rw (sym e ∙ h)
