-- The largest number of a width as a mask and as a bound, at every width.
-- Assumes nothing.
use Rattle.std.proofs.Common.{◌≡◌, ℕ, suc, ◌+◌, ◌-◌, ◌%◌, ◌^◌, ◌<◌, ◌≤◌, leb, sym, ap, ◌∙◌, subst, le_of_lt, add_assoc, add-sub_of_le, sub-add_cancel}
use native.Mathlib.Nat.{add-mod_right, mod-add-mod}
use lib.Bits.{bit_and, and_mask}
use lib.Dec.{leb-suc-suc}
use lib.Pow.{mod-mod-pow, suc_ones, le_ones}
use Rattle.rules.specs.Words.{largest, fits_width, difference}

-- as a mask it takes the remainder by 2^width
pub mask : (width n m : ℕ) → m ≡ largest width → bit_and n m ≡ n % 2 ^ width
unfolding largest
mask width n m e = ap (bit_and n) e ∙ and_mask n width

-- a longer remainder before a shorter one changes nothing
pub mod-shorter : (n : ℕ) {width longer : ℕ} → width ≤ longer → n % 2 ^ longer % 2 ^ width ≡ n % 2 ^ width
mod-shorter n {width} {longer} h =
    subst (λ (k : ℕ). n % 2 ^ k % 2 ^ width ≡ n % 2 ^ width) (sub-add_cancel h) (mod-mod-pow n (longer - width) width)

-- so a mask after an operation modulo 2^64 gives the operation modulo 2^width
pub mask-wrapped : (width n x m : ℕ) → width ≤ 64 → x ≡ n % 2 ^ 64 → m ≡ largest width → bit_and x m ≡ n % 2 ^ width
mask-wrapped width n x m h e l = mask width x m l ∙ ap (λ (y : ℕ). y % 2 ^ width) e ∙ mod-shorter n h

-- x is a − b modulo 2^64: adding b gives a
pub mask-difference : (width a b x m : ℕ) → width ≤ 64 → b < 2 ^ width → (x + b) % 2 ^ 64 ≡ a → m ≡ largest width
    → bit_and x m ≡ difference width a b
unfolding difference
mask-difference width a b x m h l e k =
    mask width x m k
    ∙ sym (add-mod_right x (2 ^ width))
    ∙ ap (λ (y : ℕ). (x + y) % 2 ^ width) (sym (add-sub_of_le (le_of_lt l)))
    ∙ ap (λ (y : ℕ). y % 2 ^ width) (sym (add_assoc x b (2 ^ width - b)))
    ∙ sym (mod-add-mod (x + b) (2 ^ width) (2 ^ width - b))
    ∙ ap (λ (y : ℕ). (y + (2 ^ width - b)) % 2 ^ width) (sym (mod-shorter (x + b) h))
    ∙ mod-add-mod ((x + b) % 2 ^ 64) (2 ^ width) (2 ^ width - b)
    ∙ ap (λ (y : ℕ). (y + (2 ^ width - b)) % 2 ^ width) e

-- as a bound it tells which numbers fit
pub largest-test : (width n m : ℕ) → m ≡ largest width → leb n m ≡ fits_width width n
unfolding largest fits_width
largest-test width n m e =
    ap (leb n) e ∙ sym (leb-suc-suc n (2 ^ width - 1)) ∙ ap (leb (suc n)) (suc_ones width)

pub largest-bound : (width n m : ℕ) → n < 2 ^ width → m ≡ largest width → n ≤ m
unfolding largest
largest-bound width n m h e = subst (λ (k : ℕ). n ≤ k) (sym e) (le_ones width h)
