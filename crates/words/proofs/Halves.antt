-- The product modulo 2^64 from halves of 32 bits. The law stands over any base; the product of the high halves is a
-- multiple of the base's square.
-- Assumes nothing.
use Rattle.std.proofs.Common.{◌≡◌, ℕ, ◌+◌, ◌*◌, ◌/◌, ◌%◌, ◌^◌, ◌<◌, sym, refl, ap, ◌∙◌, ap₂, lt_of_le_of_lt, le_of_lt, add_assoc, mul_assoc, mul_comm, add-mul, add_comm, mul-le-mul_left, mul-lt-mul_of_pos_right, div-add-mod', mul-add, mul_left_comm, pow_pos, shr_lt, w64, Fits}
use native.Mathlib.Nat.{add_left_comm}
use native.Mathlib.Nat.{mod-add-mod, mul-add-mod_self_right}
use lib.Bits.{bit_and, and_mask, mask_lt}
use lib.Pow.{split}

multiplied : (base a₁ a₀ b₁ b₀ : ℕ)
    → (a₁ * base + a₀) * (b₁ * base + b₀) ≡ a₁ * b₁ * (base * base) + ((a₁ * b₀ + a₀ * b₁) * base + a₀ * b₀)
multiplied base a₁ a₀ b₁ b₀ =
    simp (mul-add, add-mul, mul_assoc, mul_comm, mul_left_comm, add_assoc, add_comm, add_left_comm) refl

spread : (q r m k : ℕ) → q * k * m + r * k ≡ (q * m + r) * k
spread q r m k = simp (add-mul, mul_assoc, mul_comm) refl

-- a factor may be reduced before a product is
factor-reduced : (n k m : ℕ) → n % m * k % m ≡ n * k % m
factor-reduced n k m =
    sym (mul-add-mod_self_right (n / m * k) m (n % m * k))
    ∙ ap (λ (y : ℕ). y % m) (spread (n / m) (n % m) m k)
    ∙ ap (λ (y : ℕ). y * k % m) (div-add-mod' n m)

from_halves : (base a₁ a₀ b₁ b₀ : ℕ)
    → ((a₁ * b₀ + a₀ * b₁) % (base * base) * base % (base * base) + a₀ * b₀) % (base * base)
    ≡ (a₁ * base + a₀) * (b₁ * base + b₀) % (base * base)
from_halves base a₁ a₀ b₁ b₀ =
    ap (λ (y : ℕ). (y + a₀ * b₀) % (base * base)) (factor-reduced (a₁ * b₀ + a₀ * b₁) base (base * base))
    ∙ mod-add-mod ((a₁ * b₀ + a₀ * b₁) * base) (base * base) (a₀ * b₀)
    ∙ sym (mul-add-mod_self_right (a₁ * b₁) (base * base) ((a₁ * b₀ + a₀ * b₁) * base + a₀ * b₀))
    ∙ ap (λ (y : ℕ). y % (base * base)) (sym (multiplied base a₁ a₀ b₁ b₀))

-- the halves of a number of 64 bits
abbrev pub low_half : ℕ → ℕ
low_half n = bit_and n 0xffff_ffff

abbrev pub high_half : ℕ → ℕ
high_half n = n / 2 ^ 32

-- `middle` is what the high half of one and the low half of the other give
pub product-halves : (a b middle r : ℕ) → middle ≡ (high_half a * low_half b + low_half a * high_half b) % 2 ^ 64
    → r ≡ (middle * 2 ^ 32 % 2 ^ 64 + low_half a * low_half b) % 2 ^ 64 → r ≡ a * b % 2 ^ 64
product-halves a b middle r e k =
    k
    ∙ ap (λ (y : ℕ). (y * 2 ^ 32 % 2 ^ 64 + low_half a * low_half b) % 2 ^ 64) e
    ∙ from_halves (2 ^ 32) (high_half a) (low_half a) (high_half b) (low_half b)
    ∙ ap₂ (λ (p q : ℕ). (high_half a * 2 ^ 32 + p) * (high_half b * 2 ^ 32 + q) % 2 ^ 64) (and_mask a 32) (and_mask b 32)
    ∙ ap₂ (λ (p q : ℕ). p * q % 2 ^ 64) (split a 32) (split b 32)

pub low-half-small : (n : ℕ) → low_half n < 2 ^ 32
low-half-small n = mask_lt n 32

pub high-half-small : (n : ℕ) → Fits w64 n → high_half n < 2 ^ 32
high-half-small n h = shr_lt 32 32 h.fits

pub half-product-fits : (a b : ℕ) → a < 2 ^ 32 → b < 2 ^ 32 → Fits w64 (a * b)
half-product-fits a b h k =
    record { fits = lt_of_le_of_lt (mul-le-mul_left a (le_of_lt k)) (mul-lt-mul_of_pos_right h (pow_pos 32)) }
