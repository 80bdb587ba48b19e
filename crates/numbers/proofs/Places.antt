-- How the place of a number moves over the bytes: each byte adds one, and a byte below 128 passes a number.
use mathlib.Core.List.{List, [], ◌∷◌}
use mathlib.Core.Path.{◌≡◌, refl, sym}
use Prim.Native.Nat.{ℕ, zero, suc, ◌+◌, ◌-◌, ◌<◌, ◌≤◌}
use native.Mathlib.Numerals.{add-one, sub-one}
use native.Mathlib.Omega.{arith}
use lib.ListN.{length, drop, get_or, drop_of_length-le}
use lib.Seq.{drop-cons}
use borrow.Author.Tests.{le-leb, lt-leb}
use Rattle.rules.specs.Numbers.{place_of}

place_none : (bytes : List ℕ) → place_of bytes 0 ≡ 0
unfolding place_of
place_none [] = refl
place_none (byte ∷ bytes) = refl

module _ (byte : ℕ) (bytes : List ℕ) where
  place-over : (i : ℕ) → (i ≡ 0 → ⊥) → 128 ≤ byte → place_of (byte ∷ bytes) i ≡ suc (place_of bytes i)
  unfolding place_of
  place-over zero n h = absurd (n refl)
  place-over (suc i) n h = rw (place_of, le-leb 128 byte h)

  place-past : (i : ℕ) → (i ≡ 0 → ⊥) → byte < 128 → place_of (byte ∷ bytes) i ≡ suc (place_of bytes (i - 1))
  unfolding place_of
  place-past zero n h = absurd (n refl)
  place-past (suc i) n h = rw (sub-one (suc i), place_of, lt-leb 128 byte h)

-- at a byte, with so many numbers left to pass: what was passed and the place in the rest add up to the place asked for
pub record Passing (bytes : List ℕ) (index at left : ℕ) : Type 0 where
  pub within : at ≤ length bytes
  pub leads : at + place_of (drop at bytes) left ≡ place_of bytes index

pub passing-start : (bytes : List ℕ) (index : ℕ) → Passing bytes index 0 index
passing-start bytes index = record { within = omega arith; leads = omega arith }

module _ (bytes : List ℕ) (index at left : ℕ) (p : Passing bytes index at left) where
  pub passing-found : left ≡ 0 → at ≡ place_of bytes index
  passing-found e = omega (arith, p.leads, rw (sym e) at (place_none (drop at bytes)))

  pub passing-end : length bytes ≤ at → length bytes ≡ place_of bytes index
  unfolding place_of
  passing-end h = omega (arith, rw (drop_of_length-le bytes h) at p.leads)

  module _ (left' : ℕ) (inside : at < length bytes) (some : left ≡ 0 → ⊥) where
    abbrev byte : ℕ
    byte = get_or bytes at 0

    abbrev behind : List ℕ
    behind = drop (suc at) bytes

    here : at + place_of (byte ∷ behind) left ≡ place_of bytes index
    here = rw (drop-cons bytes at 0 inside) at p.leads

    pub passing-over : 128 ≤ get_or bytes at 0 → left' ≡ left → Passing bytes index (at + 1) left'
    passing-over h e =
        let moved : place_of (byte ∷ behind) left ≡ suc (place_of behind left) = place-over byte behind left some h in
        record { within = omega arith; leads = rw (e, add-one at) (omega (arith, here)) }

    pub passing-past : get_or bytes at 0 < 128 → left' ≡ left - 1 → Passing bytes index (at + 1) left'
    passing-past h e =
        let moved : place_of (byte ∷ behind) left ≡ suc (place_of behind (left - 1)) =
        place-past byte behind left some h in
        record { within = omega arith; leads = rw (e, add-one at) (omega (arith, here)) }

pub ruleset places = (passing-start, passing-found, passing-end, passing-over, passing-past)
