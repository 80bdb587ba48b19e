-- Reading one number byte by byte: what was read so far, and that no sum or product on the way passes 2^64.
use Rattle.std.specs.Prelude.{Option, None, Some, Result, Ok, Err}
use mathlib.Core.List.{List, [], ◌∷◌}
use mathlib.Core.Logic.{⊎_elim}
use mathlib.Core.Path.{◌≡◌, refl, sym, ap, ◌∙◌}
use Prim.Native.Nat.{ℕ, zero, suc, ◌+◌, ◌-◌, ◌*◌, ◌^◌, ◌<◌, ◌≤◌}
use native.Mathlib.Nat.{mul-le-mul_right, pow-le-pow_right, pow-suc, eq-or-lt_of_le}
use native.Mathlib.Numerals.{add-one}
use native.Mathlib.Omega.{arith}
use lib.Dec.{lit<}
use lib.ListN.{length, drop, get_or, drop_of_length-le}
use lib.Seq.{drop-cons}
use mir.Syntax.{w8, w64}
use mir.Val.{Fits}
use Rattle.rules.specs.declared.Reason.{Reason}
use Rattle.rules.specs.declared.Reason.TheVariants.{CutOff, Overlong}
use Rattle.rules.specs.Numbers.{more, last, numbers, broken, end_at, stream_from, group_of}
use Rattle.rules.proofs.Codec.{ends-first, group-ends, ByteIs, is-more, is_last, is-wrong, byte-is, stream-more, stream-last, stream-wrong}
use Rattle.numbers.specs.declared.Group.{Group}
use Rattle.numbers.specs.declared.Group.TheVariants as group
use Rattle.numbers.specs.declared.Number.{Number}
use Rattle.numbers.specs.Parts.{of_group, stream_at, NumberAt}

-- in the number that begins at `place`: the bytes before `at` give `value`, and the next group counts `weight` times
pub record Within (bytes : List ℕ) (place at value weight : ℕ) : Type 0 where
  pub from : place ≤ at
  pub few : at - place ≤ 9
  pub weighs : weight ≡ 128 ^ (at - place)
  pub small : value < weight
  pub leads : stream_from place (at - place) value (drop at bytes) ≡ stream_from place 0 0 (drop place bytes)

pub within-start : (bytes : List ℕ) (place : ℕ) → Within bytes place place 0 1
within-start bytes place =
    let none : place - place ≡ 0 = omega arith in
    record { from = omega arith; few = omega arith; weighs = rw none; small = omega arith; leads = rw none }

-- how much a group adds, with others behind it and as the last one
module _ (before byte g value weight : ℕ)
    (weighs : weight ≡ 128 ^ before) (few : before ≤ 9) (small : value < weight) where
  weight-most : (most : ℕ) → before ≤ most → weight ≤ 128 ^ most
  weight-most most h = rw weighs (pow-le-pow_right (lit< tt) h)

  times : (most : ℕ) → g ≤ most → g * weight ≤ most * weight
  times most h = mul-le-mul_right weight h

  record MoreAdds : Type 0 where
    fewer : before ≤ 8
    below : value + g * weight < weight * 128
    fits : weight * 128 ≤ 2 ^ 63

  more-adds : byte < 256 → group_of before byte ≡ more g → ByteIs before byte → MoreAdds
  more-adds h e (is-more g' f n b) =
      let same : g ≡ g' = cc in
      let fewer : before ≤ 8 = omega arith in
      record {
        fewer = fewer;
        below = omega (arith, times 127 (omega arith));
        fits = omega (arith, weight-most 8 fewer);
      }
  more-adds h e (is_last f l) = let z : ◌≡◌ {A = ℕ} 0 1 = cc in absurd (omega arith)
  more-adds h e (is-wrong f) = let z : ◌≡◌ {A = ℕ} 0 1 = cc in absurd (omega arith)

  last-adds : group_of before byte ≡ last g → ByteIs before byte → value + g * weight < 2 ^ 64
  last-adds e (is-more g' f n b) = let z : ◌≡◌ {A = ℕ} 0 1 = cc in absurd (omega arith)
  last-adds e (is_last f l) =
      let same : g ≡ byte = cc in
      ⊎_elim (λ nine. let one : byte ≡ 1 = l.one nine in omega (arith, times 1 (omega arith), weight-most 9 few))
      (λ fewer. omega (arith, l.small, times 127 (omega (arith, l.small)), weight-most 8 (omega arith)))
      (eq-or-lt_of_le few)
  last-adds e (is-wrong f) = let z : ◌≡◌ {A = ℕ} 0 1 = cc in absurd (omega arith)

-- one byte more: `r` is what the code found it to be
module _ (bytes : List ℕ) (place at value weight : ℕ) (w : Within bytes place at value weight)
    (inside : at < length bytes) (r : Option Group) (says : of_group r ≡ group_of (at - place) (get_or bytes at 0)) where
  abbrev byte : ℕ
  byte = get_or bytes at 0

  abbrev before : ℕ
  before = at - place

  leads-on : stream_from place before value (byte ∷ drop (suc at) bytes) ≡ stream_from place 0 0 (drop place bytes)
  leads-on = rw (drop-cons bytes at 0 inside) at w.leads

  module _ (v : Group) (g : ℕ) (h : Fits w8 byte) (some : r ≡ Some v) (e : v ≡ group.More g) where
    is-group : group_of before byte ≡ more g
    unfolding of_group
    is-group = sym says ∙ rw (some, e)

    adds : MoreAdds before byte g value weight w.weighs w.few w.small
    adds = more-adds before byte g value weight w.weighs w.few w.small h.fits is-group (byte-is before byte)

    pub more-product : Fits w64 (g * weight)
    more-product = record { fits = omega (arith, adds.below, adds.fits) }

    pub more-sum : Fits w64 (value + g * weight)
    more-sum = record { fits = omega (arith, adds.below, adds.fits) }

    pub more-weight : Fits w64 (weight * 128)
    more-weight = record { fits = omega (arith, adds.fits) }

    within-next : Within bytes place (at + 1) (value + g * weight) (weight * 128)
    within-next =
        let next : at + 1 - place ≡ suc before = omega arith in
        record {
          from = omega arith;
          few = omega (arith, adds.fewer);
          weighs = rw (next, pow-suc 128 before, w.weighs);
          small = adds.below;
          leads = rw (next, add-one at, w.weighs)
              (sym (stream-more place before value byte (drop (suc at) bytes) g is-group) ∙ leads-on);
        }

    pub within_more : (at' value' weight' : ℕ) → at' ≡ at + 1 → value' ≡ value + g * weight → weight' ≡ weight * 128 →
        Within bytes place at' value' weight'
    within_more at' value' weight' ea ev ew = rw (ea, ev, ew) within-next

  module _ (v : Group) (g : ℕ) (some : r ≡ Some v) (e : v ≡ group.Last g) where
    ends-group : group_of before byte ≡ last g
    unfolding of_group
    ends-group = sym says ∙ rw (some, e)

    sum_fits : value + g * weight < 2 ^ 64
    sum_fits = last-adds before byte g value weight w.weighs w.few w.small ends-group (byte-is before byte)

    pub last-product : Fits w64 (g * weight)
    last-product = record { fits = omega (arith, sum_fits) }

    pub last_sum : Fits w64 (value + g * weight)
    last_sum = record { fits = sum_fits }

    pub number-whole : NumberAt bytes place (Ok (record { value = value + g * weight; next = at + 1 }))
    unfolding stream_at
    number-whole =
        let behind : place + suc before ≡ suc at = omega arith in
        record {
          reads = rw (add-one at, w.weighs)
              (sym leads-on ∙ stream-last place before value byte (drop (suc at) bytes) g ends-group ∙ rw behind);
          on = λ n q. let e : n.next ≡ at + 1 = cc in (omega arith, omega arith);
        }

  pub number-wrong : r ≡ None → NumberAt bytes place (Err Overlong)
  unfolding of_group stream_at
  number-wrong e =
      record {
        reads = sym leads-on ∙ stream-wrong place before value byte (drop (suc at) bytes) (sym says ∙ ap of_group e);
        on = λ n q. let z : ◌≡◌ {A = ℕ} 0 1 = cc in absurd (omega arith);
      }

-- the end of the bytes
cut_at : (place before : ℕ) → (before ≡ 0 → ⊥) → end_at place before ≡ broken 2 place
unfolding end_at
cut_at place zero n = absurd (n refl)
cut_at place (suc before) n = refl

pub stream-none : (bytes : List ℕ) (at : ℕ) → length bytes ≤ at → stream_from at 0 0 (drop at bytes) ≡ numbers []
unfolding stream_from end_at
stream-none bytes at end = rw (drop_of_length-le bytes end)

module _ (bytes : List ℕ) (place at value weight : ℕ) (w : Within bytes place at value weight)
    (inside : place < length bytes) (end : length bytes ≤ at) where
  leads-end : stream_from place 0 0 (drop place bytes) ≡ end_at place (at - place)
  unfolding stream_from
  leads-end = sym w.leads ∙ rw (drop_of_length-le bytes end)

  pub number_cut : NumberAt bytes place (Err CutOff)
  unfolding stream_at
  number_cut =
      record {
        reads = leads-end ∙ cut_at place (at - place) (λ none. omega arith);
        on = λ n q. let z : ◌≡◌ {A = ℕ} 0 1 = cc in absurd (omega arith);
      }

-- a byte below 128 where a number begins is all of it
pub number-one : (bytes : List ℕ) (place : ℕ) → place < length bytes → get_or bytes place 0 < 128
    → NumberAt bytes place (Ok (record { value = get_or bytes place 0; next = place + 1 }))
unfolding of_group
number-one bytes place inside small =
    let byte : ℕ = get_or bytes place 0 in
    let first : place - place ≡ 0 = omega arith in
    let says : last byte ≡ group_of (place - place) byte
    = sym (group-ends (place - place) byte (omega arith) small ∙ ends-first (place - place) byte first) in
    let value : 0 + byte * 1 ≡ byte = omega arith in
    rw value at (number-whole bytes place place 0 1 (within-start bytes place) inside (Some (group.Last byte)) says (group.Last byte) byte refl refl)

-- behind a whole number fewer bytes are left
pub number-ahead : (bytes : List ℕ) (place : ℕ) (r : Result Number Reason) → NumberAt bytes place r →
    (number : Number) → r ≡ Ok number → length bytes - number.next < length bytes - place
number-ahead bytes place r found number e = omega (arith, (found.on number e).0, (found.on number e).1)

pub ruleset withins = (
  within-start,
  within_more,
  more-product,
  more-sum,
  more-weight,
  last-product,
  last_sum,
  number-whole,
  number-wrong,
  number_cut,
)
