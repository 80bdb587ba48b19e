-- The loops over the packet's bits: what is read, counted and filled so far.
use mathlib.Core.Path.{◌≡◌, refl, sym, ap, ◌∙◌}
use mathlib.Core.List.{List}
use Prim.Native.Nat.{ℕ, ◌+◌, ◌-◌, ◌*◌, ◌/◌, ◌%◌, ◌^◌, ◌≤◌, ◌<◌}
use native.Mathlib.Nat.{mod-lt}
use native.Mathlib.Numerals.{add-one}
use native.Mathlib.Omega.{arith}
use lib.ListN.{length, get_or, set, take, drop, length-set, length-drop}
use lib.Pow.{pow-add}
use lib.Seq.{get_or-set_same, get_or-set_other, get_or-take, get_or-drop, length-take-le, take-take}
use Rattle.rules.specs.Numbers.{most_bytes}
use Rattle.rules.specs.Words.{widest}
use Rattle.rules.specs.Form.{bits_in}
use Rattle.rules.specs.Running.{bits_of_bytes, number_of_bits, fields_from}
use Rattle.store.specs.Mirrors.{store_slots}
use Rattle.store.specs.Packets.{bits_from, AsksBits, ReadsBits, widths_at, AsksWidths, CountsBits, AsksFields, FillsFields}
use Rattle.store.proofs.Flat.{Order, under, beyond, order}
use Rattle.store.proofs.Bits.{bits-length, bit-from, number_more, widths-more, widths-within, field-from}

-- the number that the bits so far stand for
pub record Reading (nums : List ℕ) (from first width number at : ℕ) : Type 0 where
  pub asks : AsksBits nums from first width
  pub up : at ≤ width
  pub small : number < 2 ^ at
  pub is : number ≡ number_of_bits 0 (take at (drop first (bits_from nums from)))

pub read-start : (nums : List ℕ) (from first width : ℕ) → AsksBits nums from first width
    → Reading nums from first width 0 0
unfolding number_of_bits
read-start nums from first width a = record { asks = a; up = omega arith; small = omega arith; is = refl }

module _ (nums : List ℕ) (from first width number at : ℕ) (r : Reading nums from first width number at) where
  module _ (h : at < width) where
    abbrev bit : ℕ
    bit = get_or nums (from + (first + at) / 8) 0 / 2 ^ (7 - (first + at) % 8) % 2

    bit-small : bit < 2
    bit-small = mod-lt (get_or nums (from + (first + at) / 8) 0 / 2 ^ (7 - (first + at) % 8)) (omega arith)

    next_bit : get_or (drop first (bits_from nums from)) at 0 ≡ bit
    unfolding bits_from
    next_bit = get_or-drop first (bits_of_bytes (drop from nums)) at 0
        ∙ bit-from nums from (first + at) (omega (arith, r.asks.inside))

    bits_left : at < length (drop first (bits_from nums from))
    unfolding bits_from
    bits_left = omega (
      arith,
      length-drop first (bits_of_bytes (drop from nums)),
      bits-length (drop from nums),
      length-drop from nums,
      r.asks.inside,
    )

    pub read_more : Reading nums from first width (number * 2 + bit) (at + 1)
    read_more = record {
      asks = r.asks;
      up = omega arith;
      small = rw (pow-add 2 at 1) (omega (arith, r.small, bit-small));
      is = rw (add-one at, number_more (drop first (bits_from nums from)) at bits_left, next_bit, ← r.is);
    }

  pub read_done : width ≤ at → ReadsBits nums from first width number
  read_done h =
      let e : at ≡ width = omega (arith, r.up) in
      record { is = rw (← e) r.is }

pub ruleset readings = (read-start, read_more, read_done)

-- widths by position
module _ (nums : List ℕ) (at count : ℕ) (a : AsksWidths nums at count) where
  abbrev ws : List ℕ
  ws = widths_at nums at count

  pub widths-length : length ws ≡ count
  unfolding widths_at
  widths-length = length-take-le count (drop at nums) (omega (arith, length-drop at nums, a.inside))

  width_is : (i : ℕ) → i < count → get_or ws i 0 ≡ get_or nums (at + i) 0
  unfolding widths_at
  width_is i h = get_or-take count (drop at nums) i 0 h ∙ get_or-drop at nums i 0

  width-next : (i : ℕ) → i < count → bits_in (take (i + 1) ws) ≡ bits_in (take i ws) + get_or nums (at + i) 0
  width-next i h =
      rw (add-one i, ← width_is i h) (widths-more ws i (omega (arith, widths-length)))

  all-widths : (i : ℕ) → i ≡ count → bits_in (take i ws) ≡ bits_in ws
  unfolding widths_at
  all-widths i e = rw e (ap bits_in (take-take count count (drop at nums) (omega arith)))

  width-within : (i : ℕ) → i < count → bits_in (take i ws) + get_or nums (at + i) 0 ≤ bits_in ws
  width-within i h = omega (arith, width-next i h, widths-within ws (i + 1))

-- the bits of the widths so far
pub record Counting (nums : List ℕ) (at count bits i : ℕ) : Type 0 where
  pub asks : AsksWidths nums at count
  pub up : i ≤ count
  pub most : bits ≤ i * widest
  pub is : bits ≡ bits_in (take i (widths_at nums at count))

pub count-start : (nums : List ℕ) (at count : ℕ) → AsksWidths nums at count → Counting nums at count 0 0
unfolding bits_in
count-start nums at count a = record { asks = a; up = omega arith; most = omega arith; is = refl }

-- the part of the numbers that has the widths
abbrev part_of : List ℕ → ℕ → ℕ → List ℕ
part_of nums at count = take (at + count - at) (drop at nums)

part_is : (nums : List ℕ) (at count : ℕ) → part_of nums at count ≡ widths_at nums at count
unfolding widths_at
part_is nums at count =
    let e : at + count - at ≡ count = omega arith in
    rw e refl

module _ (nums : List ℕ) (at count bits i : ℕ) (r : Counting nums at count bits i) where
  long : length (part_of nums at count) ≡ count
  long = rw (part_is nums at count) (widths-length nums at count r.asks)

  module _ (h : i < length (part_of nums at count)) where
    low : i < count
    low = omega (arith, h, long)

    width : get_or (part_of nums at count) i 0 ≡ get_or nums (at + i) 0
    width = rw (part_is nums at count) (width_is nums at count r.asks i low)

    pub count-more : Counting nums at count (bits + get_or (part_of nums at count) i 0) (i + 1)
    count-more = rw width (record {
      asks = r.asks;
      up = omega (arith, low);
      most = omega (arith, r.most, r.asks.wide i low);
      is = rw (width-next nums at count r.asks i low, ← r.is);
    })

  pub count-done : length (part_of nums at count) ≤ i → CountsBits nums at count bits
  count-done h =
      let e : i ≡ count = omega (arith, r.up, long, h) in
      record { is = r.is ∙ all-widths nums at count r.asks i e }

pub ruleset countings = (count-start, count-more, count-done)

-- the fields so far
pub record FieldsSoFar (nums slots₀ slots : List ℕ) (at count from slot first i : ℕ) : Type 0 where
  pub asks : AsksFields nums slots₀ at count from slot
  pub up : i ≤ count
  pub same : length slots ≡ length slots₀
  pub bits : first ≡ bits_in (take i (widths_at nums at count))
  pub filled : (j : ℕ) → j < i
      → get_or slots (slot + j) 0 ≡ get_or (fields_from (widths_at nums at count) (bits_from nums from)) j 0
  pub before : (k : ℕ) → k < slot → get_or slots k 0 ≡ get_or slots₀ k 0
  pub behind : (k : ℕ) → slot + i ≤ k → get_or slots k 0 ≡ get_or slots₀ k 0

pub fields-start : (nums slots : List ℕ) (at count from slot : ℕ) → AsksFields nums slots at count from slot
    → FieldsSoFar nums slots slots at count from slot 0 0
unfolding bits_in
fields-start nums slots at count from slot a = record {
  asks = a;
  up = omega arith;
  same = refl;
  bits = refl;
  filled = λ j h. absurd (omega arith);
  before = λ k h. refl;
  behind = λ k h. refl;
}

pub record FieldRoom (nums slots : List ℕ) (at count from slot first i : ℕ) : Type 0 where
  pub few : length nums ≤ most_bytes
  pub inside : at + i < length nums
  pub size : length slots ≡ store_slots
  pub room : slot + i < store_slots
  pub wide : get_or nums (at + i) 0 ≤ widest
  pub low : count ≤ 16
  pub bits : from * 8 + (first + get_or nums (at + i) 0) ≤ length nums * 8

module _ (nums slots₀ slots : List ℕ) (at count from slot first i : ℕ)
    (r : FieldsSoFar nums slots₀ slots at count from slot first i) where
  module _ (h : i < count) where
    pub field_room : FieldRoom nums slots at count from slot first i
    field_room = record {
      few = r.asks.widths.few;
      inside = omega (arith, r.asks.widths.inside);
      size = r.same ∙ r.asks.size;
      room = omega (arith, r.asks.room);
      wide = r.asks.widths.wide i h;
      low = r.asks.widths.most;
      bits = omega (arith, r.bits, r.asks.inside, width-within nums at count r.asks.widths i h);
    }

    pub field-asks : AsksBits nums from first (get_or nums (at + i) 0)
    field-asks = record { few = field_room.few; wide = field_room.wide; inside = field_room.bits }

    abbrev fields : List ℕ
    fields = fields_from (widths_at nums at count) (bits_from nums from)

    module _ (n : ℕ) (k : ReadsBits nums from first (get_or nums (at + i) 0) n) where
      field_is : n ≡ get_or fields i 0
      field_is = k.is ∙ sym (field-from (widths_at nums at count) (bits_from nums from) i
          (omega (arith, widths-length nums at count r.asks.widths))
          ∙ rw (width_is nums at count r.asks.widths i h, ← r.bits))

      filled_at : (j : ℕ) → j < i + 1 → Order j i → get_or (set slots (slot + i) n) (slot + j) 0 ≡ get_or fields j 0
      filled_at j l (under o) =
          get_or-set_other slots (slot + i) (slot + j) n 0 (λ e. absurd (omega (arith, e))) ∙ r.filled j o
      filled_at j l (beyond o) =
          let e : j ≡ i = omega arith in
          rw e (get_or-set_same slots (slot + i) n 0 (omega (arith, field_room)) ∙ field_is)

      pub fields-more : FieldsSoFar nums slots₀ (set slots (slot + i) n) at count from slot
          (first + get_or nums (at + i) 0) (i + 1)
      fields-more = record {
        asks = r.asks;
        up = omega arith;
        same = length-set slots (slot + i) n ∙ r.same;
        bits = rw (width-next nums at count r.asks.widths i h, ← r.bits);
        filled = λ j l. filled_at j l (order j i);
        before = λ j l. get_or-set_other slots (slot + i) j n 0 (λ e. absurd (omega (arith, e))) ∙ r.before j l;
        behind = λ j l. get_or-set_other slots (slot + i) j n 0 (λ e. absurd (omega (arith, e)))
            ∙ r.behind j (omega arith);
      }

  pub fields-done : count ≤ i → FillsFields nums slots₀ slots at count from slot
  fields-done h =
      let e : i ≡ count = omega (arith, r.up) in
      record {
        same = r.same;
        filled = λ j l. r.filled j (omega arith);
        before = r.before;
        behind = λ j l. r.behind j (omega arith);
      }

pub ruleset fieldings = (fields-start, field-asks, fields-more, fields-done)
