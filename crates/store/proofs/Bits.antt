-- Bits by position: of bytes, the number that so many of them stand for, and the fields that they fill.
use mathlib.Core.Path.{◌≡◌, refl, ap, ◌∙◌}
use mathlib.Core.List.{List, [], ◌∷◌, ◌++◌}
use Prim.Native.Nat.{ℕ, zero, suc, ◌+◌, ◌-◌, ◌*◌, ◌/◌, ◌%◌, ◌^◌, ◌≤◌, ◌<◌}
use native.Mathlib.Omega.{arith}
use lib.ListN.{length, get_or, take, drop, length-append, length-drop, get_or-append}
use lib.Seq.{take-suc, get_or-append-add, get_or-drop, drop-drop}
use Rattle.rules.specs.Form.{bits_in}
use Rattle.rules.specs.Running.{bits_below, bits_of_bytes, number_of_bits, fields_from}
use Rattle.store.proofs.Flat.{Order, under, beyond, order}

-- the bits of a byte and of bytes
below_length : (i n : ℕ) → length (bits_below i n) ≡ i
unfolding bits_below
below_length zero n = refl
below_length (suc i) n = ap suc (below_length i n)

below_at : (i n j : ℕ) → j < i → get_or (bits_below i n) j 0 ≡ n / 2 ^ (i - 1 - j) % 2
unfolding bits_below
below_at zero n j h = absurd (omega arith)
below_at (suc i) n zero h =
    let e : suc i - 1 - 0 ≡ i = omega arith in
    rw e
below_at (suc i) n (suc j) h =
    let e : suc i - 1 - suc j ≡ i - 1 - j = omega arith in
    rw e (below_at i n j (omega arith))

pub bits-length : (bytes : List ℕ) → length (bits_of_bytes bytes) ≡ length bytes * 8
unfolding bits_of_bytes
bits-length [] = refl
bits-length (n ∷ ns) = omega (arith, length-append (bits_below 8 n) (bits_of_bytes ns), below_length 8 n, bits-length ns)

bit-first : (n : ℕ) (ns : List ℕ) (j : ℕ) → j < 8 → get_or (bits_of_bytes (n ∷ ns)) j 0 ≡ n / 2 ^ (7 - j) % 2
unfolding bits_of_bytes
bit-first n ns j h =
    get_or-append (bits_below 8 n) (bits_of_bytes ns) 0 j (omega (arith, below_length 8 n)) ∙ below_at 8 n j h

bit-behind : (n : ℕ) (ns : List ℕ) (j : ℕ)
    → get_or (bits_of_bytes (n ∷ ns)) (length (bits_below 8 n) + j) 0 ≡ get_or (bits_of_bytes ns) j 0
unfolding bits_of_bytes
bit-behind n ns j = get_or-append-add (bits_below 8 n) (bits_of_bytes ns) j 0

bit_at : (bytes : List ℕ) (j : ℕ) → j < length bytes * 8
    → get_or (bits_of_bytes bytes) j 0 ≡ get_or bytes (j / 8) 0 / 2 ^ (7 - j % 8) % 2
bit_at [] j h = absurd (omega arith)
bit_at (n ∷ ns) j h = go (order j 8) (bit_at ns (j - 8))
  where
    go : Order j 8
        → (j - 8 < length ns * 8 → get_or (bits_of_bytes ns) (j - 8) 0 ≡ get_or ns ((j - 8) / 8) 0 / 2 ^ (7 - (j - 8) % 8) % 2)
        → get_or (bits_of_bytes (n ∷ ns)) j 0 ≡ get_or (n ∷ ns) (j / 8) 0 / 2 ^ (7 - j % 8) % 2
    go (under k) rest =
        let q : j / 8 ≡ 0 = omega arith in
        let r : j % 8 ≡ j = omega arith in
        rw (q, r) (bit-first n ns j k)
    go (beyond k) rest =
        let e : length (bits_below 8 n) + (j - 8) ≡ j = omega (arith, below_length 8 n) in
        let q : j / 8 ≡ suc ((j - 8) / 8) = omega arith in
        let r : j % 8 ≡ (j - 8) % 8 = omega arith in
        let behind : get_or (bits_of_bytes (n ∷ ns)) (length (bits_below 8 n) + (j - 8)) 0 ≡ get_or (bits_of_bytes ns) (j - 8) 0
        = bit-behind n ns (j - 8) in
        rw (q, r) (rw e at behind ∙ rest (omega arith))

-- a bit of those from a byte on
pub bit-from : (nums : List ℕ) (from j : ℕ) → from * 8 + j < length nums * 8
    → get_or (bits_of_bytes (drop from nums)) j 0 ≡ get_or nums (from + j / 8) 0 / 2 ^ (7 - j % 8) % 2
bit-from nums from j h =
    bit_at (drop from nums) j (omega (arith, length-drop from nums)) ∙ rw (get_or-drop from nums (j / 8) 0)

-- one bit more
behind-bits : (front : ℕ) (bs : List ℕ) (b : ℕ) → number_of_bits front (bs ++ b ∷ []) ≡ number_of_bits front bs * 2 + b
unfolding number_of_bits
behind-bits front [] b = refl
behind-bits front (c ∷ bs) b = behind-bits (front * 2 + c) bs b

pub number_more : (bs : List ℕ) (k : ℕ) → k < length bs
    → number_of_bits 0 (take (suc k) bs) ≡ number_of_bits 0 (take k bs) * 2 + get_or bs k 0
number_more bs k h = rw (take-suc bs k 0 h) (behind-bits 0 (take k bs) (get_or bs k 0))

-- one width more, and the field of a width
behind-widths : (ws : List ℕ) (w : ℕ) → bits_in (ws ++ w ∷ []) ≡ bits_in ws + w
unfolding bits_in
behind-widths [] w = omega arith
behind-widths (v ∷ ws) w = omega (arith, behind-widths ws w)

pub widths-more : (ws : List ℕ) (k : ℕ) → k < length ws → bits_in (take (suc k) ws) ≡ bits_in (take k ws) + get_or ws k 0
widths-more ws k h = rw (take-suc ws k 0 h) (behind-widths (take k ws) (get_or ws k 0))

pub widths-within : (ws : List ℕ) (k : ℕ) → bits_in (take k ws) ≤ bits_in ws
unfolding bits_in
widths-within ws zero = omega arith
widths-within [] (suc k) = omega arith
widths-within (w ∷ ws) (suc k) = omega (arith, widths-within ws k)

pub field-from : (ws bs : List ℕ) (i : ℕ) → i < length ws
    → get_or (fields_from ws bs) i 0 ≡ number_of_bits 0 (take (get_or ws i 0) (drop (bits_in (take i ws)) bs))
unfolding fields_from bits_in
field-from [] bs i h = absurd (omega arith)
field-from (w ∷ ws) bs zero h = refl
field-from (w ∷ ws) bs (suc i) h =
    field-from ws (drop w bs) i (omega arith)
    ∙ ap (λ rest. number_of_bits 0 (take (get_or ws i 0) rest)) (drop-drop (bits_in (take i ws)) w bs)

pub fields-length : (ws bs : List ℕ) → length (fields_from ws bs) ≡ length ws
unfolding fields_from
fields-length [] bs = refl
fields-length (w ∷ ws) bs = ap suc (fields-length ws (drop w bs))
