-- Numbers and bytes: what is written reads back, only what is written reads, and what was read is below 2^64.
use mathlib.Core.Bool.{Bool, true, false, and-false, or-true}
use mathlib.Core.List.{List, [], ◌∷◌, ◌++◌}
use mathlib.Core.Logic.{◌⊎◌, inl, inr, ⊎_elim}
use mathlib.Core.Path.{◌≡◌, refl, sym, ap, ◌∙◌}
use Prim.Native.Nat.{ℕ, zero, suc, ◌+◌, ◌-◌, ◌*◌, ◌/◌, ◌%◌, ◌^◌, ◌<◌, ◌≤◌}
use native.Mathlib.Omega.{arith}
use native.Mathlib.Nat.{pow-suc, add-mul, mul_assoc, mod-add-div, one-le-pow}
use lib.Dec.{ltb, eqb}
use lib.ListN.{length, get_or}
use borrow.Author.Tests.{ltb-true, ltb-false, eqb-true, eqb-false}
use borrow.Author.Tests.{lt-ltb, le-ltb, le-leb, lt-leb, eq-eqb, ne_eqb}
use Rattle.rules.specs.Numbers.{Stream, numbers, broken, most_bytes, with_first, end_at, stream_from, stream_of}
use Rattle.rules.specs.Numbers.{more, last, wrong, ends_with, tenth, group_of, groups_of, bytes_of_number, bytes_of}

-- Cases.

equal_or_not : (n m : ℕ) → (n ≡ m) ⊎ (n ≡ m → ⊥)
equal_or_not n m = go (eqb n m) refl
  where
    go : (b : Bool) → eqb n m ≡ b → (n ≡ m) ⊎ (n ≡ m → ⊥)
    go true e = inl (eqb-true n m e)
    go false e = inr (eqb-false n m e)

pub below_or_not : (n m : ℕ) → (n < m) ⊎ (m ≤ n)
below_or_not n m = go (ltb n m) refl
  where
    go : (b : Bool) → ltb n m ≡ b → (n < m) ⊎ (m ≤ n)
    go true e = inl (ltb-true n m e)
    go false e = inr (ltb-false n m e)

broken-is-none : (number place : ℕ) (ns : List ℕ) → broken number place ≡ numbers ns → ⊥
broken-is-none number place ns e = let z : ◌≡◌ {A = ℕ} 0 1 = cc in omega arith

-- What a byte is, behind so many others of its number.

pub tenth-last : (byte : ℕ) → byte ≡ 1 → tenth byte ≡ last 1
unfolding tenth
tenth-last byte e = rw e

pub tenth-wrong : (byte : ℕ) → (byte ≡ 1 → ⊥) → tenth byte ≡ wrong
unfolding tenth
tenth-wrong byte n = rw (tenth, ne_eqb byte 1 n)

module _ (before byte : ℕ) where
  pub ends-first : before ≡ 0 → ends_with before byte ≡ last byte
  unfolding ends_with
  ends-first e = rw (e, ends_with, and-false (eqb byte 0))

  pub ends_last : (byte ≡ 0 → ⊥) → ends_with before byte ≡ last byte
  unfolding ends_with
  ends_last n = rw (ends_with, ne_eqb byte 0 n)

  pub ends-wrong : byte ≡ 0 → (before ≡ 0 → ⊥) → ends_with before byte ≡ wrong
  unfolding ends_with
  ends-wrong e n = let h : 0 < before = omega arith in rw (e, ends_with, lt-ltb 0 before h)

  pub group-tenth : before ≡ 9 → group_of before byte ≡ tenth byte
  unfolding group_of
  group-tenth e = rw e

  pub group-more : (before ≡ 9 → ⊥) → 128 ≤ byte → group_of before byte ≡ more (byte - 128)
  unfolding group_of
  group-more n h = rw (group_of, ne_eqb before 9 n, le-leb 128 byte h)

  pub group-ends : (before ≡ 9 → ⊥) → byte < 128 → group_of before byte ≡ ends_with before byte
  unfolding group_of
  group-ends n h = rw (group_of, ne_eqb before 9 n, lt-leb 128 byte h)

  -- the last byte of a number: a tenth one is 1, and 0 stands alone
  pub record Lasts : Type 0 where
    pub small : byte < 128
    pub one : before ≡ 9 → byte ≡ 1
    pub alone : byte ≡ 0 → before ≡ 0

  more-is : (group : ℕ) → (before ≡ 9 → ⊥) → byte ≡ 128 + group → group_of before byte ≡ more group
  more-is group n e = group-more n (omega arith) ∙ ap more (omega arith)

  last-is : Lasts → group_of before byte ≡ last byte
  last-is l =
      ⊎_elim (λ nine. group-tenth nine ∙ tenth-last byte (l.one nine) ∙ ap last (sym (l.one nine)))
      (λ n.
      group-ends n l.small
      ∙ ⊎_elim (λ zero. ends-first (l.alone zero)) (λ some. ends_last some) (equal_or_not byte 0))
      (equal_or_not before 9)

  pub data ByteIs : Type 0 where
    is-more : (group : ℕ) → group_of before byte ≡ more group → (before ≡ 9 → ⊥) → byte ≡ 128 + group → ByteIs
    is_last : group_of before byte ≡ last byte → Lasts → ByteIs
    is-wrong : group_of before byte ≡ wrong → ByteIs

  the_last : Lasts → ByteIs
  the_last l = is_last (last-is l) l

  the-tenth : before ≡ 9 → ByteIs
  the-tenth nine =
      ⊎_elim
      (λ one. the_last (record { small = omega arith; one = λ _. one; alone = λ zero. omega arith }))
      (λ other. is-wrong (group-tenth nine ∙ tenth-wrong byte other))
      (equal_or_not byte 1)

  the_end : (before ≡ 9 → ⊥) → byte < 128 → ByteIs
  the_end n h =
      ⊎_elim
      (λ zero.
      ⊎_elim
      (λ first. the_last (record { small = h; one = λ nine. absurd (n nine); alone = λ _. first }))
      (λ later. is-wrong (group-ends n h ∙ ends-wrong zero later))
      (equal_or_not before 0))
      (λ some. the_last (record { small = h; one = λ nine. absurd (n nine); alone = λ zero. absurd (some zero) }))
      (equal_or_not byte 0)

  pub byte-is : ByteIs
  byte-is =
      ⊎_elim the-tenth
      (λ n. ⊎_elim (the_end n) (λ h. is-more (byte - 128) (group-more n h) n (omega arith)) (below_or_not byte 128))
      (equal_or_not before 9)

-- The stream, by what its next byte is.

module _ (place before value byte : ℕ) (bytes : List ℕ) where
  pub stream-more : (group : ℕ) → group_of before byte ≡ more group →
      stream_from place before value (byte ∷ bytes) ≡ stream_from place (suc before) (value + group * 128 ^ before) bytes
  unfolding stream_from
  stream-more group e = rw (stream_from, e)

  pub stream-last : (group : ℕ) → group_of before byte ≡ last group →
      stream_from place before value (byte ∷ bytes) ≡
      with_first (value + group * 128 ^ before) (stream_from (place + suc before) 0 0 bytes)
  unfolding stream_from
  stream-last group e = rw (stream_from, e)

  pub stream-wrong : group_of before byte ≡ wrong → stream_from place before value (byte ∷ bytes) ≡ broken 3 place
  unfolding stream_from
  stream-wrong e = rw (stream_from, e)

-- its length is settled first
module _ (bytes : List ℕ) where
  pub stream-empty : length bytes ≡ 0 → stream_of bytes ≡ broken 1 0
  unfolding stream_of
  stream-empty e = rw (stream_of, eq-eqb (length bytes) 0 e)

  pub stream-long : most_bytes < length bytes → stream_of bytes ≡ broken 1 0
  unfolding stream_of
  stream-long h = rw (stream_of, lt-ltb most_bytes (length bytes) h, or-true (eqb (length bytes) 0))

  pub stream-sized : (length bytes ≡ 0 → ⊥) → length bytes ≤ most_bytes → stream_of bytes ≡ stream_from 0 0 0 bytes
  unfolding stream_of
  stream-sized n h = rw (stream_of, ne_eqb (length bytes) 0 n, le-ltb most_bytes (length bytes) h)

  module _ (ns : List ℕ) (r : stream_of bytes ≡ numbers ns) where
    stream-some : length bytes ≡ 0 → ⊥
    stream-some none = broken-is-none 1 0 ns (sym (stream-empty none) ∙ r)

    stream-most : length bytes ≤ most_bytes
    stream-most =
        ⊎_elim (λ long. absurd (broken-is-none 1 0 ns (sym (stream-long long) ∙ r))) (λ most. most)
        (below_or_not most_bytes (length bytes))

    pub stream-reads : stream_from 0 0 0 bytes ≡ numbers ns
    stream-reads = sym (stream-sized stream-some stream-most) ∙ r

-- The groups of a number: n below 2 * 128^k takes at most k behind the first, and more room changes nothing.

shorter : (k n : ℕ) → n < 2 * 128 ^ suc k → n / 128 < 2 * 128 ^ k
shorter k n h = omega (arith, pow-suc 128 k)

groups-last : (k n : ℕ) → n < 128 → groups_of k n ≡ n ∷ []
unfolding groups_of
groups-last zero n h = refl
groups-last (suc k) n h = rw (groups_of, lt-ltb n 128 h)

groups-more : (k n : ℕ) → 128 ≤ n → groups_of (suc k) n ≡ (128 + n % 128) ∷ groups_of k (n / 128)
unfolding groups_of
groups-more k n h = rw (groups_of, le-ltb n 128 h)

more_room : (k n : ℕ) → n < 2 * 128 ^ k → groups_of (suc k) n ≡ groups_of k n
more_room zero n h = groups-last 1 n (omega arith) ∙ sym (groups-last 0 n (omega arith))
more_room (suc k) n h =
    ⊎_elim (λ one. groups-last (suc (suc k)) n one ∙ sym (groups-last (suc k) n one))
    (λ some. rw (groups-more (suc k) n some, groups-more k n some, more_room k (n / 128) (shorter k n h)))
    (below_or_not n 128)

groups-few : (k n : ℕ) → length (groups_of k n) ≤ suc k
unfolding groups_of
groups-few zero n = omega arith
groups-few (suc k) n =
    ⊎_elim (λ one. rw (groups-last (suc k) n one) (omega arith))
    (λ some. rw (groups-more k n some) (omega (arith, groups-few k (n / 128))))
    (below_or_not n 128)

pub written_last : (n : ℕ) → n < 128 → bytes_of_number n ≡ n ∷ []
unfolding bytes_of_number
written_last n h = groups-last 9 n h

pub written-more : (n : ℕ) → 128 ≤ n → n < 2 ^ 64 → bytes_of_number n ≡ (128 + n % 128) ∷ bytes_of_number (n / 128)
unfolding bytes_of_number
written-more n h fits = rw (groups-more 8 n h, more_room 8 (n / 128) (omega arith))

pub written-few : (n : ℕ) → length (bytes_of_number n) ≤ 10
unfolding bytes_of_number
written-few n = groups-few 9 n

-- the lowest group, and the others with a weight 128 times as large
weighed : (group others weight : ℕ) → group * weight + others * (weight * 128) ≡ (group + 128 * others) * weight
weighed group others weight =
    omega
    (arith, add-mul group (128 * others) weight, mul_assoc 128 others weight, mul_assoc others weight 128)

regrouped : (value group others before : ℕ) →
    value + group * 128 ^ before + others * 128 ^ suc before ≡ value + (group + 128 * others) * 128 ^ before
regrouped value group others before = rw pow-suc (omega (arith, weighed group others (128 ^ before)))

-- What is written of a number reads as it, from inside it too.

abbrev Reads : (k before place value n : ℕ) → List ℕ → Type 0
Reads k before place value n rest =
    stream_from place before value (groups_of k n ++ rest) ≡
    with_first (value + n * 128 ^ before) (stream_from (place + before + length (groups_of k n)) 0 0 rest)

last-reads : (k before place value n : ℕ) (rest : List ℕ) → Lasts before n → Reads k before place value n rest
last-reads k before place value n rest l =
    let at : place + suc before ≡ place + before + 1 = omega arith in
    rw (groups-last k n l.small) (stream-last place before value n rest n (last-is before n l) ∙ rw at)

more-reads : (k before place value n : ℕ) (rest : List ℕ) → (before ≡ 9 → ⊥) → 128 ≤ n →
    Reads k (suc before) place (value + n % 128 * 128 ^ before) (n / 128) rest → Reads (suc k) before place value n rest
more-reads k before place value n rest not-tenth h reads =
    let groups : ℕ = length (groups_of k (n / 128)) in
    let at : place + suc before + groups ≡ place + before + suc groups = omega arith in
    rw (groups-more k n h)
    (stream-more place before value (128 + n % 128) (groups_of k (n / 128) ++ rest) (n % 128)
    (more-is before (128 + n % 128) (n % 128) not-tenth refl)
    ∙ reads
    ∙ rw (regrouped value (n % 128) (n / 128) before, mod-add-div n 128, at))

lasts-tenth : (before n : ℕ) → n < 2 → (n ≡ 0 → before ≡ 0) → Lasts before n
lasts-tenth before zero h alone =
    record { small = omega arith; one = λ nine. omega (arith, alone refl); alone = alone }
lasts-tenth before (suc n) h alone = record { small = omega arith; one = λ nine. omega arith; alone = alone }

number-reads : (k before place value n : ℕ) (rest : List ℕ) →
    before + k ≡ 9 → n < 2 * 128 ^ k → (n ≡ 0 → before ≡ 0) → Reads k before place value n rest
number-reads zero before place value n rest room h alone =
    last-reads 0 before place value n rest (lasts-tenth before n h alone)
number-reads (suc k) before place value n rest room h alone =
    let not-tenth : before ≡ 9 → ⊥ = λ nine. omega arith in
    ⊎_elim
    (λ small.
    last-reads (suc k) before place value n rest
    (record { small = small; one = λ nine. absurd (not-tenth nine); alone = alone }))
    (λ large.
    let room' : suc before + k ≡ 9 = omega arith in
    more-reads k before place value n rest not-tenth large
    (number-reads k (suc before) place (value + n % 128 * 128 ^ before) (n / 128) rest room' (shorter k n h)
    (λ none. absurd (omega arith))))
    (below_or_not n 128)

-- Lists of numbers below a bound.

abbrev pub Below : ℕ → List ℕ → Type 0
Below bound ns = (i : ℕ) → get_or ns i 0 < bound

below-nil : (bound : ℕ) → 0 < bound → Below bound []
below-nil bound h i = h

below-cons : (bound n : ℕ) (ns : List ℕ) → n < bound → Below bound ns → Below bound (n ∷ ns)
below-cons bound n ns h t zero = h
below-cons bound n ns h t (suc i) = t i

below-append : (bound : ℕ) (ms ns : List ℕ) → Below bound ms → Below bound ns → Below bound (ms ++ ns)
below-append bound [] ns hm hn = hn
below-append bound (m ∷ ms) ns hm hn =
    below-cons bound m (ms ++ ns) (hm 0) (below-append bound ms ns (λ i. hm (suc i)) hn)

groups-below : (k n : ℕ) → n < 2 * 128 ^ k → Below 256 (groups_of k n)
groups-below zero n h =
    rw (groups-last 0 n (omega arith)) (below-cons 256 n [] (omega arith) (below-nil 256 (omega arith)))
groups-below (suc k) n h =
    ⊎_elim
    (λ small. rw (groups-last (suc k) n small) (below-cons 256 n [] (omega arith) (below-nil 256 (omega arith))))
    (λ large.
    rw (groups-more k n large)
    (below-cons 256 (128 + n % 128) (groups_of k (n / 128)) (omega arith)
    (groups-below k (n / 128) (shorter k n h))))
    (below_or_not n 128)

-- A list that is written reads as itself.

numbers-read : (place : ℕ) (ns : List ℕ) → Below (2 ^ 64) ns → stream_from place 0 0 (bytes_of ns) ≡ numbers ns
unfolding stream_from end_at with_first bytes_of bytes_of_number
numbers-read place [] h = refl
numbers-read place (n ∷ ns) h =
    let v : 0 + n * 128 ^ 0 ≡ n = omega arith in
    number-reads 9 0 place 0 n (bytes_of ns) refl (h 0) (λ _. refl)
    ∙ rw (numbers-read (place + 0 + length (groups_of 9 n)) ns (λ i. h (suc i)), v)

-- Bytes that read as numbers are those that are written of them.

-- a stream of numbers with a first one
pub data First (first : ℕ) (stream : Stream) (ns : List ℕ) : Type 0 where
  first-is : (rest : List ℕ) → stream ≡ numbers rest → ns ≡ first ∷ rest → First first stream ns

pub first_of : (first : ℕ) (stream : Stream) (ns : List ℕ) → with_first first stream ≡ numbers ns → First first stream ns
unfolding with_first
first_of first (numbers rest) ns e = first-is rest refl (cc)
first_of first (broken number place) ns e = absurd (broken-is-none number place ns e)

-- from inside a number that has room for k more groups
data Form (before k value : ℕ) (bytes ns : List ℕ) : Type 0 where
  ended : before ≡ 0 → bytes ≡ [] → ns ≡ [] → Form before k value bytes ns
  formed : (n : ℕ) (rest : List ℕ) → n < 2 * 128 ^ k → (n ≡ 0 → before ≡ 0) →
      ns ≡ (value + n * 128 ^ before) ∷ rest → bytes ≡ groups_of k n ++ bytes_of rest → Below (2 ^ 64) rest →
      Form before k value bytes ns

-- from the beginning of one
record Written (bytes ns : List ℕ) : Type 0 where
  form : bytes ≡ bytes_of ns
  fits : Below (2 ^ 64) ns

written_of : (bytes ns : List ℕ) → Form 0 9 0 bytes ns → Written bytes ns
unfolding bytes_of bytes_of_number
written_of bytes ns (ended z b e) =
    record { form = rw (b, e); fits = rw e (below-nil (2 ^ 64) (omega arith)) }
written_of bytes ns (formed n rest h alone e b fits) =
    let v : ns ≡ n ∷ rest = e ∙ ap (λ (m : ℕ). m ∷ rest) (omega arith) in
    record { form = rw v b; fits = rw v (below-cons (2 ^ 64) n rest h fits) }

form-more : (before k value byte group : ℕ) (bytes ns : List ℕ) → byte < 256 → byte ≡ 128 + group →
    Form (suc before) k (value + group * 128 ^ before) bytes ns → Form before (suc k) value (byte ∷ bytes) ns
form-more before k value byte group bytes ns h e (ended z b n) = absurd (omega arith)
form-more before k value byte group bytes ns h e (formed n rest below alone v b fits) =
    let some : n ≡ 0 → ⊥ = λ z. let q : suc before ≡ 0 = alone z in omega arith in
    let low : (group + 128 * n) % 128 ≡ group = omega arith in
    let high : (group + 128 * n) / 128 ≡ n = omega arith in
    formed (group + 128 * n) rest (omega (arith, pow-suc 128 k)) (λ z. omega arith)
    (v ∙ ap (λ (m : ℕ). m ∷ rest) (regrouped value group n before))
    (rw (groups-more k (group + 128 * n) (omega arith), low, high, e, b))
    fits

form-last : (before k value byte : ℕ) (bytes rest : List ℕ) → before + k ≡ 9 → Lasts before byte →
    Written bytes rest → Form before k value (byte ∷ bytes) ((value + byte * 128 ^ before) ∷ rest)
form-last before k value byte bytes rest room l w =
    formed byte rest (below k room) l.alone refl (rw (groups-last k byte l.small, w.form)) w.fits
  where
    below : (k : ℕ) → before + k ≡ 9 → byte < 2 * 128 ^ k
    below zero e = omega (arith, l.one (omega arith))
    below (suc k) e = omega (arith, l.small, pow-suc 128 k, one-le-pow k 128 (omega arith))

abbrev Formed : List ℕ → Type 0
Formed bytes = (place before k value : ℕ) (ns : List ℕ) → before + k ≡ 9 → Below 256 bytes →
    stream_from place before value bytes ≡ numbers ns → Form before k value bytes ns

form-next : (byte : ℕ) (bytes : List ℕ) → Formed bytes → Formed (byte ∷ bytes)
form-next byte bytes ih place before k value ns room h r = go k room (byte-is before byte)
  where
    after : (k : ℕ) → before + k ≡ 9 → Lasts before byte →
        First (value + byte * 128 ^ before) (stream_from (place + suc before) 0 0 bytes) ns →
        Form before k value (byte ∷ bytes) ns
    after k e l (first-is rest s v) =
        rw v
        (form-last before k value byte bytes rest e l
        (written_of bytes rest (ih (place + suc before) 0 9 0 rest refl (λ i. h (suc i)) s)))

    go : (k : ℕ) → before + k ≡ 9 → ByteIs before byte → Form before k value (byte ∷ bytes) ns
    go zero e (is-more group g n b) = absurd (n (omega arith))
    go (suc k) e (is-more group g n b) =
        form-more before k value byte group bytes ns (h 0) b
        (ih place (suc before) k (value + group * 128 ^ before) ns (omega arith) (λ i. h (suc i))
        (sym (stream-more place before value byte bytes group g) ∙ r))
    go k e (is_last g l) =
        after k e l
        (first_of (value + byte * 128 ^ before) (stream_from (place + suc before) 0 0 bytes) ns
        (sym (stream-last place before value byte bytes byte g) ∙ r))
    go k e (is-wrong g) =
        absurd (broken-is-none 3 place ns (sym (stream-wrong place before value byte bytes g) ∙ r))

form-of : (bytes : List ℕ) → Formed bytes
unfolding stream_from end_at
form-of [] place zero k value ns room h r = ended refl refl (cc)
form-of [] place (suc before) k value ns room h r = absurd (broken-is-none 2 place ns r)
form-of (byte ∷ bytes) place before k value ns room h r =
    form-next byte bytes (form-of bytes) place before k value ns room h r

read-written : (bytes ns : List ℕ) → Below 256 bytes → stream_of bytes ≡ numbers ns → Written bytes ns
read-written bytes ns h r = written_of bytes ns (form-of bytes 0 0 9 0 ns refl h (stream-reads bytes ns r))

-- How many numbers are read.

abbrev Counted : List ℕ → Type 0
Counted bytes = (place before value : ℕ) (ns : List ℕ) →
    stream_from place before value bytes ≡ numbers ns → length ns ≤ length bytes

count_next : (byte : ℕ) (bytes : List ℕ) → Counted bytes → Counted (byte ∷ bytes)
count_next byte bytes ih place before value ns r = go (byte-is before byte)
  where
    after : First (value + byte * 128 ^ before) (stream_from (place + suc before) 0 0 bytes) ns →
        length ns ≤ suc (length bytes)
    after (first-is rest s v) = rw v (omega (arith, ih (place + suc before) 0 0 rest s))

    go : ByteIs before byte → length ns ≤ suc (length bytes)
    go (is-more group g n b) =
        omega (
          arith,
          ih place (suc before) (value + group * 128 ^ before) ns
              (sym (stream-more place before value byte bytes group g) ∙ r),
        )
    go (is_last g l) =
        after
        (first_of (value + byte * 128 ^ before) (stream_from (place + suc before) 0 0 bytes) ns
        (sym (stream-last place before value byte bytes byte g) ∙ r))
    go (is-wrong g) = absurd (broken-is-none 3 place ns (sym (stream-wrong place before value byte bytes g) ∙ r))

count_of : (bytes : List ℕ) → Counted bytes
unfolding stream_from end_at
count_of [] place zero value ns r = let e : ns ≡ [] = cc in rw e (omega arith)
count_of [] place (suc before) value ns r = absurd (broken-is-none 2 place ns r)
count_of (byte ∷ bytes) place before value ns r = count_next byte bytes (count_of bytes) place before value ns r

-- The theorems.

-- what is written reads back, where the bytes count 1 to 4,096
pub read-write : (ns : List ℕ) → Below (2 ^ 64) ns → 0 < length (bytes_of ns) → length (bytes_of ns) ≤ most_bytes →
    stream_of (bytes_of ns) ≡ numbers ns
read-write ns h some most = stream-sized (bytes_of ns) (λ none. omega arith) most ∙ numbers-read 0 ns h

-- bytes that read as numbers are those that are written of them
pub write_read : (bytes ns : List ℕ) → Below 256 bytes → stream_of bytes ≡ numbers ns → bytes ≡ bytes_of ns
write_read bytes ns h r = (read-written bytes ns h r).form

-- so a list of numbers has one form
pub write-one-form : (x y ns : List ℕ) → Below 256 x → Below 256 y →
    stream_of x ≡ numbers ns → stream_of y ≡ numbers ns → x ≡ y
write-one-form x y ns hx hy rx ry = write_read x ns hx rx ∙ sym (write_read y ns hy ry)

-- what is written is bytes
pub write-below : (ns : List ℕ) → Below (2 ^ 64) ns → Below 256 (bytes_of ns)
unfolding bytes_of bytes_of_number
write-below [] h = below-nil 256 (omega arith)
write-below (n ∷ ns) h =
    below-append 256 (groups_of 9 n) (bytes_of ns) (groups-below 9 n (h 0)) (write-below ns (λ i. h (suc i)))

-- what is read is below 2^64
pub read_below : (bytes ns : List ℕ) → Below 256 bytes → stream_of bytes ≡ numbers ns → Below (2 ^ 64) ns
read_below bytes ns h r = (read-written bytes ns h r).fits

-- the bytes count 1 to 4,096, and there are at most as many numbers
pub read_some : (bytes ns : List ℕ) → stream_of bytes ≡ numbers ns → 0 < length bytes
read_some bytes ns r = omega (arith, stream-some bytes ns r)

pub read-most : (bytes ns : List ℕ) → stream_of bytes ≡ numbers ns → length bytes ≤ most_bytes
read-most bytes ns r = stream-most bytes ns r

pub read_count : (bytes ns : List ℕ) → stream_of bytes ≡ numbers ns → length ns ≤ length bytes
read_count bytes ns r = count_of bytes 0 0 0 ns (stream-reads bytes ns r)
