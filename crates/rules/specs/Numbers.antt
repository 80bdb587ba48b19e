-- The bench file as numbers (document 01, "The bench file", first paragraph; refusals 1, 2 and 3; places). A number is
-- written in groups of seven bits, the least significant first; each byte but the last has its top bit set.
use Rattle.std.specs.Prelude.{true, false, ◌&&◌, ◌||◌, ℕ, zero, suc, ◌+◌, ◌-◌, ◌*◌, ◌/◌, ◌%◌, ◌^◌, List, [], ◌∷◌, ◌++◌, ltb, leb, eqb, length}

-- the most bytes of a bench file
abbrev pub most_bytes : ℕ
most_bytes = 4096

-- what a stream of bytes reads as: its numbers, or a refusal with its place
pub data Stream : Type 0 where
  numbers : List ℕ → Stream
  broken : ℕ → ℕ → Stream

-- what a byte is in its number: a group with others behind it, the last group, or wrong there
pub data Group : Type 0 where
  more last : ℕ → Group
  wrong : Group

-- a byte below 128 ends its number. It is not 0 where other bytes stand before it: the number had a shorter form
unfoldable pub ends_with : ℕ → ℕ → Group
ends_with before byte = elim (eqb byte 0 && ltb 0 before) [ true ↦ wrong | false ↦ last byte ]

-- the tenth byte holds the one bit that is left of a number below 2^64: it is 1, and ends its number whatever it is
unfoldable pub tenth : ℕ → Group
tenth byte = elim (eqb byte 1) [ true ↦ last 1 | false ↦ wrong ]

-- a byte, behind so many others of its number
unfoldable pub group_of : ℕ → ℕ → Group
group_of before byte = elim (eqb before 9) [
  | true ↦ tenth byte
  | false ↦ elim (leb 128 byte) [ true ↦ more (byte - 128) | false ↦ ends_with before byte ]
]

unfoldable pub with_first : ℕ → Stream → Stream
with_first n (numbers ns) = numbers (n ∷ ns)
with_first n (broken number place) = broken number place

-- the end of the stream, behind so many bytes of a number that begins at `place`
unfoldable pub end_at : ℕ → ℕ → Stream
end_at place zero = numbers []
end_at place (suc before) = broken 2 place

-- the stream from inside a number that begins at `place`: `before` of its bytes are read, and give `value`
unfoldable pub stream_from : ℕ → ℕ → ℕ → List ℕ → Stream
stream_from place before value [] = end_at place before
stream_from place before value (byte ∷ bytes) = elim (group_of before byte) [
  | more group ↦ stream_from place (suc before) (value + group * 128 ^ before) bytes
  | last group ↦ with_first (value + group * 128 ^ before) (stream_from (place + suc before) 0 0 bytes)
  | wrong ↦ broken 3 place
]

-- 1: no bytes, or too many; then 2 and 3, at the first bad number
unfoldable pub stream_of : List ℕ → Stream
stream_of bytes = elim (eqb (length bytes) 0 || ltb most_bytes (length bytes)) [
  | true ↦ broken 1 0
  | false ↦ stream_from 0 0 0 bytes
]

-- writing: so many groups at the most behind the first
unfoldable pub groups_of : ℕ → ℕ → List ℕ
groups_of zero n = n ∷ []
groups_of (suc rest) n = elim (ltb n 128) [ true ↦ n ∷ [] | false ↦ (128 + n % 128) ∷ groups_of rest (n / 128) ]

-- a number below 2^64 takes at most ten bytes
unfoldable pub bytes_of_number : ℕ → List ℕ
bytes_of_number n = groups_of 9 n

unfoldable pub bytes_of : List ℕ → List ℕ
bytes_of [] = []
bytes_of (n ∷ ns) = bytes_of_number n ++ bytes_of ns

-- the byte offset of the number with index i: behind the i-th byte whose top bit is clear, or the stream's length
unfoldable pub place_of : List ℕ → ℕ → ℕ
place_of [] i = 0
place_of (byte ∷ bytes) zero = 0
place_of (byte ∷ bytes) (suc i) = elim (leb 128 byte) [
  | true ↦ suc (place_of bytes (suc i))
  | false ↦ suc (place_of bytes i)
]
