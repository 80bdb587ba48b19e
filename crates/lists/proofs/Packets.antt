-- The packet: bytes one after the other, the list of them, and nothing behind it.
use mathlib.Core.Bool.{Bool, true, false}
use mathlib.Core.Path.{◌≡◌, refl, sym, ◌∙◌}
use mathlib.Core.List.{List}
use Prim.Native.Nat.{ℕ, zero, suc, ◌+◌, ◌-◌, ◌≤◌, ◌<◌}
use native.Mathlib.Omega.{arith}
use native.Mathlib.Nat.{sub-zero}
use native.Mathlib.Numerals.{add-one, sub-one}
use lib.ListN.{length, get_or, drop, drop_of_length-le}
use lib.Seq.{drop-cons}
use borrow.Author.Tests.{le-leb, lt-leb}
use Rattle.rules.specs.Words.{fits_width}
use Rattle.rules.specs.Syntax.{Program}
use Rattle.rules.specs.Reading.{Reader, and_then, ◌>>=◌, pure, meaning, within, repeat, has_parser}
use Rattle.rules.specs.Lists.{most_packet, passing, is_byte, read_bytes, read_packet, nothing_left}
use Rattle.rules.proofs.Readers.{looked-in, looked-out}
use Rattle.shape.specs.Scans.{Scan, Past, Fault}
use Rattle.shape.specs.Scans.{forget, scan_of}
use Rattle.program.specs.Stands.{Holds}
use Rattle.lists.specs.Listing.{read_last}
use Rattle.lists.specs.Parts.{Lacks, JudgesPacket, JudgesLast}
use Rattle.lists.proofs.Places.{Passing, placed-passing, PacketAt, placed-packet}
use Rattle.lists.proofs.Steps.{Read, past-read, then-fault, alike-made}

abbrev byte : Reader ℕ
byte = passing 16 is_byte

-- so many bytes, of which some are still to be read from an index on
pub record BytesLeft (nums : List ℕ) (count at done next : ℕ) : Type 0 where
  pub same : scan_of (repeat count byte) nums at ≡ scan_of (repeat (count - done) byte) nums next

pub bytes-begin : (nums : List ℕ) (count at : ℕ) → BytesLeft nums count at 0 at
bytes-begin nums count at = record { same = rw sub-zero refl }

module _ (nums : List ℕ) (count at done next : ℕ) (b : BytesLeft nums count at done next) where
  module _ (m : done < count) (a : Scan) (q : a ≡ scan_of (passing 16 (fits_width 8)) nums next) where
    byte-scan : a ≡ scan_of byte nums next
    unfolding is_byte fits_width
    byte-scan = q

    more : count - done ≡ 0 → ⊥
    more e = omega (arith, e)

    pub bytes-again : (end : ℕ) → a ≡ Past end → BytesLeft nums count at (done + 1) end
    unfolding repeat pure scan_of ◌>>=◌ and_then
    bytes-again end p =
        let e : count - done - 1 ≡ count - (done + 1) = omega arith in
        record { same = b.same ∙ rw e at (go (count - done) more) }
      where
        d : Read (Passing is_byte) byte nums next end
        d = past-read nums next end a (placed-passing 16 is_byte) byte-scan p

        go : (n : ℕ) → (n ≡ 0 → ⊥) → scan_of (repeat n byte) nums next ≡ scan_of (repeat (n - 1) byte) nums end
        go zero x = absurd (x refl)
        go (suc n) x = rw (sub-one (suc n), d.gave) (sym ((alike-made (repeat n byte) _).alike (drop end nums) end))

    pub bytes-fault : (f i : ℕ) → a ≡ Fault f i → Fault f i ≡ scan_of (repeat count byte) nums at
    unfolding repeat
    bytes-fault f i p = go (count - done) more ∙ sym b.same
      where
        go : (n : ℕ) → (n ≡ 0 → ⊥) → Fault f i ≡ scan_of (repeat n byte) nums next
        go zero x = absurd (x refl)
        go (suc n) x = then-fault byte _ nums next f i a byte-scan p

  pub bytes-done : count ≤ done → Past next ≡ scan_of (repeat count byte) nums at
  unfolding repeat pure scan_of forget
  bytes-done m = let e : count - done ≡ 0 = omega arith in rw (b.same, e)

pub ruleset bytes = (bytes-begin, bytes-again, bytes-fault, bytes-done)

-- the list of them, its count first
module _ (nums : List ℕ) (at : ℕ) where
  pub packet-is : (count : ℕ) (r : Scan) → Holds nums at count → count ≤ 512
      → r ≡ scan_of (repeat count byte) nums (at + 1) → r ≡ scan_of read_bytes nums at
  unfolding read_bytes scan_of ◌>>=◌ and_then meaning within
  packet-is count r h m q = rw (
    looked-in 16 (within 0 most_packet) nums at h.inside,
    within,
    le-leb 0 (get_or nums at 0) (omega arith),
    le-leb (get_or nums at 0) 512 (rw h.is m),
    ← add-one at,
  ) (rw h.is q)

  pub packet-high : (count : ℕ) → Holds nums at count → 512 < count → Fault 16 at ≡ scan_of read_bytes nums at
  unfolding read_bytes scan_of forget ◌>>=◌ and_then meaning within
  packet-high count h m = rw (
    looked-in 16 (within 0 most_packet) nums at h.inside,
    h.is,
    within,
    le-leb 0 count (omega arith),
    lt-leb count 512 m,
  )

  pub packet-missing : (n i : ℕ) → Lacks nums 16 at n i → Fault n i ≡ scan_of read_bytes nums at
  unfolding read_bytes scan_of forget ◌>>=◌ and_then
  packet-missing n i h = rw (h.number_is, h.index_is, looked-out 16 (within 0 most_packet) nums at h.beyond)

  -- where the version has one
  module _ (b : Bool) (e : b ≡ has_parser (get_or nums 0 0)) where
    parser-is : (P : Program) → Holds nums 0 P.version → has_parser P.version ≡ b
    parser-is P v = rw (← v.is) (sym e)

    pub packet-read : (r : Scan) → b ≡ true → r ≡ scan_of read_bytes nums at → JudgesPacket nums at r
    unfolding read_packet
    packet-read r t q = record { judged = λ P v. rw (read_packet, parser-is P v, t) q }

    pub packet-none : b ≡ false → JudgesPacket nums at (Past at)
    unfolding read_packet scan_of forget pure
    packet-none t = record { judged = λ P v. rw (read_packet, parser-is P v, t) }

  -- nothing behind it
  module _ (a : Scan) (j : JudgesPacket nums at a) where
    pub last-fault : (f i : ℕ) → a ≡ Fault f i → JudgesLast nums at (Fault f i)
    unfolding read_last
    last-fault f i p = record { judged = λ P v. then-fault (read_packet P) _ nums at f i a (j.judged P v) p }

    module _ (n : ℕ) (p : a ≡ Past n) where
      packet-of : (P : Program) → Holds nums 0 P.version → Read (PacketAt P) (read_packet P) nums at n
      packet-of P v = past-read nums at n a (placed-packet P) (j.judged P v) p

      pub last-left : n < length nums → JudgesLast nums at (Fault 12 n)
      unfolding read_last nothing_left scan_of forget ◌>>=◌ and_then
      last-left l = record { judged = λ P v. rw ((packet-of P v).gave, drop-cons nums n 0 l) }

      pub last_none : length nums ≤ n → JudgesLast nums at (Past n)
      unfolding read_last nothing_left scan_of forget pure ◌>>=◌ and_then
      last_none l = record { judged = λ P v. rw ((packet-of P v).gave, drop_of_length-le nums l) }

pub ruleset packets = (packet-is, packet-high, packet-missing, packet-read, packet-none, last-fault, last-left, last_none)
