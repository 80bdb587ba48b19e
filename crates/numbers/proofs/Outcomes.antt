-- What the promise of reading means for its callers: a count stands for the numbers that the bytes read as; and where
-- there are slots for all numbers that the bytes may hold, a refusal is the stream's own.
use Rattle.std.specs.Prelude.{Result, Ok, Err}
use mathlib.Core.List.{List, [], ◌∷◌}
use mathlib.Core.Path.{◌≡◌, refl, sym, ap, ◌∙◌}
use Prim.Native.Nat.{ℕ, ◌≤◌}
use native.Mathlib.Omega.{arith}
use lib.ListN.{length, take, drop, length-take}
use lib.Seq.{take_at, drop_at}
use Rattle.rules.specs.declared.Refusal.{Refusal}
use Rattle.rules.specs.Numbers.{Stream, numbers, broken, most_bytes, stream_of}
use Rattle.rules.specs.Answers.{number_of, of_read, of_refusal, read_stream, left_by_stream, read_says, read_leaves}
use Rattle.rules.proofs.Codec.{read_count, read-most}
use Rattle.numbers.specs.Parts.{Roomy}
use Rattle.numbers.specs.Promises.{Reads}
use Rattle.numbers.proofs.Room.{room-told, room-there, filled-there}

pub record Numbered (bytes slots : List ℕ) (count : ℕ) (left : List ℕ) : Type 0 where
  pub ns : List ℕ
  pub reads : stream_of bytes ≡ numbers ns
  pub counts : length ns ≡ count
  pub first : take count left ≡ ns
  pub beyond : drop count left ≡ drop count slots

numbered : (bytes slots : List ℕ) (count : ℕ) (left : List ℕ) (stream : Stream) → stream_of bytes ≡ stream →
    1 ∷ count ∷ [] ≡ read_stream stream (length slots) → left ≡ left_by_stream stream slots →
    Numbered bytes slots count left
unfolding read_stream left_by_stream
numbered bytes slots count left (numbers ns) r e l =
    let there : length ns ≤ length slots = room-there (length ns) (length slots) count (1 ∷ length ns ∷ []) e in
    let same : length ns ≡ count = cc (room-told (length ns) (length slots) (1 ∷ length ns ∷ []) there) in
    record {
      ns = ns;
      reads = r;
      counts = same;
      first = rw (l, filled-there ns slots there) (take_at ns (drop (length ns) slots) count same);
      beyond = rw (l, filled-there ns slots there) (drop_at ns (drop (length ns) slots) count same ∙ rw same);
    }
numbered bytes slots count left (broken number place) r e l = let z : ◌≡◌ {A = ℕ} 0 1 = cc in absurd (omega arith)

pub read-numbered : (bytes slots : List ℕ) (r : Result ℕ Refusal) (left : List ℕ) (count : ℕ) → Reads bytes slots r left →
    r ≡ Ok count → Numbered bytes slots count left
unfolding of_read read_says read_leaves
read-numbered bytes slots r left count p e =
    numbered bytes slots count left (stream_of bytes) refl (ap of_read (sym e) ∙ p.says) p.leaves

-- they lie within the slots
pub numbers-within : (bytes slots : List ℕ) (r : Result ℕ Refusal) (left : List ℕ) (count : ℕ) → Reads bytes slots r left →
    r ≡ Ok count → count ≤ length left
numbers-within bytes slots r left count p e =
    let n : Numbered bytes slots count left = read-numbered bytes slots r left count p e in
    omega (arith, simp length-take at (ap length n.first), n.counts)

-- a slot for each byte is room for all, and so is one for each that a bench file may have
pub roomy-each : (bytes : List ℕ) (lent : ℕ) → length bytes ≤ lent → Roomy bytes lent
roomy-each bytes lent h = record { holds = λ ns r. omega (arith, read_count bytes ns r) }

pub roomy-most : (bytes : List ℕ) (lent : ℕ) → most_bytes ≤ lent → Roomy bytes lent
roomy-most bytes lent h = record { holds = λ ns r. omega (arith, read_count bytes ns r, read-most bytes ns r) }

refused : (bytes slots : List ℕ) (number place : ℕ) (stream : Stream) → stream_of bytes ≡ stream →
    Roomy bytes (length slots) → 0 ∷ number ∷ place ∷ [] ≡ read_stream stream (length slots) → stream ≡ broken number place
unfolding read_stream
refused bytes slots number place (numbers ns) r room e =
    let z : ◌≡◌ {A = ℕ} 0 1 = cc (room-told (length ns) (length slots) (1 ∷ length ns ∷ []) (room.holds ns r)) in
    absurd (omega arith)
refused bytes slots number place (broken n p) r room e = cc

pub read-broken : (bytes slots : List ℕ) (r : Result ℕ Refusal) (left : List ℕ) (refusal : Refusal) →
    Reads bytes slots r left → Roomy bytes (length slots) → r ≡ Err refusal → stream_of bytes ≡ broken (number_of refusal.reason) refusal.place
unfolding of_read of_refusal read_says
read-broken bytes slots r left refusal p room e =
    refused bytes slots (number_of refusal.reason) refusal.place (stream_of bytes) refl room (ap of_read (sym e) ∙ p.says)
