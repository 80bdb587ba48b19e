-- What the parts of reading and writing find and leave. No promise cites this page.
use Rattle.std.specs.Prelude.{ℕ, ◌+◌, ◌<◌, ◌≤◌, List, ◌≡◌, length, drop, Option, None, Some, Result, Ok, Err}
use Rattle.std.proofs.lemmas.List.Edits.{sets}
use Rattle.rules.specs.declared.Reason.{Reason}
use Rattle.rules.specs.Answers.{number_of}
use Rattle.rules.specs.Numbers as rules
use Rattle.rules.specs.Numbers.{more, last, wrong, bytes_of_number}
use Rattle.rules.specs.Numbers.{Stream, numbers, broken, with_first, stream_from, stream_of}
use Rattle.numbers.specs.declared.Group.{Group}
use Rattle.numbers.specs.declared.Group.TheVariants.{More, Last}
use Rattle.numbers.specs.declared.Number.{Number}

-- a byte in its number, in the rules' words
unfoldable pub of_group : Option Group → rules.Group
of_group (Some (More group)) = more group
of_group (Some (Last group)) = last group
of_group None = wrong

-- the stream from a place on where a number begins, by what stands there
unfoldable pub stream_at : List ℕ → ℕ → Result Number Reason → Stream
stream_at bytes place (Ok number) = with_first number.value (stream_from number.next 0 0 (drop number.next bytes))
stream_at bytes place (Err reason) = broken (number_of reason) place

pub record NumberAt (bytes : List ℕ) (place : ℕ) (r : Result Number Reason) : Type 0 where
  pub reads : stream_from place 0 0 (drop place bytes) ≡ stream_at bytes place r
  pub on : (number : Number) → r ≡ Ok number → (place < number.next) × (number.next ≤ length bytes)

-- bytes that read as numbers, for which there is room
pub data Readable (bytes : List ℕ) (room : ℕ) : Type 0 where
  readable : (ns : List ℕ) → stream_of bytes ≡ numbers ns → length ns ≤ room → Readable bytes room

-- slots for all numbers that the bytes may hold
pub record Roomy (bytes : List ℕ) (lent : ℕ) : Type 0 where
  pub holds : (ns : List ℕ) → stream_of bytes ≡ numbers ns → length ns ≤ lent

-- a number stored from a place on, and the place behind it
pub record Stored (number place : ℕ) (bytes : List ℕ) (next : ℕ) (left : List ℕ) : Type 0 where
  pub behind : next ≡ place + length (bytes_of_number number)
  pub leaves : left ≡ sets bytes place (bytes_of_number number)
