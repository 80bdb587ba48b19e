-- What an answer decides of reading: a count, that the bytes read and fit; a refusal, that the slots are as found.
use Rattle.std.specs.Prelude.{Result, Ok, Err}
use mathlib.Core.List.{List, [], ◌∷◌}
use mathlib.Core.Path.{◌≡◌, refl, sym, ap, ◌∙◌}
use Prim.Native.Nat.{ℕ}
use native.Mathlib.Omega.{arith}
use lib.ListN.{length}
use Rattle.rules.specs.declared.Refusal.{Refusal}
use Rattle.rules.specs.Numbers.{Stream, numbers, broken, stream_of}
use Rattle.rules.specs.Answers.{number_of, of_read, of_refusal, read_stream, left_by_stream, read_says, read_leaves}
use Rattle.numbers.specs.Parts.{Readable, readable}
use Rattle.numbers.specs.Promises.{Reads}
use Rattle.numbers.proofs.Room.{room-there, filled-refused}

stream-readable : (bytes : List ℕ) (room count : ℕ) (stream : Stream) → stream_of bytes ≡ stream →
    1 ∷ count ∷ [] ≡ read_stream stream room → Readable bytes room
unfolding read_stream
stream-readable bytes room count (numbers ns) r e =
    readable ns r (room-there (length ns) room count (1 ∷ length ns ∷ []) e)
stream-readable bytes room count (broken number place) r e = let z : ◌≡◌ {A = ℕ} 0 1 = cc in absurd (omega arith)

stream-refused : (slots : List ℕ) (number place : ℕ) (stream : Stream) →
    0 ∷ number ∷ place ∷ [] ≡ read_stream stream (length slots) → slots ≡ left_by_stream stream slots
unfolding read_stream left_by_stream
stream-refused slots number place (numbers ns) e = filled-refused ns slots number place (length ns ∷ []) e
stream-refused slots number place (broken n p) e = refl

module _ (bytes slots : List ℕ) (a : Result ℕ Refusal) (says : of_read a ≡ read_says bytes (length slots)) where
  pub read-readable : (count : ℕ) → a ≡ Ok count → Readable bytes (length slots)
  unfolding of_read read_says
  read-readable count e = stream-readable bytes (length slots) count (stream_of bytes) refl (ap of_read (sym e) ∙ says)

  pub read-counted : (left : List ℕ) (count : ℕ) → a ≡ Ok count → left ≡ read_leaves bytes slots →
      Reads bytes slots (Ok count) left
  read-counted left count e l = record { says = ap of_read (sym e) ∙ says; leaves = l }

  pub read-refused : (refusal : Refusal) → a ≡ Err refusal → Reads bytes slots (Err refusal) slots
  unfolding of_read of_refusal read_says read_leaves
  read-refused refusal e =
      let refused : of_read (Err refusal) ≡ read_says bytes (length slots) = ap of_read (sym e) ∙ says in
      record {
        says = refused;
        leaves = stream-refused slots (number_of refusal.reason) refusal.place (stream_of bytes) refused;
      }

pub ruleset readings = (read-readable, read-counted, read-refused)
