-- What an answer decides of writing: a length, that there is room for the bytes; a refusal, that they are as found.
use Rattle.std.specs.Prelude.{Result, Ok, Err}
use mathlib.Core.List.{List, [], ◌∷◌}
use mathlib.Core.Path.{◌≡◌, sym, ap, ◌∙◌}
use Prim.Native.Nat.{ℕ, ◌≤◌}
use lib.ListN.{length}
use Rattle.rules.specs.declared.Refusal.{Refusal}
use Rattle.rules.specs.Numbers.{bytes_of}
use Rattle.rules.specs.Answers.{number_of, of_write, of_refusal, write_says, write_leaves}
use Rattle.numbers.specs.Promises.{Writes}
use Rattle.numbers.proofs.Room.{room-there, filled-refused}

module _ (ns bytes : List ℕ) (a : Result ℕ Refusal) (says : of_write a ≡ write_says ns (length bytes)) where
  pub write-room : (taken : ℕ) → a ≡ Ok taken → length (bytes_of ns) ≤ length bytes
  unfolding of_write write_says
  write-room taken e =
      room-there (length (bytes_of ns)) (length bytes) taken (1 ∷ length (bytes_of ns) ∷ []) (ap of_write (sym e) ∙ says)

  pub write-measured : (left : List ℕ) (taken : ℕ) → a ≡ Ok taken → left ≡ write_leaves ns bytes →
      Writes ns bytes (Ok taken) left
  write-measured left taken e l = record { says = ap of_write (sym e) ∙ says; leaves = l }

  pub write-refused : (refusal : Refusal) → a ≡ Err refusal → Writes ns bytes (Err refusal) bytes
  unfolding of_write of_refusal write_says write_leaves
  write-refused refusal e =
      let refused : of_write (Err refusal) ≡ write_says ns (length bytes) = ap of_write (sym e) ∙ says in
      record {
        says = refused;
        leaves =
            filled-refused (bytes_of ns) bytes (number_of refusal.reason) refusal.place (length (bytes_of ns) ∷ []) refused;
      }

pub ruleset writings = (write-room, write-measured, write-refused)
