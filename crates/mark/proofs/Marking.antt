-- What is put into bytes that suffice for every file.
use Rattle.std.specs.Prelude.{Result, Ok}
use Rattle.std.specs.Result.{result_unwrap_or}
use mathlib.Core.Path.{◌≡◌, ◌∙◌}
use mathlib.Core.List.{List, [], ◌∷◌}
use Prim.Native.Nat.{ℕ, ◌≤◌}
use native.Mathlib.Omega.{arith}
use lib.ListN.{length}
use Rattle.rules.specs.declared.Refusal.{Refusal}
use Rattle.rules.specs.Answers.{of_write}
use Rattle.rules.specs.Lines.{printed}
use Rattle.rules.proofs.Same.{write_same}
use Rattle.numbers.proofs.Room.{room-told, First, first_of, part-whole}
use Rattle.lines.specs.Promises.{Prints}
use Rattle.mark.specs.Marks.{most_printed, Marks}
use Rattle.mark.proofs.Most.{printed-most}

module _ (file lent left : List ℕ) (r : Result ℕ Refusal) (room : most_printed ≤ length lent)
    (p : Prints (printed file) lent r left) where
  fits : length (printed file) ≤ length lent
  fits = omega (arith, printed-most file, room)

  length-is : r ≡ Ok (length (printed file))
  unfolding of_write
  length-is = write_same r (Ok (length (printed file)))
      (p.says ∙ room-told (length (printed file)) (length lent) (1 ∷ length (printed file) ∷ []) fits)

  first : First (printed file) left
  first = first_of (printed file) lent left fits p.leaves

  pub marked : (count : ℕ) → count ≡ result_unwrap_or r 0 → Marks file count left
  marked count m =
      let same : count ≡ length (printed file) = rw length-is at m in
      rw same (record { within = first.within; are = first.is })

pub marks-within : (file bytes : List ℕ) (count : ℕ) → Marks file count bytes → count ≤ length bytes
marks-within file bytes count m = m.within

pub ruleset parts = (marks-within, part-whole)
