-- What was put into lent bytes lies within them: numbers that were written, and result lines.
use Rattle.std.specs.Prelude.{Result, Ok}
use mathlib.Core.List.{List, [], ◌∷◌}
use mathlib.Core.Path.{◌≡◌, sym, ap, ◌∙◌}
use Prim.Native.Nat.{ℕ, ◌≤◌}
use native.Mathlib.Omega.{arith}
use lib.ListN.{length}
use Rattle.rules.specs.declared.Refusal.{Refusal}
use Rattle.rules.specs.Numbers.{bytes_of}
use Rattle.rules.specs.Answers.{with_room, filled, of_write, write_says, write_leaves}
use Rattle.numbers.specs.Promises.{Writes}
use Rattle.numbers.proofs.Room.{room-told, room-there, First, first_of}
use Rattle.lines.specs.Promises.{Prints}

put-within : (all bytes : List ℕ) (r : Result ℕ Refusal) (left : List ℕ) (taken : ℕ) →
    of_write r ≡ with_room (length all) (length bytes) (1 ∷ length all ∷ []) → left ≡ filled all bytes →
    r ≡ Ok taken → taken ≤ length left
unfolding of_write
put-within all bytes r left taken s l e =
    let told : List ℕ = 1 ∷ length all ∷ [] in
    let says : 1 ∷ taken ∷ [] ≡ with_room (length all) (length bytes) told = ap of_write (sym e) ∙ s in
    let there : length all ≤ length bytes = room-there (length all) (length bytes) taken told says in
    let same : taken ≡ length all = cc (room-told (length all) (length bytes) told there) in
    let first : First all left = first_of all bytes left there l in
    omega (arith, same, first.within)

pub bytes-within : (ns bytes : List ℕ) (r : Result ℕ Refusal) (left : List ℕ) (taken : ℕ) → Writes ns bytes r left →
    r ≡ Ok taken → taken ≤ length left
unfolding write_says write_leaves
bytes-within ns bytes r left taken p e = put-within (bytes_of ns) bytes r left taken p.says p.leaves e

pub lines-within : (text bytes : List ℕ) (r : Result ℕ Refusal) (left : List ℕ) (taken : ℕ) → Prints text bytes r left →
    r ≡ Ok taken → taken ≤ length left
lines-within text bytes r left taken p e = put-within text bytes r left taken p.says p.leaves e
