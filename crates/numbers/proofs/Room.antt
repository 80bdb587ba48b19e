-- Room for a list: an answer other than a refusal says that there is room, and a refusal that the slots are as found.
use mathlib.Core.Bool.{Bool, true, false}
use mathlib.Core.List.{List, [], ◌∷◌, ◌++◌}
use mathlib.Core.Path.{◌≡◌, refl, sym, ap, ◌∙◌}
use Prim.Native.Nat.{ℕ, ◌+◌, ◌≤◌, ◌<◌}
use native.Mathlib.Nat.{zero-add}
use native.Mathlib.Omega.{arith}
use lib.Dec.{leb}
use lib.ListN.{length, take, drop, length-append, length-take}
use lib.Seq.{sets, sets-eq, take_at}
use borrow.Author.Tests.{leb-true, leb-false, le-leb, lt-leb}
use Rattle.rules.specs.Answers.{with_room, filled}

pub room-told : (wanted lent : ℕ) (told : List ℕ) → wanted ≤ lent → with_room wanted lent told ≡ told
unfolding with_room
room-told wanted lent told h = rw (with_room, le-leb wanted lent h)

pub room-refused : (wanted lent : ℕ) (told : List ℕ) → lent < wanted → with_room wanted lent told ≡ 0 ∷ 13 ∷ 0 ∷ []
unfolding with_room
room-refused wanted lent told h = rw (with_room, lt-leb wanted lent h)

pub room-there : (wanted lent count : ℕ) (told : List ℕ) → 1 ∷ count ∷ [] ≡ with_room wanted lent told → wanted ≤ lent
room-there wanted lent count told e = go (leb wanted lent) refl
  where
    go : (b : Bool) → leb wanted lent ≡ b → wanted ≤ lent
    go true q = leb-true wanted lent q
    go false q =
        let z : ◌≡◌ {A = ℕ} 0 1 = cc (room-refused wanted lent told (leb-false wanted lent q)) in
        absurd (omega arith)

-- slots with room take a list, as stored from the first slot on
pub filled-there : (ns slots : List ℕ) → length ns ≤ length slots → filled ns slots ≡ ns ++ drop (length ns) slots
unfolding filled
filled-there ns slots h = rw (filled, le-leb (length ns) (length slots) h)

pub filled-stored : (ns slots : List ℕ) → length ns ≤ length slots → sets slots 0 ns ≡ filled ns slots
filled-stored ns slots h =
    let room : 0 + length ns ≤ length slots = omega arith in
    sets-eq ns slots 0 room ∙ rw (zero-add (length ns), filled-there ns slots h)

pub filled-refused : (ns slots : List ℕ) (number place : ℕ) (told : List ℕ) →
    0 ∷ number ∷ place ∷ [] ≡ with_room (length ns) (length slots) (1 ∷ told) → slots ≡ filled ns slots
unfolding filled
filled-refused ns slots number place told e = go (leb (length ns) (length slots)) refl
  where
    go : (b : Bool) → leb (length ns) (length slots) ≡ b → slots ≡ filled ns slots
    go true q =
        let there : length ns ≤ length slots = leb-true (length ns) (length slots) q in
        let z : ◌≡◌ {A = ℕ} 0 1 = cc (room-told (length ns) (length slots) (1 ∷ told) there) in
        absurd (omega arith)
    go false q = sym (rw (filled, q))

-- slots that took a list have it first
pub record First (ns slots : List ℕ) : Type 0 where
  pub within : length ns ≤ length slots
  pub is : take (length ns) slots ≡ ns

pub first_of : (ns slots slots' : List ℕ) → length ns ≤ length slots → slots' ≡ filled ns slots → First ns slots'
first_of ns slots slots' h e =
    let there : slots' ≡ ns ++ drop (length ns) slots = e ∙ filled-there ns slots h in
    record {
      within = omega (arith, ap length there, length-append ns (drop (length ns) slots));
      is = rw there (take_at ns (drop (length ns) slots) (length ns) refl);
    }

-- so many of the first slots
pub part-whole : (count : ℕ) (slots : List ℕ) → count ≤ length slots → count ≡ length (take count slots)
part-whole count slots h = omega (arith, length-take count slots)
