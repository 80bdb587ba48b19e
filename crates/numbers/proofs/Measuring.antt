-- How many bytes numbers take, group by group and number by number: what is counted and what is left give the length.
use Rattle.std.specs.Prelude.{Ok, Err}
use mathlib.Core.List.{List, [], ◌∷◌, ◌++◌}
use mathlib.Core.Path.{◌≡◌, sym, ap, ◌∙◌}
use Prim.Native.Nat.{ℕ, ◌+◌, ◌-◌, ◌/◌, ◌^◌, ◌<◌, ◌≤◌}
use native.Mathlib.Numerals.{add-one}
use native.Mathlib.Omega.{arith}
use lib.ListN.{length, drop, get_or, length-append, drop_of_length-le}
use lib.Seq.{drop-cons}
use mir.Syntax.{w64}
use mir.Val.{Fits}
use Rattle.rules.specs.declared.Reason.TheVariants.{Room}
use Rattle.rules.specs.Numbers.{bytes_of_number, bytes_of}
use Rattle.rules.specs.Answers.{of_write, of_refusal, write_says}
use Rattle.rules.proofs.Codec.{written_last, written-more, written-few}
use Rattle.numbers.proofs.Room.{room-told, room-refused}

-- of the groups of a number `taken` are counted, and the last of these begins `rest`
pub record Grouping (number rest taken : ℕ) : Type 0 where
  pub fits : rest < 2 ^ 64
  pub leads : taken + length (bytes_of_number rest) ≡ length (bytes_of_number number) + 1

pub grouping-start : (number : ℕ) → number < 2 ^ 64 → Grouping number number 1
grouping-start number h = record { fits = h; leads = omega arith }

module _ (number rest taken : ℕ) (g : Grouping number rest taken) where
  pub grouping-fits : Fits w64 (taken + 1)
  grouping-fits = record { fits = omega (arith, written-few number) }

  pub grouping-more : 128 ≤ rest → Grouping number (rest / 128) (taken + 1)
  grouping-more h =
      record { fits = omega arith; leads = omega (arith, ap length (written-more rest h g.fits)) }

  pub grouping-done : rest < 128 → taken ≡ length (bytes_of_number number)
  grouping-done h = omega (arith, ap length (written_last rest h))

pub ruleset groupings = (grouping-start, grouping-fits, grouping-more, grouping-done)

-- the bytes of the numbers from an index on
module _ (ns : List ℕ) (index : ℕ) where
  pub written_next : index < length ns →
      bytes_of (drop index ns) ≡ bytes_of_number (get_or ns index 0) ++ bytes_of (drop (index + 1) ns)
  unfolding bytes_of
  written_next h = rw (add-one index, drop-cons ns index 0 h)

  pub length-next : index < length ns →
      length (bytes_of (drop index ns)) ≡
      length (bytes_of_number (get_or ns index 0)) + length (bytes_of (drop (index + 1) ns))
  length-next h =
      ap length (written_next h) ∙ length-append (bytes_of_number (get_or ns index 0)) (bytes_of (drop (index + 1) ns))

  pub written-end : length ns ≤ index → bytes_of (drop index ns) ≡ []
  unfolding bytes_of
  written-end h = rw (drop_of_length-le ns h)

-- the bytes of the numbers before `index` are counted
pub record Measuring (ns : List ℕ) (room taken index : ℕ) : Type 0 where
  pub inside : index ≤ length ns
  pub within : taken ≤ room
  pub leads : taken + length (bytes_of (drop index ns)) ≡ length (bytes_of ns)

pub measuring-start : (ns : List ℕ) (room : ℕ) → Measuring ns room 0 0
measuring-start ns room = record { inside = omega arith; within = omega arith; leads = omega arith }

module _ (ns : List ℕ) (room taken index : ℕ) (m : Measuring ns room taken index) where
  abbrev told : List ℕ
  told = 1 ∷ length (bytes_of ns) ∷ []

  module _ (more : ℕ) (h : index < length ns) (e : more ≡ length (bytes_of_number (get_or ns index 0))) where
    pub measuring-more : more ≤ room - taken → Measuring ns room (taken + more) (index + 1)
    measuring-more fit =
        record { inside = omega arith; within = omega arith; leads = omega (arith, length-next ns index h) }

    pub measuring-full : room - taken < more →
        of_write (Err (record { reason = Room; place = 0 })) ≡ write_says ns room
    unfolding of_write of_refusal write_says
    measuring-full full =
        sym (room-refused (length (bytes_of ns)) room told (omega (arith, m.leads, length-next ns index h)))

  pub measuring-done : length ns ≤ index → of_write (Ok taken) ≡ write_says ns room
  unfolding of_write write_says
  measuring-done h =
      let all : taken ≡ length (bytes_of ns) = omega (arith, m.leads, ap length (written-end ns index h)) in
      let fit : length (bytes_of ns) ≤ room = omega arith in
      rw all (sym (room-told (length (bytes_of ns)) room told fit))

pub ruleset measurings = (measuring-start, measuring-more, measuring-full, measuring-done)
