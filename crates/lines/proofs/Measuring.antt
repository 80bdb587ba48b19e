-- How many bytes the lines take: what is counted and what is left give the length, and no sum passes the room.
use Rattle.std.specs.Prelude.{Result, Ok, Err}
use mathlib.Core.List.{List, [], ◌∷◌}
use mathlib.Core.Path.{◌≡◌, refl, sym, ap}
use Prim.Native.Nat.{ℕ, ◌+◌, ◌-◌, ◌<◌, ◌≤◌}
use native.Mathlib.Omega.{arith}
use lib.ListN.{length, drop, get_or}
use mir.Syntax.{w64}
use mir.Val.{Fits}
use Rattle.rules.specs.declared.Signal.{Signal}
use Rattle.rules.specs.declared.Signal.TheVariants.{Done, Exit, Reject}
use Rattle.rules.specs.declared.Reason.TheVariants.{Room}
use Rattle.rules.specs.declared.Refusal.{Refusal}
use Rattle.rules.specs.Answers.{of_write, of_refusal}
use Rattle.rules.specs.Lines.{decimal, behind_blanks, word_of}
use Rattle.numbers.proofs.Room.{room-told, room-refused}
use Rattle.lines.specs.Parts.{store_line, measured}
use Rattle.lines.proofs.Decimals.{decimal-few}
use Rattle.lines.proofs.Texts.{length_two, length-behind, behind-end, store-one, store-least, store-some, done-letters, exit-letters, reject-letters}

-- an answer that tells a length, and one that refuses
pub measured-length : (wanted lent n : ℕ) → n ≡ wanted → wanted ≤ lent → of_write (Ok n) ≡ measured wanted lent
unfolding of_write
measured-length wanted lent n e h = rw e (sym (room-told wanted lent (1 ∷ wanted ∷ []) h))

abbrev pub too_few : Result ℕ Refusal
too_few = Err (record { reason = Room; place = 0 })

pub measured-short : (wanted lent : ℕ) → lent < wanted → of_write too_few ≡ measured wanted lent
unfolding of_write of_refusal
measured-short wanted lent h = sym (room-refused wanted lent (1 ∷ wanted ∷ []) h)

-- a word and two numbers
module _ (letters first second a b : ℕ) (few : letters ≤ 27) (e : a ≡ length (decimal first)) where
  pub line-sum : Fits w64 (letters + a)
  line-sum = record { fits = omega (arith, decimal-few first) }

  module _ (f : b ≡ length (decimal second)) where
    pub line-sum-2 : Fits w64 (letters + a + b)
    line-sum-2 = record { fits = omega (arith, decimal-few first, decimal-few second) }

    pub line-sum-3 : Fits w64 (letters + a + b + 3)
    line-sum-3 = record { fits = omega (arith, decimal-few first, decimal-few second) }

    pub line-measured : letters + a + b + 3 ≡ letters + length (behind_blanks (first ∷ second ∷ [])) + 1
    line-measured = omega (arith, length_two first second)

-- the word of a signal
module _ (signal : Signal) where
  pub word-few : length (word_of signal) ≤ 27
  word-few = go signal refl
    where
      go : (s : Signal) → signal ≡ s → length (word_of signal) ≤ 27
      go Done e = omega (arith, done-letters signal e)
      go Exit e = omega (arith, exit-letters signal e)
      go (Reject error) e = omega (arith, reject-letters signal error e, decimal-few error)

  module _ (error n : ℕ) (e : signal ≡ Reject error) (q : n ≡ length (decimal error)) where
    pub reject-sum : Fits w64 (7 + n)
    reject-sum = record { fits = omega (arith, decimal-few error) }

    pub reject-measured : 7 + n ≡ length (word_of signal)
    reject-measured = omega (arith, reject-letters signal error e)

pub ruleset wording = (done-letters, exit-letters, reject-sum, reject-measured)

pub ruleset line = (line-sum, line-sum-2, line-sum-3, line-measured)

-- the numbers of a store, with a byte more for each: those before `index` are counted
pub record Measuring (ns : List ℕ) (line room taken index : ℕ) : Type 0 where
  pub inside : index ≤ length ns
  pub within : taken ≤ room
  pub leads : taken + length (behind_blanks (drop index ns)) ≡ line + length (behind_blanks ns)

pub measuring-start : (ns : List ℕ) (line room : ℕ) → line ≤ room → Measuring ns line room line 0
measuring-start ns line room h = record { inside = omega arith; within = h; leads = omega arith }

module _ (ns : List ℕ) (line room taken index : ℕ) (m : Measuring ns line room taken index) where
  module _ (count : ℕ) (h : index < length ns) (e : count ≡ length (decimal (get_or ns index 0))) where
    pub measuring-fits : Fits w64 (1 + count)
    measuring-fits = record { fits = omega (arith, decimal-few (get_or ns index 0)) }

    pub measuring-more : 1 + count ≤ room - taken → Measuring ns line room (taken + (1 + count)) (index + 1)
    measuring-more fit =
        record { inside = omega arith; within = omega arith; leads = omega (arith, length-behind ns index h) }

    pub measuring-full : room - taken < 1 + count → of_write too_few ≡ measured (line + length (behind_blanks ns)) room
    measuring-full full =
        measured-short (line + length (behind_blanks ns)) room (omega (arith, m.leads, length-behind ns index h))

  pub measuring-done : length ns ≤ index → of_write (Ok taken) ≡ measured (line + length (behind_blanks ns)) room
  measuring-done h =
      let all : taken ≡ line + length (behind_blanks ns) = omega (arith, m.leads, ap length (behind-end ns index h)) in
      measured-length (line + length (behind_blanks ns)) room taken all (omega arith)

pub ruleset measurings = (measuring-start, measuring-fits, measuring-more, measuring-full, measuring-done)

-- both lines
module _ (ns : List ℕ) (line room : ℕ) where
  abbrev all : ℕ
  all = line + length (store_line ns)

  pub lines-short : room ≤ line → of_write too_few ≡ measured (line + length (store_line ns)) room
  lines-short h = measured-short all room (omega (arith, store-least ns))

  pub lines-empty : line < room → length ns ≡ 0 →
      of_write (Ok (line + 1)) ≡ measured (line + length (store_line ns)) room
  lines-empty h e =
      measured-length all room (line + 1) (omega (arith, store-one ns e)) (omega (arith, store-one ns e))

  pub lines-numbers : (r : Result ℕ Refusal) → (length ns ≡ 0 → ⊥) →
      of_write r ≡ measured (line + length (behind_blanks ns)) room →
      of_write r ≡ measured (line + length (store_line ns)) room
  lines-numbers r some e = rw (store-some ns some) e

pub ruleset both = (lines-short, lines-empty, lines-numbers)
