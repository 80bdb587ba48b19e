-- What the lines are made of, part by part, and how long they are.
use mathlib.Core.List.{List, [], ◌∷◌, ◌++◌, append_assoc, append-nil}
use mathlib.Core.Path.{◌≡◌, refl, ap, ◌∙◌}
use Prim.Native.Nat.{ℕ, ◌+◌, ◌<◌, ◌≤◌}
use native.Mathlib.Numerals.{add-one}
use native.Mathlib.Omega.{arith}
use lib.ListN.{length, drop, get_or, length-append, drop_of_length-le}
use lib.Seq.{drop-cons}
use Rattle.rules.specs.declared.Signal.{Signal}
use Rattle.rules.specs.declared.Signal.TheVariants.{Done, Exit, Reject}
use Rattle.rules.specs.Answers.{ended}
use Rattle.rules.specs.Lines.{blank, newline, decimal, behind_blanks, between_blanks, word_of, refused_word, refused_line, lines_of}
use Rattle.lines.specs.Parts.{word_line, store_line}

-- numbers behind blanks, from an index on
module _ (ns : List ℕ) (index : ℕ) where
  pub behind-next : index < length ns →
      behind_blanks (drop index ns) ≡ (blank ∷ decimal (get_or ns index 0)) ++ behind_blanks (drop (index + 1) ns)
  unfolding behind_blanks
  behind-next h = rw (add-one index, drop-cons ns index 0 h)

  pub behind-end : length ns ≤ index → behind_blanks (drop index ns) ≡ []
  unfolding behind_blanks
  behind-end h = rw (drop_of_length-le ns h)

  pub length-behind : index < length ns →
      length (behind_blanks (drop index ns))
      ≡ 1 + length (decimal (get_or ns index 0)) + length (behind_blanks (drop (index + 1) ns))
  length-behind h =
      ap length (behind-next h)
      ∙ length-append (blank ∷ decimal (get_or ns index 0)) (behind_blanks (drop (index + 1) ns))
      ∙ omega arith

-- numbers with blanks between them
pub between_none : (ns : List ℕ) → length ns ≡ 0 → between_blanks ns ≡ []
unfolding between_blanks
between_none [] e = refl
between_none (n ∷ ns) e = absurd (omega arith)

pub between-some : (ns : List ℕ) → (length ns ≡ 0 → ⊥) →
    between_blanks ns ≡ decimal (get_or ns 0 0) ++ behind_blanks (drop 1 ns)
unfolding between_blanks
between-some [] n = absurd (n refl)
between-some (n ∷ ns) h = refl

-- the second line takes a byte more for each number, and at least one
module _ (ns : List ℕ) where
  pub length-store : length (store_line ns) ≡ length (between_blanks ns) + 1
  unfolding store_line
  length-store = length-append (between_blanks ns) (newline ∷ [])

  pub store-one : length ns ≡ 0 → length (store_line ns) ≡ 1
  store-one e = omega (arith, length-store, ap length (between_none ns e))

  pub store-least : 1 ≤ length (store_line ns)
  store-least = omega (arith, length-store)

  pub store-some : (length ns ≡ 0 → ⊥) → length (store_line ns) ≡ length (behind_blanks ns)
  store-some n =
      omega (
        arith,
        length-store,
        ap length (between-some ns n),
        length-behind ns 0 (omega arith),
        length-append (decimal (get_or ns 0 0)) (behind_blanks (drop 1 ns)),
      )

-- two numbers, and a word before them
pub behind-two : (first second : ℕ) →
    behind_blanks (first ∷ second ∷ []) ≡ (blank ∷ decimal first) ++ (blank ∷ decimal second)
unfolding behind_blanks
behind-two first second = rw (append-nil (decimal second))

pub length_two : (first second : ℕ) →
    length (behind_blanks (first ∷ second ∷ [])) ≡ length (decimal first) + length (decimal second) + 2
length_two first second =
    ap length (behind-two first second)
    ∙ length-append (blank ∷ decimal first) (blank ∷ decimal second)
    ∙ omega arith

pub length-word : (word : List ℕ) (first second : ℕ) → length (word_line word first second)
    ≡ length word + length (behind_blanks (first ∷ second ∷ [])) + 1
unfolding word_line
length-word word first second = simp length-append (omega arith)

-- all of a refusal, and of a run that ended
pub refused-text : (number place : ℕ) → refused_line number place ≡ word_line refused_word number place
unfolding refused_line word_line
refused-text number place = refl

module _ (signal : Signal) (steps ceiling : ℕ) (store : List ℕ) where
  pub ended-text : lines_of (ended signal steps ceiling store)
      ≡ word_line (word_of signal) steps ceiling ++ store_line store
  unfolding lines_of word_line store_line
  ended-text = simp append_assoc

-- the word of a signal
abbrev pub reject_word : List ℕ
reject_word = 114 ∷ 101 ∷ 106 ∷ 101 ∷ 99 ∷ 116 ∷ []

module _ (signal : Signal) where
  pub done-word : signal ≡ Done → word_of signal ≡ 100 ∷ 111 ∷ 110 ∷ 101 ∷ []
  unfolding word_of
  done-word e = rw e

  pub exit-word : signal ≡ Exit → word_of signal ≡ 101 ∷ 120 ∷ 105 ∷ 116 ∷ []
  unfolding word_of
  exit-word e = rw e

  module _ (error : ℕ) (e : signal ≡ Reject error) where
    pub reject-word : word_of signal ≡ reject_word ++ (blank ∷ decimal error)
    unfolding word_of behind_blanks
    reject-word = rw (e, append-nil (decimal error))

    pub reject-letters : length (word_of signal) ≡ 7 + length (decimal error)
    reject-letters = ap length reject-word ∙ omega arith

  pub done-letters : signal ≡ Done → 4 ≡ length (word_of signal)
  done-letters e = rw (done-word e)

  pub exit-letters : signal ≡ Exit → 4 ≡ length (word_of signal)
  exit-letters e = rw (exit-word e)
