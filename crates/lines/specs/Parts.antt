-- What the lines are put together from, and what putting a part leaves. No promise cites this page.
use Rattle.std.specs.Prelude.{ℕ, ◌+◌, List, [], ◌∷◌, ◌++◌, ◌≡◌, length}
use Rattle.std.proofs.lemmas.List.Edits.{sets}
use Rattle.rules.specs.Answers.{with_room}
use Rattle.rules.specs.Lines.{newline, behind_blanks, between_blanks}

-- the most bytes of a line's word, with a reject's error
abbrev pub most_letters : ℕ
most_letters = 27

-- a word and two numbers; numbers alone
unfoldable pub word_line : List ℕ → ℕ → ℕ → List ℕ
word_line word first second = word ++ behind_blanks (first ∷ second ∷ []) ++ (newline ∷ [])

unfoldable pub store_line : List ℕ → List ℕ
store_line store = between_blanks store ++ (newline ∷ [])

-- so many bytes are wanted and so many lent: what is answered
abbrev pub measured : ℕ → ℕ → List ℕ
measured wanted lent = with_room wanted lent (1 ∷ wanted ∷ [])

-- a text put from a place on, and the place behind it
pub record Stored (text : List ℕ) (place : ℕ) (bytes : List ℕ) (next : ℕ) (left : List ℕ) : Type 0 where
  pub behind : next ≡ place + length text
  pub leaves : left ≡ sets bytes place text
