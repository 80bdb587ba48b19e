-- The result lines (document 01, the section of that name; document 02, E2): the bytes that the marking program prints,
-- in ASCII.
use Rattle.std.specs.Prelude.{true, false, ℕ, zero, suc, ◌+◌, ◌/◌, ◌%◌, List, [], ◌∷◌, ◌++◌, ltb}
use Rattle.rules.specs.declared.Signal.{Signal}
use Rattle.rules.specs.declared.Signal.TheVariants.{Done, Exit, Reject}
use Rattle.rules.specs.Answers.{judged, Outcome, refusal, ended, fills, sticks, file_outcome, working_slots}

abbrev pub blank : ℕ
blank = 32

abbrev pub newline : ℕ
newline = 10

-- `refused`
abbrev pub refused_word : List ℕ
refused_word = 114 ∷ 101 ∷ 102 ∷ 117 ∷ 115 ∷ 101 ∷ 100 ∷ []

-- a number's decimal digits in front of others; twenty are enough for every number below 2^64
unfoldable pub digits_before : ℕ → ℕ → List ℕ → List ℕ
digits_before zero n others = others
digits_before (suc most) n others = elim (ltb n 10) [
  | true ↦ (48 + n) ∷ others
  | false ↦ digits_before most (n / 10) ((48 + n % 10) ∷ others)
]

unfoldable pub decimal : ℕ → List ℕ
decimal n = digits_before 20 n []

-- numbers with a blank in front of each; and with one blank between them
unfoldable pub behind_blanks : List ℕ → List ℕ
behind_blanks [] = []
behind_blanks (n ∷ ns) = blank ∷ decimal n ++ behind_blanks ns

unfoldable pub between_blanks : List ℕ → List ℕ
between_blanks [] = []
between_blanks (n ∷ ns) = decimal n ++ behind_blanks ns

-- `done`; `exit`; `reject` and its error
unfoldable pub word_of : Signal → List ℕ
word_of Done = 100 ∷ 111 ∷ 110 ∷ 101 ∷ []
word_of Exit = 101 ∷ 120 ∷ 105 ∷ 116 ∷ []
word_of (Reject error) = (114 ∷ 101 ∷ 106 ∷ 101 ∷ 99 ∷ 116 ∷ []) ++ behind_blanks (error ∷ [])

unfoldable pub refused_line : ℕ → ℕ → List ℕ
refused_line number place = refused_word ++ behind_blanks (number ∷ place ∷ []) ++ (newline ∷ [])

-- a stuck run prints nothing: no judged file has one
unfoldable pub lines_of : Outcome → List ℕ
lines_of (refusal number place) = refused_line number place
lines_of (ended signal steps ceiling store) =
    word_of signal ++ behind_blanks (steps ∷ ceiling ∷ []) ++ newline ∷ between_blanks store ++ (newline ∷ [])
lines_of fills = refused_line 14 0
lines_of sticks = []

-- what the marking program prints for a bench file
unfoldable pub printed : List ℕ → List ℕ
printed bytes = lines_of (file_outcome working_slots (judged bytes))
