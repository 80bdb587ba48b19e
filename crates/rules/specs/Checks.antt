-- Bench checks (document 01, the section of that name): one table, one claim, proved by computation. A row is a
-- bench file with what it gives. `paper` rows are the document's. `ours` tell the mistakes apart that it warns of,
-- show refusals 13 and 14, and hold one sentence of the rules each.
use Rattle.std.specs.Prelude.{◌≡◌, refl, ℕ, zero, suc, ◌+◌, List, [], ◌∷◌, ◌++◌, length, replicate}
use Rattle.rules.specs.Numbers.{bytes_of}
use Rattle.rules.specs.declared.Signal.{Signal}
use Rattle.rules.specs.Lists.{Cell, slots_of}
use Rattle.rules.specs.Running.{Seen, Out, done, stuck, full, run_program}
use Rattle.rules.specs.Answers.{Judged, accepted, refused, judged, working_slots, Outcome, file_outcome, run_with, told_by_run, results_after, working_after, cleared, filled, numbers_of, marked, unjudged}
use Rattle.rules.specs.Lines.{word_of, digits_before, decimal, behind_blanks, between_blanks, refused_line, lines_of, printed}

-- the stores that the steps of a run saw, one behind the other
unfoldable pub numbers_seen : Seen → List ℕ
numbers_seen [] = []
numbers_seen (store ∷ later) = slots_of store ++ numbers_seen later

unfoldable pub seen_in : Out (List Cell) Signal → List ℕ
seen_in (done signal store seen) = numbers_seen seen
seen_in stuck = []
seen_in full = []

unfoldable pub seen_by : Judged → List ℕ
seen_by (accepted bench) =
    seen_in (run_program working_slots bench.program bench.entries bench.store bench.packet)
seen_by (refused number place) = []

pub data Origin : Type 0 where
  paper ours : Origin

-- what is looked at: bytes; numbers, written as bytes; the same unjudged; its lines; what its steps see; with another
-- capacity; with slots lent
pub data Given : Type 0 where
  bytes bench program lines steps : List ℕ → Given
  within : ℕ → List ℕ → Given
  lending : ℕ → List ℕ → List ℕ → List ℕ → Given

-- an answer, then the result slots, then the working slots
unfoldable pub answer_and_slots : ℕ → Outcome → List ℕ → List ℕ → List ℕ
answer_and_slots capacity outcome results working =
    told_by_run outcome ++ results_after outcome results ++ working_after capacity outcome working

unfoldable pub gives : Given → List ℕ
gives (bytes s) = marked s
gives (bench ns) = marked (bytes_of ns)
gives (program ns) = unjudged (bytes_of ns)
gives (lines ns) = printed (bytes_of ns)
gives (steps ns) = seen_by (judged (bytes_of ns))
gives (within capacity ns) = numbers_of (file_outcome capacity (judged (bytes_of ns)))
gives (lending capacity ns results working) =
    answer_and_slots capacity (run_with capacity (length results) (length working) (judged (bytes_of ns))) results working

-- a row holds the proof that it is right
pub data Row : Type 0 where
  row : Origin → (given : Given) (wanted : List ℕ) → gives given ≡ wanted → Row

-- the document's example up to its store; and with a parameter of 5 bits for 4
abbrev example : List ℕ
example = 1 ∷ 1 ∷ 2 ∷ 4 ∷ 4 ∷ 1 ∷ 128 ∷ 1 ∷ 0 ∷ 1 ∷ 0 ∷ 4 ∷ 0 ∷ 1 ∷ 5 ∷ 0
    ∷ 1 ∷ 3 ∷ 0 ∷ 1 ∷ 1 ∷ 0 ∷ 5 ∷ 0 ∷ 0 ∷ 1 ∷ 0 ∷ 0 ∷ 1 ∷ 0 ∷ 5 ∷ 0 ∷ 1 ∷ 0 ∷ 6 ∷ 0 ∷ 9 ∷ []

abbrev example5 : List ℕ
example5 = 1 ∷ 1 ∷ 2 ∷ 4 ∷ 4 ∷ 1 ∷ 128 ∷ 1 ∷ 0 ∷ 1 ∷ 0 ∷ 5 ∷ 0 ∷ 1 ∷ 5 ∷ 0
    ∷ 1 ∷ 3 ∷ 0 ∷ 1 ∷ 1 ∷ 0 ∷ 5 ∷ 0 ∷ 0 ∷ 1 ∷ 0 ∷ 0 ∷ 1 ∷ 0 ∷ 5 ∷ 0 ∷ 1 ∷ 0 ∷ 6 ∷ 0 ∷ 9 ∷ []

-- a statement inside so many blocks of one member
abbrev blocks : ℕ → List ℕ → List ℕ
blocks zero s = s
blocks (suc n) s = 3 ∷ 1 ∷ blocks n s

abbrev many : ℕ → List ℕ → List ℕ
many zero s = []
many (suc n) s = s ++ many n s

-- four actions and an if whose dearer branch, with so many empty statements, is not taken
abbrev dear : ℕ → List ℕ
dear n = 1 ∷ 0 ∷ 0 ∷ 4 ∷ 0 ∷ 0 ∷ 0 ∷ 3 ∷ 27 ∷ many 27 (0 ∷ []) ++ 0 ∷ 0 ∷ 0 ∷ 3 ∷ 16 ∷ many 16 (4 ∷ 0 ∷ 0 ∷ [])
    ++ 0 ∷ 0 ∷ 0 ∷ 3 ∷ 11 ∷ many 11 (4 ∷ 1 ∷ 0 ∷ []) ++ 0 ∷ 0 ∷ 0 ∷ 3 ∷ 13 ∷ many 13 (4 ∷ 2 ∷ 0 ∷ [])
    ++ 0 ∷ 2 ∷ 0 ∷ 0 ∷ 3 ∷ (15 + n) ∷ many 15 (4 ∷ 3 ∷ 0 ∷ []) ++ many n (0 ∷ []) ++ (0 ∷ 0 ∷ [])

-- one global of a width, which starts at 0 and is given the value of an expression
abbrev gets : ℕ → List ℕ → List ℕ
gets width e = 1 ∷ 0 ∷ 1 ∷ width ∷ 0 ∷ 0 ∷ 1 ∷ 4 ∷ 0 ∷ e ++ (0 ∷ 0 ∷ [])

-- an action with one inout parameter of 8 bits and this body is called with global 0
abbrev inout_into : List ℕ → List ℕ
inout_into body = 1 ∷ 0 ∷ 1 ∷ 8 ∷ 1 ∷ 0 ∷ 1 ∷ 3 ∷ 8 ∷ 0 ∷ body ++ (0 ∷ 4 ∷ 0 ∷ 1 ∷ 4 ∷ 0 ∷ 0 ∷ 0 ∷ [])

abbrev global_then_parameter : List ℕ
global_then_parameter = inout_into (3 ∷ 2 ∷ 1 ∷ 4 ∷ 0 ∷ 1 ∷ 8 ∷ 1 ∷ 1 ∷ 3 ∷ 0 ∷ 1 ∷ 8 ∷ 2 ∷ [])

abbrev parameter_then_global : List ℕ
parameter_then_global = inout_into (3 ∷ 2 ∷ 1 ∷ 3 ∷ 0 ∷ 1 ∷ 8 ∷ 2 ∷ 1 ∷ 4 ∷ 0 ∷ 1 ∷ 8 ∷ 1 ∷ [])

pub checks : List Row
unfolding marked unjudged numbers_seen seen_in seen_by gives answer_and_slots told_by_run results_after working_after cleared filled run_with word_of digits_before decimal behind_blanks between_blanks refused_line lines_of printed
checks =
    -- the example of 41 bytes, with other ends, and with a parameter that is too wide
    row paper (bench (example ++ (1 ∷ 6 ∷ 2 ∷ []))) (1 ∷ 4 ∷ 4 ∷ 1 ∷ 6 ∷ 9 ∷ []) refl
    ∷ row paper (bench (example ++ (1 ∷ 7 ∷ 2 ∷ []))) (1 ∷ 4 ∷ 4 ∷ 1 ∷ 7 ∷ 0 ∷ []) refl
    ∷ row paper (bench (example ++ (0 ∷ 0 ∷ 0 ∷ []))) (1 ∷ 4 ∷ 4 ∷ 0 ∷ 0 ∷ 0 ∷ []) refl
    ∷ row paper (bench (example ++ (0 ∷ 6 ∷ 2 ∷ []))) (0 ∷ 11 ∷ 39 ∷ []) refl
    ∷ row paper (bench (example5 ++ (1 ∷ 6 ∷ 2 ∷ []))) (0 ∷ 7 ∷ 14 ∷ []) refl
    -- stuck: its assignment; a sum of 4 and 5 bits, cast to 4; an if on bits; a function whose body is empty
    ∷ row paper (program (example5 ++ (1 ∷ 6 ∷ 2 ∷ []))) (3 ∷ []) refl
    ∷ row paper (program (gets 4 (10 ∷ 4 ∷ 9 ∷ 0 ∷ 1 ∷ 4 ∷ 1 ∷ 1 ∷ 5 ∷ 1 ∷ []))) (3 ∷ []) refl
    ∷ row paper (program (1 ∷ 0 ∷ 0 ∷ 0 ∷ 0 ∷ 2 ∷ 1 ∷ 4 ∷ 1 ∷ 0 ∷ 0 ∷ 0 ∷ [])) (3 ∷ []) refl
    ∷ row paper (program (1 ∷ 0 ∷ 0 ∷ 1 ∷ 1 ∷ 8 ∷ 0 ∷ 0 ∷ 0 ∷ 0 ∷ 4 ∷ 0 ∷ 0 ∷ 0 ∷ [])) (3 ∷ []) refl
    -- the shortest file; one that ends too early; none; a number that does not end; one that is written too long
    ∷ row paper (bytes (1 ∷ 0 ∷ 0 ∷ 0 ∷ 0 ∷ 0 ∷ 0 ∷ [])) (1 ∷ 1 ∷ 1 ∷ []) refl
    ∷ row paper (bytes (1 ∷ [])) (0 ∷ 4 ∷ 1 ∷ []) refl
    ∷ row paper (bytes []) (0 ∷ 1 ∷ 0 ∷ []) refl
    ∷ row paper (bytes (0x80 ∷ [])) (0 ∷ 2 ∷ 0 ∷ []) refl
    ∷ row paper (bytes (0x80 ∷ 0x00 ∷ [])) (0 ∷ 3 ∷ 0 ∷ []) refl
    -- 8 bits: 255 + 1, 200 × 2, 1 shifted left by 8; 64 bits: 0 − 1
    ∷ row paper (bench (gets 8 (9 ∷ 0 ∷ 1 ∷ 8 ∷ 255 ∷ 1 ∷ 8 ∷ 1 ∷ []))) (1 ∷ 4 ∷ 4 ∷ 0 ∷ []) refl
    ∷ row paper (bench (gets 8 (9 ∷ 2 ∷ 1 ∷ 8 ∷ 200 ∷ 1 ∷ 8 ∷ 2 ∷ []))) (1 ∷ 4 ∷ 4 ∷ 144 ∷ []) refl
    ∷ row paper (bench (gets 8 (9 ∷ 6 ∷ 1 ∷ 8 ∷ 1 ∷ 1 ∷ 8 ∷ 8 ∷ []))) (1 ∷ 4 ∷ 4 ∷ 0 ∷ []) refl
    ∷ row paper (bench (gets 64 (9 ∷ 1 ∷ 1 ∷ 64 ∷ 0 ∷ 1 ∷ 64 ∷ 1 ∷ []))) (1 ∷ 4 ∷ 4 ∷ 18446744073709551615 ∷ []) refl
    -- bits 7 to 4 of 165; 10 joined to 5
    ∷ row paper (bench (gets 4 (11 ∷ 7 ∷ 4 ∷ 1 ∷ 8 ∷ 165 ∷ []))) (1 ∷ 3 ∷ 3 ∷ 10 ∷ []) refl
    ∷ row paper (bench (gets 8 (12 ∷ 1 ∷ 4 ∷ 10 ∷ 1 ∷ 4 ∷ 5 ∷ []))) (1 ∷ 4 ∷ 4 ∷ 165 ∷ []) refl
    -- the global, then the inout parameter; the parameter, then the global, which a write through at once would
    -- leave at 1
    ∷ row paper (bench global_then_parameter) (1 ∷ 7 ∷ 7 ∷ 2 ∷ []) refl
    ∷ row ours (bench parameter_then_global) (1 ∷ 7 ∷ 7 ∷ 2 ∷ []) refl
    -- each step sees the store as its construct begins: call, argument, block, assign, literal, assign, literal
    ∷ row ours (steps global_then_parameter) (0 ∷ 0 ∷ 0 ∷ 0 ∷ 0 ∷ 1 ∷ 1 ∷ []) refl
    -- out parameters 1 and 2 on one place: the last is written last
    ∷ row ours (bench (1 ∷ 0 ∷ 1 ∷ 8 ∷ 1 ∷ 0 ∷ 2 ∷ 2 ∷ 8 ∷ 2 ∷ 8 ∷ 0 ∷ 3 ∷ 2 ∷ 1 ∷ 3 ∷ 0 ∷ 1 ∷ 8 ∷ 1 ∷ 1 ∷ 3 ∷ 1
    ∷ 1 ∷ 8 ∷ 2 ∷ 0 ∷ 4 ∷ 0 ∷ 2 ∷ 4 ∷ 0 ∷ 4 ∷ 0 ∷ 0 ∷ 0 ∷ []))
    (1 ∷ 8 ∷ 8 ∷ 2 ∷ []) refl
    -- prefixes of 2 and 3 bits match 100: the longer is taken, though it is the later
    ∷ row ours (bench (1 ∷ 0 ∷ 2 ∷ 8 ∷ 8 ∷ 1 ∷ 0 ∷ 1 ∷ 0 ∷ 8 ∷ 0 ∷ 1 ∷ 4 ∷ 1 ∷ 3 ∷ 0 ∷ 1 ∷ 1 ∷ 1 ∷ 4 ∷ 0 ∷ 1 ∷ 0
    ∷ 0 ∷ 1 ∷ 0 ∷ 5 ∷ 0
    ∷ 2 ∷ 0 ∷ 64 ∷ 2 ∷ 0 ∷ 1 ∷ 0 ∷ 96 ∷ 3 ∷ 0 ∷ 2 ∷ 100 ∷ 0 ∷ []))
    (1 ∷ 4 ∷ 4 ∷ 100 ∷ 2 ∷ []) refl
    -- a header that is set invalid has only zeros, and so when it is set valid again
    ∷ row ours (bench (1 ∷ 1 ∷ 1 ∷ 8 ∷ 1 ∷ 128 ∷ 0 ∷ 0 ∷ 10 ∷ 0 ∷ 0 ∷ 1 ∷ 7 ∷ [])) (1 ∷ 1 ∷ 1 ∷ 0 ∷ 0 ∷ []) refl
    ∷ row ours (bench (1 ∷ 1 ∷ 1 ∷ 8 ∷ 1 ∷ 128 ∷ 0 ∷ 0 ∷ 3 ∷ 2 ∷ 10 ∷ 0 ∷ 9 ∷ 0 ∷ 0 ∷ 1 ∷ 7 ∷ []))
    (1 ∷ 3 ∷ 3 ∷ 1 ∷ 0 ∷ []) refl
    -- the store and one parameter take two slots: full with one
    ∷ row ours (within 2 global_then_parameter) (1 ∷ 7 ∷ 7 ∷ 2 ∷ []) refl
    ∷ row ours (within 1 global_then_parameter) (0 ∷ 14 ∷ 0 ∷ []) refl
    -- slots lent: a finished run fills the results and zeroes the working slots; 13, for short working slots and
    -- for short results, leaves both; 14 zeroes the working slots
    ∷ row ours (lending 2 global_then_parameter (9 ∷ 9 ∷ []) (5 ∷ 6 ∷ 7 ∷ []))
    (1 ∷ 7 ∷ 7 ∷ 1 ∷ 2 ∷ 9 ∷ 0 ∷ 0 ∷ 7 ∷ []) refl
    ∷ row ours (lending 3 global_then_parameter (9 ∷ 9 ∷ []) (5 ∷ 6 ∷ [])) (0 ∷ 13 ∷ 0 ∷ 9 ∷ 9 ∷ 5 ∷ 6 ∷ []) refl
    ∷ row ours (lending 2 global_then_parameter [] (5 ∷ 6 ∷ 7 ∷ [])) (0 ∷ 13 ∷ 0 ∷ 5 ∷ 6 ∷ 7 ∷ []) refl
    ∷ row ours (lending 1 global_then_parameter (9 ∷ 9 ∷ []) (5 ∷ 6 ∷ [])) (0 ∷ 14 ∷ 0 ∷ 9 ∷ 9 ∷ 0 ∷ 6 ∷ []) refl
    -- printed: `done 4 4`, then `1 6 9`; `done 1 1`, then an empty line
    ∷ row paper (lines (example ++ (1 ∷ 6 ∷ 2 ∷ [])))
    (100 ∷ 111 ∷ 110 ∷ 101 ∷ 32 ∷ 52 ∷ 32 ∷ 52 ∷ 10 ∷ 49 ∷ 32 ∷ 54 ∷ 32 ∷ 57 ∷ 10 ∷ []) refl
    ∷ row paper (lines (1 ∷ 0 ∷ 0 ∷ 0 ∷ 0 ∷ 0 ∷ 0 ∷ [])) (100 ∷ 111 ∷ 110 ∷ 101 ∷ 32 ∷ 49 ∷ 32 ∷ 49 ∷ 10 ∷ 10 ∷ []) refl
    -- exit leaves a call inside a call: nothing is written back
    ∷ row ours (bench (1 ∷ 0 ∷ 1 ∷ 8 ∷ 2 ∷ 0 ∷ 1 ∷ 3 ∷ 8 ∷ 0 ∷ 3 ∷ 2 ∷ 1 ∷ 3 ∷ 0 ∷ 1 ∷ 8 ∷ 5 ∷ 8 ∷ 0 ∷ 1 ∷ 3 ∷ 8
    ∷ 0 ∷ 3 ∷ 2 ∷ 1 ∷ 3 ∷ 0 ∷ 1 ∷ 8 ∷ 4 ∷ 4 ∷ 0 ∷ 1 ∷ 3 ∷ 0 ∷ 0 ∷ 4 ∷ 1 ∷ 1 ∷ 4 ∷ 0 ∷ 0 ∷ 1 ∷ []))
    (2 ∷ 11 ∷ 11 ∷ 1 ∷ []) refl
    -- return ends a table action, not the apply body
    ∷ row ours (bench (1 ∷ 0 ∷ 2 ∷ 8 ∷ 8 ∷ 2 ∷ 0 ∷ 1 ∷ 0 ∷ 8 ∷ 0 ∷ 1 ∷ 4 ∷ 1 ∷ 3 ∷ 0 ∷ 0 ∷ 0 ∷ 0 ∷ 7 ∷ 1 ∷ 1 ∷ 2
    ∷ 4 ∷ 0 ∷ 2 ∷ 0 ∷ 1 ∷ 0 ∷ 1 ∷ 99 ∷ 3 ∷ 2 ∷ 5 ∷ 0 ∷ 1 ∷ 4 ∷ 0 ∷ 1 ∷ 8 ∷ 3 ∷ 1 ∷ 0 ∷ 77 ∷ 255 ∷ 1 ∷ 77 ∷ 0
    ∷ [])) (1 ∷ 6 ∷ 7 ∷ 3 ∷ 0 ∷ []) refl
    -- an out parameter starts at 0, and its argument is a step
    ∷ row ours (bench (1 ∷ 0 ∷ 1 ∷ 8 ∷ 1 ∷ 0 ∷ 1 ∷ 2 ∷ 8 ∷ 0 ∷ 0 ∷ 0 ∷ 4 ∷ 0 ∷ 1 ∷ 4 ∷ 0 ∷ 0 ∷ 9 ∷ []))
    (1 ∷ 3 ∷ 3 ∷ 0 ∷ []) refl
    -- set valid on a valid header
    ∷ row ours (bench (1 ∷ 1 ∷ 1 ∷ 8 ∷ 1 ∷ 128 ∷ 0 ∷ 0 ∷ 9 ∷ 0 ∷ 0 ∷ 1 ∷ 5 ∷ [])) (1 ∷ 1 ∷ 1 ∷ 1 ∷ 5 ∷ []) refl
    -- equal prefixes: the earliest
    ∷ row ours (bench (1 ∷ 0 ∷ 2 ∷ 8 ∷ 8 ∷ 2 ∷ 0 ∷ 1 ∷ 0 ∷ 8 ∷ 0 ∷ 1 ∷ 4 ∷ 1 ∷ 3 ∷ 0 ∷ 0 ∷ 0 ∷ 0 ∷ 7 ∷ 1 ∷ 1 ∷ 1
    ∷ 4 ∷ 0 ∷ 2 ∷ 0 ∷ 1 ∷ 0 ∷ 1 ∷ 99 ∷ 5 ∷ 0 ∷ 2 ∷ 0 ∷ 76 ∷ 7 ∷ 0 ∷ 5 ∷ 0 ∷ 76 ∷ 7 ∷ 0 ∷ 6 ∷ 77 ∷ 0 ∷ []))
    (1 ∷ 4 ∷ 4 ∷ 77 ∷ 5 ∷ []) refl
    -- lpm and ternary keys: the earliest
    ∷ row ours (bench (1 ∷ 0 ∷ 2 ∷ 8 ∷ 8 ∷ 2 ∷ 0 ∷ 1 ∷ 0 ∷ 8 ∷ 0 ∷ 1 ∷ 4 ∷ 1 ∷ 3 ∷ 0 ∷ 0 ∷ 0 ∷ 0 ∷ 7 ∷ 1 ∷ 2 ∷ 1
    ∷ 4 ∷ 0 ∷ 2 ∷ 4 ∷ 0 ∷ 2 ∷ 0 ∷ 1 ∷ 0 ∷ 1 ∷ 99 ∷ 5 ∷ 0 ∷ 2 ∷ 0 ∷ 0 ∷ 0 ∷ 0 ∷ 0 ∷ 0 ∷ 5 ∷ 0 ∷ 77 ∷ 8 ∷ 77
    ∷ 255 ∷ 0 ∷ 6 ∷ 77 ∷ 0 ∷ [])) (1 ∷ 5 ∷ 5 ∷ 77 ∷ 5 ∷ []) refl
    -- a mask leaves bits out
    ∷ row ours (bench (1 ∷ 0 ∷ 2 ∷ 8 ∷ 8 ∷ 2 ∷ 0 ∷ 1 ∷ 0 ∷ 8 ∷ 0 ∷ 1 ∷ 4 ∷ 1 ∷ 3 ∷ 0 ∷ 0 ∷ 0 ∷ 0 ∷ 7 ∷ 1 ∷ 1 ∷ 2
    ∷ 4 ∷ 0 ∷ 2 ∷ 0 ∷ 1 ∷ 0 ∷ 1 ∷ 99 ∷ 5 ∷ 0 ∷ 1 ∷ 0 ∷ 64 ∷ 64 ∷ 0 ∷ 5 ∷ 77 ∷ 0 ∷ []))
    (1 ∷ 4 ∷ 4 ∷ 77 ∷ 5 ∷ []) refl
    -- no entry matches: the default
    ∷ row ours (bench (1 ∷ 0 ∷ 2 ∷ 8 ∷ 8 ∷ 2 ∷ 0 ∷ 1 ∷ 0 ∷ 8 ∷ 0 ∷ 1 ∷ 4 ∷ 1 ∷ 3 ∷ 0 ∷ 0 ∷ 0 ∷ 0 ∷ 7 ∷ 1 ∷ 1 ∷ 2
    ∷ 4 ∷ 0 ∷ 2 ∷ 0 ∷ 1 ∷ 0 ∷ 1 ∷ 99 ∷ 5 ∷ 0 ∷ 1 ∷ 0 ∷ 1 ∷ 255 ∷ 0 ∷ 5 ∷ 77 ∷ 0 ∷ []))
    (1 ∷ 4 ∷ 4 ∷ 77 ∷ 99 ∷ []) refl
    -- entries of two tables
    ∷ row ours (bench (1 ∷ 0 ∷ 1 ∷ 8 ∷ 1 ∷ 0 ∷ 1 ∷ 0 ∷ 8 ∷ 0 ∷ 1 ∷ 4 ∷ 0 ∷ 3 ∷ 0 ∷ 2 ∷ 1 ∷ 0 ∷ 1 ∷ 1 ∷ 1 ∷ 1 ∷ 0
    ∷ 0 ∷ 1 ∷ 1 ∷ 1 ∷ 0 ∷ 1 ∷ 1 ∷ 1 ∷ 1 ∷ 0 ∷ 0 ∷ 1 ∷ 2 ∷ 5 ∷ 1 ∷ 2 ∷ 0 ∷ 1 ∷ 0 ∷ 10 ∷ 1 ∷ 1 ∷ 0 ∷ 20 ∷ 0
    ∷ [])) (1 ∷ 4 ∷ 4 ∷ 20 ∷ []) refl
    -- either stops early
    ∷ row ours (bench (1 ∷ 0 ∷ 1 ∷ 0 ∷ 0 ∷ 0 ∷ 1 ∷ 4 ∷ 0 ∷ 9 ∷ 13 ∷ 0 ∷ 1 ∷ 0 ∷ 1 ∷ 0 ∷ 0 ∷ []))
    (1 ∷ 3 ∷ 4 ∷ 1 ∷ []) refl
    -- both stops early
    ∷ row ours (bench (1 ∷ 0 ∷ 1 ∷ 0 ∷ 0 ∷ 0 ∷ 1 ∷ 4 ∷ 0 ∷ 9 ∷ 12 ∷ 0 ∷ 0 ∷ 0 ∷ 1 ∷ 0 ∷ 1 ∷ []))
    (1 ∷ 3 ∷ 4 ∷ 0 ∷ []) refl
    -- and
    ∷ row ours (bench (1 ∷ 0 ∷ 1 ∷ 8 ∷ 0 ∷ 0 ∷ 1 ∷ 4 ∷ 0 ∷ 9 ∷ 3 ∷ 1 ∷ 8 ∷ 12 ∷ 1 ∷ 8 ∷ 10 ∷ 0 ∷ 0 ∷ []))
    (1 ∷ 4 ∷ 4 ∷ 8 ∷ []) refl
    -- or
    ∷ row ours (bench (1 ∷ 0 ∷ 1 ∷ 8 ∷ 0 ∷ 0 ∷ 1 ∷ 4 ∷ 0 ∷ 9 ∷ 4 ∷ 1 ∷ 8 ∷ 12 ∷ 1 ∷ 8 ∷ 10 ∷ 0 ∷ 0 ∷ []))
    (1 ∷ 4 ∷ 4 ∷ 14 ∷ []) refl
    -- xor
    ∷ row ours (bench (1 ∷ 0 ∷ 1 ∷ 8 ∷ 0 ∷ 0 ∷ 1 ∷ 4 ∷ 0 ∷ 9 ∷ 5 ∷ 1 ∷ 8 ∷ 12 ∷ 1 ∷ 8 ∷ 10 ∷ 0 ∷ 0 ∷ []))
    (1 ∷ 4 ∷ 4 ∷ 6 ∷ []) refl
    -- complement
    ∷ row ours (bench (1 ∷ 0 ∷ 1 ∷ 8 ∷ 0 ∷ 0 ∷ 1 ∷ 4 ∷ 0 ∷ 8 ∷ 1 ∷ 8 ∷ 165 ∷ 0 ∷ 0 ∷ [])) (1 ∷ 3 ∷ 3 ∷ 90 ∷ []) refl
    -- shift right
    ∷ row ours (bench (1 ∷ 0 ∷ 1 ∷ 8 ∷ 0 ∷ 0 ∷ 1 ∷ 4 ∷ 0 ∷ 9 ∷ 7 ∷ 1 ∷ 8 ∷ 165 ∷ 1 ∷ 3 ∷ 4 ∷ 0 ∷ 0 ∷ []))
    (1 ∷ 4 ∷ 4 ∷ 10 ∷ []) refl
    -- 7 is not less than 7
    ∷ row ours (bench (1 ∷ 0 ∷ 1 ∷ 0 ∷ 0 ∷ 0 ∷ 1 ∷ 4 ∷ 0 ∷ 9 ∷ 10 ∷ 1 ∷ 8 ∷ 7 ∷ 1 ∷ 8 ∷ 7 ∷ 0 ∷ 1 ∷ []))
    (1 ∷ 4 ∷ 4 ∷ 0 ∷ []) refl
    -- 7 is less than or equal to 7
    ∷ row ours (bench (1 ∷ 0 ∷ 1 ∷ 0 ∷ 0 ∷ 0 ∷ 1 ∷ 4 ∷ 0 ∷ 9 ∷ 11 ∷ 1 ∷ 8 ∷ 7 ∷ 1 ∷ 8 ∷ 7 ∷ 0 ∷ 0 ∷ []))
    (1 ∷ 4 ∷ 4 ∷ 1 ∷ []) refl
    -- unequal
    ∷ row ours (bench (1 ∷ 0 ∷ 1 ∷ 0 ∷ 0 ∷ 0 ∷ 1 ∷ 4 ∷ 0 ∷ 9 ∷ 9 ∷ 1 ∷ 8 ∷ 7 ∷ 1 ∷ 8 ∷ 8 ∷ 0 ∷ 0 ∷ []))
    (1 ∷ 4 ∷ 4 ∷ 1 ∷ []) refl
    -- not
    ∷ row ours (bench (1 ∷ 0 ∷ 1 ∷ 0 ∷ 0 ∷ 0 ∷ 1 ∷ 4 ∷ 0 ∷ 7 ∷ 0 ∷ 0 ∷ 0 ∷ 0 ∷ [])) (1 ∷ 3 ∷ 3 ∷ 1 ∷ []) refl
    -- inout read at its turn, before a later argument changes the place
    ∷ row ours (bench (1 ∷ 0 ∷ 1 ∷ 8 ∷ 2 ∷ 1 ∷ 8 ∷ 1 ∷ 2 ∷ 8 ∷ 0 ∷ 3 ∷ 2 ∷ 1 ∷ 3 ∷ 0 ∷ 1 ∷ 8 ∷ 30 ∷ 6 ∷ 1 ∷ 8
    ∷ 4 ∷ 0 ∷ 2 ∷ 3 ∷ 8 ∷ 1 ∷ 8 ∷ 0 ∷ 0 ∷ 0 ∷ 4 ∷ 1 ∷ 2 ∷ 4 ∷ 0 ∷ 13 ∷ 0 ∷ 1 ∷ 4 ∷ 0 ∷ 0 ∷ 9 ∷ []))
    (1 ∷ 10 ∷ 10 ∷ 9 ∷ []) refl
    -- write-back to a header set invalid in the body
    ∷ row ours (bench (1 ∷ 1 ∷ 1 ∷ 8 ∷ 1 ∷ 128 ∷ 1 ∷ 0 ∷ 1 ∷ 3 ∷ 8 ∷ 0 ∷ 10 ∷ 0 ∷ 0 ∷ 4 ∷ 0 ∷ 1 ∷ 5 ∷ 0 ∷ 0 ∷ 0
    ∷ 1 ∷ 9 ∷ [])) (1 ∷ 3 ∷ 3 ∷ 0 ∷ 0 ∷ []) refl
    -- an if: its branches, then its own 7
    ∷ row ours (bench (1 ∷ 0 ∷ 0 ∷ 0 ∷ 0 ∷ 2 ∷ 1 ∷ 4 ∷ 1 ∷ 0 ∷ 6 ∷ 0 ∷ 0 ∷ 0 ∷ [])) (0 ∷ 8 ∷ 10 ∷ []) refl
    -- a call: 7 before 8
    ∷ row ours (bench (1 ∷ 0 ∷ 0 ∷ 1 ∷ 0 ∷ 2 ∷ 2 ∷ 8 ∷ 1 ∷ 8 ∷ 0 ∷ 0 ∷ 0 ∷ 4 ∷ 0 ∷ 2 ∷ 1 ∷ 8 ∷ 1 ∷ 1 ∷ 4 ∷ 1 ∷ 0
    ∷ [])) (0 ∷ 7 ∷ 13 ∷ []) refl
    -- a call: its name before its arguments
    ∷ row ours (bench (1 ∷ 0 ∷ 0 ∷ 1 ∷ 0 ∷ 0 ∷ 0 ∷ 0 ∷ 0 ∷ 4 ∷ 1 ∷ 1 ∷ 1 ∷ 1 ∷ 9 ∷ 0 ∷ [])) (0 ∷ 6 ∷ 10 ∷ []) refl
    -- missing return: 8 at the kind
    ∷ row ours (bench (1 ∷ 0 ∷ 0 ∷ 1 ∷ 1 ∷ 8 ∷ 0 ∷ 0 ∷ 0 ∷ 0 ∷ 0 ∷ 0 ∷ [])) (0 ∷ 8 ∷ 4 ∷ []) refl
    -- a table: names, then keys
    ∷ row ours (bench (1 ∷ 0 ∷ 0 ∷ 1 ∷ 0 ∷ 0 ∷ 0 ∷ 0 ∷ 1 ∷ 1 ∷ 0 ∷ 1 ∷ 1 ∷ 9 ∷ 1 ∷ 0 ∷ 1 ∷ 0 ∷ 0 ∷ 0 ∷ []))
    (0 ∷ 6 ∷ 16 ∷ []) refl
    -- a table: 7s, then 8s
    ∷ row ours (bench (1 ∷ 0 ∷ 0 ∷ 1 ∷ 0 ∷ 1 ∷ 1 ∷ 1 ∷ 0 ∷ 0 ∷ 1 ∷ 2 ∷ 1 ∷ 1 ∷ 1 ∷ 1 ∷ 1 ∷ 1 ∷ 1 ∷ 1 ∷ 1 ∷ 0 ∷ 0
    ∷ 1 ∷ 2 ∷ 0 ∷ 0 ∷ [])) (0 ∷ 7 ∷ 24 ∷ []) refl
    -- a table: second lpm key, then listed actions
    ∷ row ours (bench (1 ∷ 0 ∷ 0 ∷ 1 ∷ 0 ∷ 1 ∷ 1 ∷ 1 ∷ 0 ∷ 0 ∷ 1 ∷ 2 ∷ 1 ∷ 1 ∷ 1 ∷ 1 ∷ 1 ∷ 1 ∷ 1 ∷ 1 ∷ 1 ∷ 0 ∷ 0
    ∷ 1 ∷ 1 ∷ 0 ∷ 0 ∷ [])) (0 ∷ 8 ∷ 16 ∷ []) refl
    -- left over
    ∷ row ours (bench (1 ∷ 0 ∷ 0 ∷ 0 ∷ 0 ∷ 0 ∷ 0 ∷ 7 ∷ [])) (0 ∷ 12 ∷ 7 ∷ []) refl
    -- depth 32
    ∷ row paper (bench (1 ∷ 0 ∷ 0 ∷ 0 ∷ 0 ∷ blocks 31 (0 ∷ 0 ∷ []))) (1 ∷ 32 ∷ 32 ∷ []) refl
    -- depth 33
    ∷ row paper (bench (1 ∷ 0 ∷ 0 ∷ 0 ∷ 0 ∷ blocks 32 (0 ∷ 0 ∷ []))) (0 ∷ 5 ∷ 69 ∷ []) refl
    -- a bad tag at depth 33: 5
    ∷ row paper (bench (1 ∷ 0 ∷ 0 ∷ 0 ∷ 0 ∷ blocks 32 (99 ∷ 0 ∷ []))) (0 ∷ 5 ∷ 69 ∷ []) refl
    -- exit in a function
    ∷ row ours (program (1 ∷ 0 ∷ 0 ∷ 1 ∷ 1 ∷ 0 ∷ 0 ∷ 0 ∷ 8 ∷ 0 ∷ 4 ∷ 0 ∷ 0 ∷ 0 ∷ [])) (3 ∷ []) refl
    -- return without a value in a function
    ∷ row ours (program (1 ∷ 0 ∷ 0 ∷ 1 ∷ 1 ∷ 0 ∷ 0 ∷ 0 ∷ 7 ∷ 0 ∷ 4 ∷ 0 ∷ 0 ∷ 0 ∷ [])) (3 ∷ []) refl
    -- an in parameter is written
    ∷ row ours (program (1 ∷ 0 ∷ 0 ∷ 1 ∷ 0 ∷ 1 ∷ 1 ∷ 8 ∷ 0 ∷ 1 ∷ 3 ∷ 0 ∷ 1 ∷ 8 ∷ 1 ∷ 0 ∷ 4 ∷ 0 ∷ 1 ∷ 1 ∷ 8 ∷ 1
    ∷ 0 ∷ [])) (3 ∷ []) refl
    -- a function reads a global
    ∷ row ours (program (1 ∷ 0 ∷ 1 ∷ 8 ∷ 1 ∷ 1 ∷ 8 ∷ 0 ∷ 0 ∷ 6 ∷ 4 ∷ 0 ∷ 0 ∷ 4 ∷ 0 ∷ 0 ∷ 0 ∷ 0 ∷ [])) (3 ∷ []) refl
    -- a function calls an action
    ∷ row ours (program (1 ∷ 0 ∷ 0 ∷ 2 ∷ 0 ∷ 0 ∷ 0 ∷ 0 ∷ 1 ∷ 0 ∷ 0 ∷ 0 ∷ 3 ∷ 2 ∷ 4 ∷ 0 ∷ 0 ∷ 6 ∷ 0 ∷ 1 ∷ 0 ∷ 4
    ∷ 1 ∷ 0 ∷ 0 ∷ [])) (3 ∷ []) refl
    -- two lpm keys
    ∷ row ours (program (1 ∷ 0 ∷ 1 ∷ 8 ∷ 1 ∷ 0 ∷ 0 ∷ 0 ∷ 0 ∷ 1 ∷ 2 ∷ 1 ∷ 4 ∷ 0 ∷ 1 ∷ 4 ∷ 0 ∷ 1 ∷ 0 ∷ 0 ∷ 0 ∷ 5
    ∷ 0 ∷ 0 ∷ 0 ∷ [])) (3 ∷ []) refl
    -- an unfit entry
    ∷ row ours (program (1 ∷ 0 ∷ 2 ∷ 8 ∷ 8 ∷ 2 ∷ 0 ∷ 1 ∷ 0 ∷ 8 ∷ 0 ∷ 1 ∷ 4 ∷ 1 ∷ 3 ∷ 0 ∷ 0 ∷ 0 ∷ 0 ∷ 7 ∷ 1 ∷ 1
    ∷ 0 ∷ 4 ∷ 0 ∷ 2 ∷ 0 ∷ 1 ∷ 0 ∷ 1 ∷ 99 ∷ 5 ∷ 0 ∷ 1 ∷ 0 ∷ 256 ∷ 1 ∷ 0 ∷ 0 ∷ [])) (3 ∷ []) refl
    -- a listed function is chosen
    ∷ row ours (program (1 ∷ 0 ∷ 1 ∷ 8 ∷ 1 ∷ 1 ∷ 0 ∷ 0 ∷ 0 ∷ 6 ∷ 0 ∷ 1 ∷ 1 ∷ 1 ∷ 0 ∷ 4 ∷ 0 ∷ 1 ∷ 0 ∷ 0 ∷ 0 ∷ 5
    ∷ 0 ∷ 0 ∷ 0 ∷ [])) (3 ∷ []) refl
    -- a bool literal 2
    ∷ row ours (program (1 ∷ 0 ∷ 1 ∷ 0 ∷ 0 ∷ 0 ∷ 1 ∷ 4 ∷ 0 ∷ 0 ∷ 2 ∷ 0 ∷ 0 ∷ [])) (3 ∷ []) refl
    -- a literal that does not fit
    ∷ row ours (program (1 ∷ 0 ∷ 1 ∷ 8 ∷ 0 ∷ 0 ∷ 1 ∷ 4 ∷ 0 ∷ 1 ∷ 8 ∷ 256 ∷ 0 ∷ 0 ∷ [])) (3 ∷ []) refl
    -- a bool key
    ∷ row ours (program (1 ∷ 0 ∷ 0 ∷ 1 ∷ 0 ∷ 0 ∷ 0 ∷ 0 ∷ 1 ∷ 1 ∷ 0 ∷ 0 ∷ 1 ∷ 1 ∷ 0 ∷ 0 ∷ 0 ∷ 5 ∷ 0 ∷ 0 ∷ []))
    (3 ∷ []) refl
    -- the second operand of both is bits
    ∷ row ours (program (1 ∷ 0 ∷ 0 ∷ 0 ∷ 0 ∷ 2 ∷ 9 ∷ 8 ∷ 9 ∷ 12 ∷ 0 ∷ 1 ∷ 1 ∷ 1 ∷ 1 ∷ 1 ∷ 1 ∷ 1 ∷ 0 ∷ 0 ∷ 0 ∷ []))
    (3 ∷ []) refl
    -- an out argument that is no place, though the body exits
    ∷ row ours (program (1 ∷ 0 ∷ 0 ∷ 1 ∷ 0 ∷ 1 ∷ 2 ∷ 8 ∷ 0 ∷ 8 ∷ 0 ∷ 4 ∷ 0 ∷ 1 ∷ 1 ∷ 8 ∷ 1 ∷ 0 ∷ [])) (3 ∷ []) refl
    -- an in parameter as out argument
    ∷ row ours (program (1 ∷ 0 ∷ 0 ∷ 2 ∷ 0 ∷ 1 ∷ 2 ∷ 8 ∷ 0 ∷ 8 ∷ 0 ∷ 1 ∷ 1 ∷ 8 ∷ 0 ∷ 4 ∷ 0 ∷ 1 ∷ 3 ∷ 0 ∷ 0 ∷ 4
    ∷ 1 ∷ 1 ∷ 1 ∷ 8 ∷ 1 ∷ 0 ∷ [])) (3 ∷ []) refl
    -- 65 bits joined
    ∷ row ours (program (1 ∷ 0 ∷ 1 ∷ 1 ∷ 0 ∷ 0 ∷ 1 ∷ 4 ∷ 0 ∷ 11 ∷ 0 ∷ 0 ∷ 12 ∷ 1 ∷ 64 ∷ 1 ∷ 1 ∷ 1 ∷ 1 ∷ 0 ∷ 0
    ∷ [])) (3 ∷ []) refl
    -- a bool equal to bits
    ∷ row ours (program (1 ∷ 0 ∷ 1 ∷ 0 ∷ 0 ∷ 0 ∷ 1 ∷ 4 ∷ 0 ∷ 9 ∷ 8 ∷ 0 ∷ 1 ∷ 1 ∷ 1 ∷ 1 ∷ 0 ∷ 0 ∷ [])) (3 ∷ []) refl
    -- the parser block: accept goes on with the apply body
    ∷ row ours (bench (2 ∷ 0 ∷ 0 ∷ 0 ∷ 0 ∷ 1 ∷ 0 ∷ 1 ∷ 0 ∷ 0 ∷ 0 ∷ [])) (1 ∷ 3 ∷ 3 ∷ []) refl
    -- a state with no transition: 3; the apply body is not run
    ∷ row ours (bench (2 ∷ 0 ∷ 0 ∷ 0 ∷ 0 ∷ 1 ∷ 0 ∷ 0 ∷ 0 ∷ 0 ∷ 0 ∷ [])) (4 ∷ 3 ∷ 2 ∷ 3 ∷ []) refl
    -- reject with its error, 0 too
    ∷ row ours (bench (2 ∷ 0 ∷ 0 ∷ 0 ∷ 0 ∷ 1 ∷ 0 ∷ 2 ∷ 7 ∷ 0 ∷ 0 ∷ 0 ∷ [])) (4 ∷ 7 ∷ 2 ∷ 3 ∷ []) refl
    ∷ row ours (bench (2 ∷ 0 ∷ 0 ∷ 0 ∷ 0 ∷ 1 ∷ 0 ∷ 2 ∷ 0 ∷ 0 ∷ 0 ∷ 0 ∷ [])) (4 ∷ 0 ∷ 2 ∷ 3 ∷ []) refl
    -- a later state
    ∷ row ours (bench (2 ∷ 0 ∷ 0 ∷ 0 ∷ 0 ∷ 2 ∷ 0 ∷ 3 ∷ 1 ∷ 0 ∷ 1 ∷ 0 ∷ 0 ∷ 0 ∷ [])) (1 ∷ 5 ∷ 5 ∷ []) refl
    -- select: the first equal value
    ∷ row ours (bench (2 ∷ 0 ∷ 0 ∷ 0 ∷ 0 ∷ 3 ∷ 0 ∷ 4 ∷ 1 ∷ 8 ∷ 5 ∷ 3 ∷ 4 ∷ 1 ∷ 5 ∷ 2 ∷ 5 ∷ 1 ∷ 0 ∷ 2 ∷ 9 ∷ 0 ∷ 1 ∷ 0 ∷ 0 ∷ 0 ∷ [])) (1 ∷ 6 ∷ 6 ∷ []) refl
    -- select without a match: 2; without pairs too
    ∷ row ours (bench (2 ∷ 0 ∷ 0 ∷ 0 ∷ 0 ∷ 2 ∷ 0 ∷ 4 ∷ 1 ∷ 8 ∷ 7 ∷ 1 ∷ 4 ∷ 1 ∷ 0 ∷ 1 ∷ 0 ∷ 0 ∷ 0 ∷ [])) (4 ∷ 2 ∷ 3 ∷ 6 ∷ []) refl
    ∷ row ours (bench (2 ∷ 0 ∷ 0 ∷ 0 ∷ 0 ∷ 1 ∷ 0 ∷ 4 ∷ 1 ∷ 8 ∷ 7 ∷ 0 ∷ 0 ∷ 0 ∷ 0 ∷ [])) (4 ∷ 2 ∷ 3 ∷ 4 ∷ []) refl
    -- verify: true goes on, false rejects with its own error
    ∷ row ours (bench (2 ∷ 0 ∷ 0 ∷ 0 ∷ 0 ∷ 1 ∷ 12 ∷ 0 ∷ 1 ∷ 42 ∷ 1 ∷ 0 ∷ 0 ∷ 0 ∷ [])) (1 ∷ 4 ∷ 4 ∷ []) refl
    ∷ row ours (bench (2 ∷ 0 ∷ 0 ∷ 0 ∷ 0 ∷ 1 ∷ 12 ∷ 0 ∷ 0 ∷ 42 ∷ 1 ∷ 0 ∷ 0 ∷ 0 ∷ [])) (4 ∷ 42 ∷ 3 ∷ 4 ∷ []) refl
    -- a reject inside a block ends the parser at once; what was written stays
    ∷ row ours (bench (2 ∷ 0 ∷ 1 ∷ 8 ∷ 0 ∷ 0 ∷ 1 ∷ 3 ∷ 3 ∷ 1 ∷ 4 ∷ 0 ∷ 1 ∷ 8 ∷ 5 ∷ 12 ∷ 0 ∷ 0 ∷ 9 ∷ 1 ∷ 4 ∷ 0 ∷ 1 ∷ 8 ∷ 6 ∷ 1 ∷ 1 ∷ 4 ∷ 0 ∷ 1 ∷ 8 ∷ 7 ∷ 0 ∷ 1 ∷ 0 ∷ [])) (4 ∷ 9 ∷ 6 ∷ 10 ∷ 5 ∷ []) refl
    -- extract across bytes, widths 4, 12 and 16: highest bit first
    ∷ row ours (bench (2 ∷ 1 ∷ 3 ∷ 4 ∷ 12 ∷ 16 ∷ 1 ∷ 128 ∷ 0 ∷ 0 ∷ 1 ∷ 11 ∷ 0 ∷ 1 ∷ 0 ∷ 0 ∷ 0 ∷ 0 ∷ 0 ∷ 0 ∷ 4 ∷ 171 ∷ 205 ∷ 18 ∷ 52 ∷ [])) (1 ∷ 3 ∷ 3 ∷ 1 ∷ 10 ∷ 3021 ∷ 4660 ∷ []) refl
    -- extract on a valid header fills it anew; bytes that are left are no fault
    ∷ row ours (bench (2 ∷ 1 ∷ 3 ∷ 4 ∷ 12 ∷ 16 ∷ 1 ∷ 128 ∷ 0 ∷ 0 ∷ 1 ∷ 11 ∷ 0 ∷ 1 ∷ 0 ∷ 0 ∷ 1 ∷ 1 ∷ 2 ∷ 3 ∷ 5 ∷ 171 ∷ 205 ∷ 18 ∷ 52 ∷ 9 ∷ [])) (1 ∷ 3 ∷ 3 ∷ 1 ∷ 10 ∷ 3021 ∷ 4660 ∷ []) refl
    -- a short packet changes no header and rejects with 1
    ∷ row ours (bench (2 ∷ 1 ∷ 3 ∷ 4 ∷ 12 ∷ 16 ∷ 1 ∷ 128 ∷ 0 ∷ 0 ∷ 1 ∷ 11 ∷ 0 ∷ 1 ∷ 0 ∷ 0 ∷ 1 ∷ 1 ∷ 2 ∷ 3 ∷ 3 ∷ 171 ∷ 205 ∷ 18 ∷ [])) (4 ∷ 1 ∷ 2 ∷ 3 ∷ 1 ∷ 1 ∷ 2 ∷ 3 ∷ []) refl
    ∷ row ours (bench (2 ∷ 1 ∷ 3 ∷ 4 ∷ 12 ∷ 16 ∷ 1 ∷ 128 ∷ 0 ∷ 0 ∷ 1 ∷ 11 ∷ 0 ∷ 1 ∷ 0 ∷ 0 ∷ 0 ∷ 0 ∷ 0 ∷ 0 ∷ 3 ∷ 171 ∷ 205 ∷ 18 ∷ [])) (4 ∷ 1 ∷ 2 ∷ 3 ∷ 0 ∷ 0 ∷ 0 ∷ 0 ∷ []) refl
    -- the second extract goes on behind the first
    ∷ row ours (bench (2 ∷ 1 ∷ 1 ∷ 8 ∷ 2 ∷ 128 ∷ 128 ∷ 0 ∷ 0 ∷ 1 ∷ 3 ∷ 2 ∷ 11 ∷ 0 ∷ 11 ∷ 1 ∷ 1 ∷ 0 ∷ 0 ∷ 0 ∷ 0 ∷ 0 ∷ 0 ∷ 3 ∷ 1 ∷ 2 ∷ 3 ∷ [])) (1 ∷ 5 ∷ 5 ∷ 1 ∷ 1 ∷ 1 ∷ 2 ∷ []) refl
    -- a field of 64 bits, not at a byte's beginning
    ∷ row ours (bench (2 ∷ 1 ∷ 3 ∷ 4 ∷ 64 ∷ 4 ∷ 1 ∷ 128 ∷ 0 ∷ 0 ∷ 1 ∷ 11 ∷ 0 ∷ 1 ∷ 0 ∷ 0 ∷ 0 ∷ 0 ∷ 0 ∷ 0 ∷ 9 ∷ 31 ∷ 255 ∷ 255 ∷ 255 ∷ 255 ∷ 255 ∷ 255 ∷ 255 ∷ 242 ∷ [])) (1 ∷ 3 ∷ 3 ∷ 1 ∷ 1 ∷ 18446744073709551615 ∷ 2 ∷ []) refl
    -- a select on a field that was extracted
    ∷ row ours (bench (2 ∷ 1 ∷ 1 ∷ 8 ∷ 1 ∷ 128 ∷ 0 ∷ 0 ∷ 2 ∷ 11 ∷ 0 ∷ 4 ∷ 5 ∷ 0 ∷ 0 ∷ 1 ∷ 6 ∷ 1 ∷ 0 ∷ 2 ∷ 8 ∷ 0 ∷ 0 ∷ 0 ∷ 0 ∷ 1 ∷ 6 ∷ [])) (4 ∷ 8 ∷ 5 ∷ 6 ∷ 1 ∷ 6 ∷ []) refl
    -- the dearest path: every pair counts, also one whose value came before
    ∷ row ours (bench (2 ∷ 0 ∷ 0 ∷ 0 ∷ 0 ∷ 4 ∷ 0 ∷ 4 ∷ 1 ∷ 8 ∷ 1 ∷ 2 ∷ 1 ∷ 1 ∷ 1 ∷ 2 ∷ 0 ∷ 1 ∷ 3 ∷ 2 ∷ 0 ∷ 0 ∷ 3 ∷ 3 ∷ 0 ∷ 1 ∷ 0 ∷ 0 ∷ 0 ∷ [])) (1 ∷ 6 ∷ 10 ∷ []) refl
    -- states that state 0 does not lead to count nothing
    ∷ row ours (bench (2 ∷ 0 ∷ 0 ∷ 0 ∷ 0 ∷ 2 ∷ 0 ∷ 1 ∷ 3 ∷ 1 ∷ 0 ∷ 1 ∷ 0 ∷ 0 ∷ 0 ∷ [])) (1 ∷ 3 ∷ 3 ∷ []) refl
    -- a state that is not later, or is not there: 6 at the number
    ∷ row ours (bench (2 ∷ 0 ∷ 0 ∷ 0 ∷ 0 ∷ 1 ∷ 0 ∷ 3 ∷ 0 ∷ 0 ∷ 0 ∷ 0 ∷ [])) (0 ∷ 6 ∷ 8 ∷ []) refl
    ∷ row ours (bench (2 ∷ 0 ∷ 0 ∷ 0 ∷ 0 ∷ 1 ∷ 0 ∷ 3 ∷ 1 ∷ 0 ∷ 0 ∷ 0 ∷ [])) (0 ∷ 6 ∷ 8 ∷ []) refl
    -- a select's states come before its expression, in file order
    ∷ row ours (bench (2 ∷ 0 ∷ 0 ∷ 0 ∷ 0 ∷ 2 ∷ 0 ∷ 4 ∷ 4 ∷ 9 ∷ 2 ∷ 0 ∷ 1 ∷ 0 ∷ 0 ∷ 0 ∷ 1 ∷ 0 ∷ 0 ∷ 0 ∷ [])) (0 ∷ 6 ∷ 14 ∷ []) refl
    -- a select that is not bits: 7 at its expression's tag; then a value that does not fit: 7 at it
    ∷ row ours (bench (2 ∷ 0 ∷ 0 ∷ 0 ∷ 0 ∷ 2 ∷ 0 ∷ 4 ∷ 0 ∷ 1 ∷ 1 ∷ 0 ∷ 1 ∷ 0 ∷ 1 ∷ 0 ∷ 0 ∷ 0 ∷ [])) (0 ∷ 7 ∷ 8 ∷ []) refl
    ∷ row ours (bench (2 ∷ 0 ∷ 0 ∷ 0 ∷ 0 ∷ 2 ∷ 0 ∷ 4 ∷ 1 ∷ 8 ∷ 7 ∷ 2 ∷ 255 ∷ 1 ∷ 256 ∷ 1 ∷ 0 ∷ 1 ∷ 0 ∷ 0 ∷ 0 ∷ [])) (0 ∷ 7 ∷ 15 ∷ []) refl
    -- a call in a state: 6 for its name, 8 at its tag
    ∷ row ours (bench (2 ∷ 0 ∷ 0 ∷ 1 ∷ 0 ∷ 0 ∷ 0 ∷ 0 ∷ 0 ∷ 1 ∷ 4 ∷ 1 ∷ 0 ∷ 1 ∷ 0 ∷ 0 ∷ 0 ∷ [])) (0 ∷ 6 ∷ 11 ∷ []) refl
    ∷ row ours (bench (2 ∷ 0 ∷ 0 ∷ 1 ∷ 0 ∷ 0 ∷ 0 ∷ 0 ∷ 0 ∷ 1 ∷ 4 ∷ 0 ∷ 0 ∷ 1 ∷ 0 ∷ 0 ∷ 0 ∷ [])) (0 ∷ 8 ∷ 10 ∷ []) refl
    -- tag 13 in a state, in its statement and in its select: 8 at its tag
    ∷ row ours (bench (2 ∷ 0 ∷ 0 ∷ 1 ∷ 1 ∷ 8 ∷ 0 ∷ 0 ∷ 6 ∷ 1 ∷ 8 ∷ 3 ∷ 0 ∷ 1 ∷ 12 ∷ 9 ∷ 8 ∷ 13 ∷ 0 ∷ 0 ∷ 1 ∷ 8 ∷ 3 ∷ 1 ∷ 1 ∷ 0 ∷ 0 ∷ 0 ∷ [])) (0 ∷ 8 ∷ 17 ∷ []) refl
    ∷ row ours (bench (2 ∷ 0 ∷ 0 ∷ 1 ∷ 1 ∷ 8 ∷ 0 ∷ 0 ∷ 6 ∷ 1 ∷ 8 ∷ 3 ∷ 0 ∷ 1 ∷ 0 ∷ 4 ∷ 13 ∷ 0 ∷ 0 ∷ 0 ∷ 0 ∷ 0 ∷ 0 ∷ [])) (0 ∷ 8 ∷ 16 ∷ []) refl
    -- apply in a state: 6 for the table, then 8
    ∷ row ours (bench (2 ∷ 0 ∷ 0 ∷ 1 ∷ 0 ∷ 0 ∷ 0 ∷ 0 ∷ 1 ∷ 1 ∷ 0 ∷ 1 ∷ 8 ∷ 1 ∷ 1 ∷ 0 ∷ 0 ∷ 0 ∷ 1 ∷ 5 ∷ 1 ∷ 1 ∷ 0 ∷ 0 ∷ 0 ∷ [])) (0 ∷ 6 ∷ 20 ∷ []) refl
    ∷ row ours (bench (2 ∷ 0 ∷ 0 ∷ 1 ∷ 0 ∷ 0 ∷ 0 ∷ 0 ∷ 1 ∷ 1 ∷ 0 ∷ 1 ∷ 8 ∷ 1 ∷ 1 ∷ 0 ∷ 0 ∷ 0 ∷ 1 ∷ 5 ∷ 0 ∷ 1 ∷ 0 ∷ 0 ∷ 0 ∷ [])) (0 ∷ 8 ∷ 19 ∷ []) refl
    -- return, exit and return with a value in a state: 8
    ∷ row ours (bench (2 ∷ 0 ∷ 0 ∷ 0 ∷ 0 ∷ 1 ∷ 7 ∷ 1 ∷ 0 ∷ 0 ∷ 0 ∷ [])) (0 ∷ 8 ∷ 6 ∷ []) refl
    ∷ row ours (bench (2 ∷ 0 ∷ 0 ∷ 0 ∷ 0 ∷ 1 ∷ 8 ∷ 1 ∷ 0 ∷ 0 ∷ 0 ∷ [])) (0 ∷ 8 ∷ 6 ∷ []) refl
    ∷ row ours (bench (2 ∷ 0 ∷ 0 ∷ 0 ∷ 0 ∷ 1 ∷ 6 ∷ 1 ∷ 8 ∷ 3 ∷ 1 ∷ 0 ∷ 0 ∷ 0 ∷ [])) (0 ∷ 8 ∷ 6 ∷ []) refl
    -- a state has no locals and no parameters
    ∷ row ours (bench (2 ∷ 0 ∷ 0 ∷ 0 ∷ 0 ∷ 1 ∷ 12 ∷ 2 ∷ 0 ∷ 1 ∷ 1 ∷ 0 ∷ 0 ∷ 0 ∷ [])) (0 ∷ 6 ∷ 8 ∷ []) refl
    ∷ row ours (bench (2 ∷ 0 ∷ 0 ∷ 0 ∷ 0 ∷ 1 ∷ 12 ∷ 3 ∷ 0 ∷ 1 ∷ 1 ∷ 0 ∷ 0 ∷ 0 ∷ [])) (0 ∷ 6 ∷ 8 ∷ []) refl
    -- extract and verify elsewhere: 8
    ∷ row ours (bench (2 ∷ 1 ∷ 1 ∷ 8 ∷ 1 ∷ 128 ∷ 0 ∷ 0 ∷ 1 ∷ 0 ∷ 1 ∷ 11 ∷ 0 ∷ 0 ∷ 0 ∷ 0 ∷ 0 ∷ [])) (0 ∷ 8 ∷ 12 ∷ []) refl
    ∷ row ours (bench (2 ∷ 0 ∷ 0 ∷ 0 ∷ 0 ∷ 1 ∷ 0 ∷ 1 ∷ 12 ∷ 0 ∷ 1 ∷ 0 ∷ 0 ∷ 0 ∷ [])) (0 ∷ 8 ∷ 8 ∷ []) refl
    -- extract: 6 for no global, 7 for a variable, 7 for widths that are no whole bytes, before 8
    ∷ row ours (bench (2 ∷ 0 ∷ 0 ∷ 0 ∷ 0 ∷ 1 ∷ 11 ∷ 0 ∷ 1 ∷ 0 ∷ 0 ∷ 0 ∷ [])) (0 ∷ 6 ∷ 7 ∷ []) refl
    ∷ row ours (bench (2 ∷ 0 ∷ 1 ∷ 8 ∷ 0 ∷ 0 ∷ 1 ∷ 11 ∷ 0 ∷ 1 ∷ 0 ∷ 0 ∷ 0 ∷ 0 ∷ [])) (0 ∷ 7 ∷ 7 ∷ []) refl
    ∷ row ours (bench (2 ∷ 1 ∷ 1 ∷ 4 ∷ 1 ∷ 128 ∷ 0 ∷ 0 ∷ 1 ∷ 11 ∷ 0 ∷ 1 ∷ 0 ∷ 0 ∷ 0 ∷ 0 ∷ 0 ∷ [])) (0 ∷ 7 ∷ 10 ∷ []) refl
    ∷ row ours (bench (2 ∷ 1 ∷ 1 ∷ 4 ∷ 1 ∷ 128 ∷ 0 ∷ 0 ∷ 1 ∷ 0 ∷ 1 ∷ 11 ∷ 0 ∷ 0 ∷ 0 ∷ 0 ∷ 0 ∷ [])) (0 ∷ 7 ∷ 12 ∷ []) refl
    -- a verify of bits: 7
    ∷ row ours (bench (2 ∷ 0 ∷ 0 ∷ 0 ∷ 0 ∷ 1 ∷ 12 ∷ 1 ∷ 8 ∷ 1 ∷ 0 ∷ 1 ∷ 0 ∷ 0 ∷ 0 ∷ [])) (0 ∷ 7 ∷ 6 ∷ []) refl
    -- states are judged behind tables and before the apply body; the statement before the transition
    ∷ row ours (bench (2 ∷ 0 ∷ 0 ∷ 0 ∷ 0 ∷ 1 ∷ 7 ∷ 3 ∷ 0 ∷ 6 ∷ 1 ∷ 8 ∷ 1 ∷ 0 ∷ 0 ∷ [])) (0 ∷ 8 ∷ 6 ∷ []) refl
    -- an error over 255: 4 at it; a transition's tag over 4 too
    ∷ row ours (bench (2 ∷ 0 ∷ 0 ∷ 0 ∷ 0 ∷ 1 ∷ 0 ∷ 2 ∷ 256 ∷ 0 ∷ 0 ∷ 0 ∷ [])) (0 ∷ 4 ∷ 8 ∷ []) refl
    ∷ row ours (bench (2 ∷ 0 ∷ 0 ∷ 0 ∷ 0 ∷ 1 ∷ 12 ∷ 0 ∷ 1 ∷ 256 ∷ 1 ∷ 0 ∷ 0 ∷ 0 ∷ [])) (0 ∷ 4 ∷ 9 ∷ []) refl
    ∷ row ours (bench (2 ∷ 0 ∷ 0 ∷ 0 ∷ 0 ∷ 1 ∷ 0 ∷ 5 ∷ 0 ∷ 0 ∷ 0 ∷ [])) (0 ∷ 4 ∷ 7 ∷ []) refl
    -- 0 and 17 states, and 17 pairs: 4 at the count
    ∷ row ours (bench (2 ∷ 0 ∷ 0 ∷ 0 ∷ 0 ∷ 0 ∷ 0 ∷ 0 ∷ 0 ∷ [])) (0 ∷ 4 ∷ 5 ∷ []) refl
    ∷ row ours (bench (2 ∷ 0 ∷ 0 ∷ 0 ∷ 0 ∷ 17 ∷ [])) (0 ∷ 4 ∷ 5 ∷ []) refl
    ∷ row ours (bench (2 ∷ 0 ∷ 0 ∷ 0 ∷ 0 ∷ 1 ∷ 0 ∷ 4 ∷ 1 ∷ 8 ∷ 7 ∷ 17 ∷ [])) (0 ∷ 4 ∷ 11 ∷ []) refl
    -- numbers run out inside the states: 4 at the length
    ∷ row ours (bench (2 ∷ 0 ∷ 0 ∷ 0 ∷ 0 ∷ 1 ∷ 0 ∷ 4 ∷ 1 ∷ 8 ∷ 7 ∷ 1 ∷ 7 ∷ [])) (0 ∷ 4 ∷ 13 ∷ []) refl
    -- a state's statement has depth 1, and so has a select's expression
    ∷ row ours (bench (2 ∷ 0 ∷ 0 ∷ 0 ∷ 0 ∷ 1 ∷ blocks 31 (0 ∷ 1 ∷ 0 ∷ 0 ∷ 0 ∷ []))) (1 ∷ 34 ∷ 34 ∷ []) refl
    ∷ row ours (bench (2 ∷ 0 ∷ 0 ∷ 0 ∷ 0 ∷ 1 ∷ blocks 32 (0 ∷ 1 ∷ 0 ∷ 0 ∷ 0 ∷ []))) (0 ∷ 5 ∷ 70 ∷ []) refl
    -- a packet of 513, of a number 256, too short, missing: 16, behind 11 and before 12
    ∷ row ours (bench (2 ∷ 0 ∷ 0 ∷ 0 ∷ 0 ∷ 1 ∷ 0 ∷ 1 ∷ 0 ∷ 0 ∷ 513 ∷ [])) (0 ∷ 16 ∷ 10 ∷ []) refl
    ∷ row ours (bench (2 ∷ 0 ∷ 0 ∷ 0 ∷ 0 ∷ 1 ∷ 0 ∷ 1 ∷ 0 ∷ 0 ∷ 2 ∷ 255 ∷ 256 ∷ [])) (0 ∷ 16 ∷ 13 ∷ []) refl
    ∷ row ours (bench (2 ∷ 0 ∷ 0 ∷ 0 ∷ 0 ∷ 1 ∷ 0 ∷ 1 ∷ 0 ∷ 0 ∷ 2 ∷ 255 ∷ [])) (0 ∷ 16 ∷ 13 ∷ []) refl
    ∷ row ours (bench (2 ∷ 0 ∷ 0 ∷ 0 ∷ 0 ∷ 1 ∷ 0 ∷ 1 ∷ 0 ∷ 0 ∷ [])) (0 ∷ 16 ∷ 10 ∷ []) refl
    ∷ row ours (bench (2 ∷ 0 ∷ 0 ∷ 0 ∷ 0 ∷ 1 ∷ 0 ∷ 1 ∷ 0 ∷ 0 ∷ 1 ∷ 255 ∷ 9 ∷ [])) (0 ∷ 12 ∷ 13 ∷ []) refl
    ∷ row ours (bench (2 ∷ 0 ∷ 1 ∷ 8 ∷ 0 ∷ 0 ∷ 1 ∷ 0 ∷ 1 ∷ 0 ∷ 0 ∷ 256 ∷ 513 ∷ [])) (0 ∷ 11 ∷ 11 ∷ []) refl
    -- tags 11 and 12 in version 1; a version 3
    ∷ row ours (bench (1 ∷ 1 ∷ 1 ∷ 8 ∷ 1 ∷ 128 ∷ 0 ∷ 0 ∷ 11 ∷ 0 ∷ 0 ∷ 0 ∷ 0 ∷ [])) (0 ∷ 4 ∷ 9 ∷ []) refl
    ∷ row ours (bench (1 ∷ 0 ∷ 0 ∷ 0 ∷ 0 ∷ 12 ∷ 0 ∷ 1 ∷ 0 ∷ 0 ∷ [])) (0 ∷ 4 ∷ 5 ∷ []) refl
    ∷ row ours (bench (3 ∷ 0 ∷ 0 ∷ 0 ∷ 0 ∷ 0 ∷ 0 ∷ [])) (0 ∷ 4 ∷ 0 ∷ []) refl
    -- printed: `reject 42 3 4`, then an empty line
    ∷ row ours (lines (2 ∷ 0 ∷ 0 ∷ 0 ∷ 0 ∷ 1 ∷ 12 ∷ 0 ∷ 0 ∷ 42 ∷ 1 ∷ 0 ∷ 0 ∷ 0 ∷ [])) (114 ∷ 101 ∷ 106 ∷ 101 ∷ 99 ∷ 116 ∷ 32 ∷ 52 ∷ 50 ∷ 32 ∷ 51 ∷ 32 ∷ 52 ∷ 10 ∷ 10 ∷ []) refl
    -- each step sees the store as its construct begins: state, assign, literal, state, empty, empty
    ∷ row ours (steps (2 ∷ 0 ∷ 1 ∷ 8 ∷ 0 ∷ 0 ∷ 2 ∷ 1 ∷ 4 ∷ 0 ∷ 1 ∷ 8 ∷ 5 ∷ 3 ∷ 1 ∷ 0 ∷ 1 ∷ 0 ∷ 0 ∷ 9 ∷ 0 ∷ [])) (9 ∷ 9 ∷ 9 ∷ 5 ∷ 5 ∷ 5 ∷ []) refl
    -- unjudged, stuck: extract and verify outside a state
    ∷ row ours (program (2 ∷ 1 ∷ 1 ∷ 8 ∷ 1 ∷ 128 ∷ 0 ∷ 0 ∷ 1 ∷ 0 ∷ 1 ∷ 11 ∷ 0 ∷ 0 ∷ 0 ∷ 0 ∷ 1 ∷ 7 ∷ [])) (3 ∷ []) refl
    ∷ row ours (program (2 ∷ 0 ∷ 0 ∷ 0 ∷ 0 ∷ 1 ∷ 0 ∷ 1 ∷ 12 ∷ 0 ∷ 1 ∷ 0 ∷ 0 ∷ 0 ∷ [])) (3 ∷ []) refl
    -- unjudged, stuck: a call, tag 13, apply, exit and return in a state
    ∷ row ours (program (2 ∷ 0 ∷ 0 ∷ 1 ∷ 0 ∷ 0 ∷ 0 ∷ 0 ∷ 0 ∷ 1 ∷ 4 ∷ 0 ∷ 0 ∷ 1 ∷ 0 ∷ 0 ∷ 0 ∷ [])) (3 ∷ []) refl
    ∷ row ours (program (2 ∷ 0 ∷ 0 ∷ 1 ∷ 1 ∷ 8 ∷ 0 ∷ 0 ∷ 6 ∷ 1 ∷ 8 ∷ 3 ∷ 0 ∷ 1 ∷ 12 ∷ 9 ∷ 8 ∷ 13 ∷ 0 ∷ 0 ∷ 1 ∷ 8 ∷ 3 ∷ 1 ∷ 1 ∷ 0 ∷ 0 ∷ 0 ∷ [])) (3 ∷ []) refl
    ∷ row ours (program (2 ∷ 0 ∷ 0 ∷ 1 ∷ 0 ∷ 0 ∷ 0 ∷ 0 ∷ 1 ∷ 1 ∷ 0 ∷ 1 ∷ 8 ∷ 1 ∷ 1 ∷ 0 ∷ 0 ∷ 0 ∷ 1 ∷ 5 ∷ 0 ∷ 1 ∷ 0 ∷ 0 ∷ 0 ∷ [])) (3 ∷ []) refl
    ∷ row ours (program (2 ∷ 0 ∷ 0 ∷ 0 ∷ 0 ∷ 1 ∷ 8 ∷ 1 ∷ 0 ∷ 0 ∷ 0 ∷ [])) (3 ∷ []) refl
    ∷ row ours (program (2 ∷ 0 ∷ 0 ∷ 0 ∷ 0 ∷ 1 ∷ 7 ∷ 1 ∷ 0 ∷ 0 ∷ 0 ∷ [])) (3 ∷ []) refl
    -- unjudged, stuck: extract of no header and of one that is no whole bytes
    ∷ row ours (program (2 ∷ 0 ∷ 1 ∷ 8 ∷ 0 ∷ 0 ∷ 1 ∷ 11 ∷ 0 ∷ 1 ∷ 0 ∷ 0 ∷ 0 ∷ 0 ∷ [])) (3 ∷ []) refl
    ∷ row ours (program (2 ∷ 1 ∷ 1 ∷ 4 ∷ 1 ∷ 128 ∷ 0 ∷ 0 ∷ 1 ∷ 11 ∷ 0 ∷ 1 ∷ 0 ∷ 0 ∷ 0 ∷ 0 ∷ 1 ∷ 7 ∷ [])) (3 ∷ []) refl
    -- unjudged, stuck: a select that is not bits, a value that does not fit, a state that is not later
    ∷ row ours (program (2 ∷ 0 ∷ 0 ∷ 0 ∷ 0 ∷ 2 ∷ 0 ∷ 4 ∷ 0 ∷ 1 ∷ 1 ∷ 0 ∷ 1 ∷ 0 ∷ 1 ∷ 0 ∷ 0 ∷ 0 ∷ [])) (3 ∷ []) refl
    ∷ row ours (program (2 ∷ 0 ∷ 0 ∷ 0 ∷ 0 ∷ 2 ∷ 0 ∷ 4 ∷ 1 ∷ 8 ∷ 7 ∷ 2 ∷ 7 ∷ 1 ∷ 256 ∷ 1 ∷ 0 ∷ 1 ∷ 0 ∷ 0 ∷ 0 ∷ [])) (3 ∷ []) refl
    ∷ row ours (program (2 ∷ 0 ∷ 0 ∷ 0 ∷ 0 ∷ 1 ∷ 0 ∷ 3 ∷ 0 ∷ 0 ∷ 0 ∷ 0 ∷ [])) (3 ∷ []) refl
    -- unjudged, only the state that is taken is asked
    ∷ row ours (program (2 ∷ 0 ∷ 0 ∷ 0 ∷ 0 ∷ 2 ∷ 0 ∷ 4 ∷ 1 ∷ 8 ∷ 7 ∷ 2 ∷ 8 ∷ 0 ∷ 7 ∷ 1 ∷ 0 ∷ 1 ∷ 0 ∷ 0 ∷ 0 ∷ [])) (1 ∷ 6 ∷ 0 ∷ []) refl
    -- ceilings of 1,000,000 and 1,000,001; 4,096 bytes, which fail at their version, and 4,097
    ∷ row paper (bench (dear 7)) (1 ∷ 3 ∷ 1000000 ∷ []) refl
    ∷ row paper (bench (dear 8)) (0 ∷ 9 ∷ 0 ∷ []) refl
    ∷ row paper (bytes (replicate 4096 0)) (0 ∷ 4 ∷ 0 ∷ []) refl
    ∷ row paper (bytes (replicate 4097 0)) (0 ∷ 1 ∷ 0 ∷ []) refl
    ∷ []
