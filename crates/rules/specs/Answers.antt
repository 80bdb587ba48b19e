-- What the public operations answer and leave in the slots lent to them (document 01, "The answers"). An answer is a
-- list of numbers: 0, a refusal's number and its place; or 1 (2 where a run ends by exit, 4 and the error where it ends
-- by a reject) and what is told. A stuck run would be 3, which is no answer. Answers depend on the bytes or numbers
-- given and on how many slots are lent: what the slots held occurs only in what is left.
use Rattle.std.specs.Prelude.{true, false, ◌&&◌, ℕ, List, [], ◌∷◌, ◌++◌, leb, length, drop, replicate, Result, Ok, Err}
use Rattle.rules.specs.declared.Reason.{Reason}
use Rattle.rules.specs.declared.Reason.TheVariants as reason
use Rattle.rules.specs.declared.Refusal.{Refusal}
use Rattle.rules.specs.declared.Acceptance.{Acceptance}
use Rattle.rules.specs.declared.Signal.{Signal}
use Rattle.rules.specs.declared.Signal.TheVariants.{Done, Exit, Reject}
use Rattle.rules.specs.declared.Finished.{Finished}
use Rattle.rules.specs.Numbers.{Stream, numbers, broken, stream_of, bytes_of, place_of}
use Rattle.rules.specs.Syntax.{Program}
use Rattle.rules.specs.Reading.{Got, got, bad, Reader, ◌>>=◌, pure, read_program}
use Rattle.rules.specs.Form.{Res, ok, fault, need, judge_program}
use Rattle.rules.specs.Ceiling.{most_steps, ceiling_of}
use Rattle.rules.specs.Lists.{Entry, Cell, read_entries, read_store, read_packet, nothing_left, slots_of}
use Rattle.rules.specs.Running.{Out, done, stuck, full, run_program}
use Rattle.rules.specs.Computing.{computed}

-- the numbers of the reasons
abbrev pub number_of : Reason → ℕ
number_of reason.Size = 1
number_of reason.CutOff = 2
number_of reason.Overlong = 3
number_of reason.Unlisted = 4
number_of reason.TooDeep = 5
number_of reason.Unnamed = 6
number_of reason.Type = 7
number_of reason.Form = 8
number_of reason.Ceiling = 9
number_of reason.Entries = 10
number_of reason.Store = 11
number_of reason.LeftOver = 12
number_of reason.Room = 13
number_of reason.Packet = 16

-- the cases of the answers in the paper's numbers
abbrev pub refusing : ℕ → ℕ → List ℕ
refusing number place = 0 ∷ number ∷ place ∷ []

unfoldable pub of_refusal : Refusal → List ℕ
of_refusal r = refusing (number_of r.reason) r.place

unfoldable pub of_read : Result ℕ Refusal → List ℕ
of_read (Ok count) = 1 ∷ count ∷ []
of_read (Err r) = of_refusal r

unfoldable pub of_write : Result ℕ Refusal → List ℕ
of_write (Ok length) = 1 ∷ length ∷ []
of_write (Err r) = of_refusal r

unfoldable pub of_judge : Result Acceptance Refusal → List ℕ
of_judge (Ok a) = 1 ∷ a.ceiling ∷ a.length ∷ []
of_judge (Err r) = of_refusal r

unfoldable pub of_signal : Signal → List ℕ
of_signal Done = 1 ∷ []
of_signal Exit = 2 ∷ []
of_signal (Reject error) = 4 ∷ error ∷ []

unfoldable pub of_run : Result Finished Refusal → List ℕ
of_run (Ok f) = of_signal f.signal ++ f.steps ∷ f.ceiling ∷ f.length ∷ []
of_run (Err r) = of_refusal r

-- so many slots or bytes are wanted and so many lent: the answer, or 13
unfoldable pub with_room : ℕ → ℕ → List ℕ → List ℕ
with_room wanted lent answer = elim (leb wanted lent) [ true ↦ answer | false ↦ refusing 13 0 ]

-- what slots hold that are to take a list: the list and, beyond it, what they held; with too few, what they held
unfoldable pub filled : List ℕ → List ℕ → List ℕ
filled ns slots = elim (leb (length ns) (length slots)) [ true ↦ ns ++ drop (length ns) slots | false ↦ slots ]

-- reading: 1 to 3 first, then 13
unfoldable pub read_stream : Stream → ℕ → List ℕ
read_stream (numbers ns) lent = with_room (length ns) lent (1 ∷ length ns ∷ [])
read_stream (broken number place) lent = refusing number place

unfoldable pub left_by_stream : Stream → List ℕ → List ℕ
left_by_stream (numbers ns) slots = filled ns slots
left_by_stream (broken number place) slots = slots

unfoldable pub read_says : List ℕ → ℕ → List ℕ
read_says bytes lent = read_stream (stream_of bytes) lent

unfoldable pub read_leaves : List ℕ → List ℕ → List ℕ
read_leaves bytes slots = left_by_stream (stream_of bytes) slots

-- writing
unfoldable pub write_says : List ℕ → ℕ → List ℕ
write_says ns lent = with_room (length (bytes_of ns)) lent (1 ∷ length (bytes_of ns) ∷ [])

unfoldable pub write_leaves : List ℕ → List ℕ → List ℕ
write_leaves ns bytes = filled (bytes_of ns) bytes

-- the judge: the checks in their order
pub record Bench : Type 0 where
  pub program : Program
  pub entries : List Entry
  pub store : List Cell
  pub packet : List ℕ

unfoldable pub checked : {A : Type 0} → Res A → Reader A
checked (ok a) left at = got a left at
checked (fault number index) left at = bad number index

unfoldable pub judging_program : Program → Reader Bench
judging_program program = do
  formed ← checked (judge_program program)
  bounded ← checked (need 9 0 (leb (ceiling_of program) most_steps))
  entries ← read_entries true program
  store ← read_store program
  packet ← read_packet program
  ended ← nothing_left
  pure (record { program = program; entries = entries; store = store; packet = packet })

unfoldable pub judging : Reader Bench
judging = read_program >>= λ program. judging_program program

pub data Judged : Type 0 where
  accepted : Bench → Judged
  refused : ℕ → ℕ → Judged

-- a fault's index becomes the place of that number
unfoldable pub placed : List ℕ → Got Bench → Judged
placed bytes (got bench left at) = accepted bench
placed bytes (bad number index) = refused number (place_of bytes index)

unfoldable pub judged_stream : List ℕ → Stream → Judged
judged_stream bytes (numbers ns) = placed bytes (judging ns 0)
judged_stream bytes (broken number place) = refused number place

unfoldable pub judged : List ℕ → Judged
judged bytes = judged_stream bytes (stream_of bytes)

unfoldable pub told_by_judge : Judged → List ℕ
told_by_judge (accepted bench) = 1 ∷ ceiling_of bench.program ∷ length (slots_of bench.store) ∷ []
told_by_judge (refused number place) = refusing number place

unfoldable pub judge_says : List ℕ → List ℕ
judge_says bytes = told_by_judge (judged bytes)

-- how a run comes out: refused; ended, with steps, ceiling and the store's numbers; full, which is 14; stuck
pub data Outcome : Type 0 where
  refusal : ℕ → ℕ → Outcome
  ended : Signal → ℕ → ℕ → List ℕ → Outcome
  fills sticks : Outcome

unfoldable pub outcome_of : ℕ → Out (List Cell) Signal → Outcome
outcome_of ceiling (done signal store seen) = ended signal (length seen) ceiling (slots_of store)
outcome_of ceiling stuck = sticks
outcome_of ceiling full = fills

unfoldable pub run_bench : ℕ → Bench → Outcome
run_bench capacity bench =
    outcome_of (ceiling_of bench.program)
    (run_program capacity bench.program bench.entries bench.store bench.packet)

-- the working slots that a run asks for, and the first so many of which it leaves at 0
abbrev pub working_slots : ℕ
working_slots = 8192

-- with so many result and working slots lent: 13 comes behind the judge's refusals
unfoldable pub run_with : ℕ → ℕ → ℕ → Judged → Outcome
run_with capacity results working (refused number place) = refusal number place
run_with capacity results working (accepted bench) =
    elim (leb capacity working && leb (length (slots_of bench.store)) results) [
      | true ↦ run_bench capacity bench
      | false ↦ refusal 13 0
    ]

-- an outcome in numbers, with what is told of the store
unfoldable pub told_with : (List ℕ → List ℕ) → Outcome → List ℕ
told_with of_store (refusal number place) = refusing number place
told_with of_store (ended signal steps ceiling store) = of_signal signal ++ steps ∷ ceiling ∷ of_store store
told_with of_store fills = refusing 14 0
told_with of_store sticks = 3 ∷ []

-- a run answers the store's length; a result has the store
unfoldable pub told_by_run : Outcome → List ℕ
told_by_run = told_with λ store. length store ∷ []

unfoldable pub numbers_of : Outcome → List ℕ
numbers_of = told_with λ store. store

-- the result slots take the store of a finished run
unfoldable pub results_after : Outcome → List ℕ → List ℕ
results_after (refusal number place) results = results
results_after (ended signal steps ceiling store) results = filled store results
results_after fills results = results
results_after sticks results = results

-- a finished run and 14 zero the working slots
unfoldable pub cleared : ℕ → List ℕ → List ℕ
cleared capacity working = replicate capacity 0 ++ drop capacity working

unfoldable pub working_after : ℕ → Outcome → List ℕ → List ℕ
working_after capacity (refusal number place) working = working
working_after capacity (ended signal steps ceiling store) working = cleared capacity working
working_after capacity fills working = cleared capacity working
working_after capacity sticks working = working

unfoldable pub run_outcome : List ℕ → ℕ → ℕ → Outcome
run_outcome bytes results working = run_with working_slots results working (judged bytes)

unfoldable pub run_says : List ℕ → ℕ → ℕ → List ℕ
run_says bytes results working = told_by_run (run_outcome bytes results working)

unfoldable pub run_leaves_results : List ℕ → List ℕ → ℕ → List ℕ
run_leaves_results bytes results working = results_after (run_outcome bytes (length results) working) results

unfoldable pub run_leaves_working : List ℕ → ℕ → List ℕ → List ℕ
run_leaves_working bytes results working = working_after working_slots (run_outcome bytes results (length working)) working

-- a file's result by these rules, as the marking program has it: with all the slots that it asks for
unfoldable pub file_outcome : ℕ → Judged → Outcome
file_outcome capacity (accepted bench) = run_bench capacity bench
file_outcome capacity (refused number place) = refusal number place

-- the running rules alone, with 1 to 5 asked: entries are cut out of the numbers, a store and a packet are read that
-- fit, and what is left over does not matter; where one cannot be had the run is stuck from the start; 0 stands for the
-- ceiling
unfoldable pub cutting : Program → Reader Bench
cutting program = do
  entries ← read_entries false program
  store ← read_store program
  packet ← read_packet program
  pure (record { program = program; entries = entries; store = store; packet = packet })

unfoldable pub run_cut : ℕ → Got Bench → Outcome
run_cut capacity (got bench left at) =
    outcome_of 0 (run_program capacity bench.program bench.entries bench.store bench.packet)
run_cut capacity (bad number index) = sticks

unfoldable pub run_read : ℕ → List ℕ → Got Program → Outcome
run_read capacity bytes (got program left at) = run_cut capacity (cutting program left at)
run_read capacity bytes (bad number index) = refusal number (place_of bytes index)

unfoldable pub run_stream : ℕ → List ℕ → Stream → Outcome
run_stream capacity bytes (numbers ns) = run_read capacity bytes (read_program ns 0)
run_stream capacity bytes (broken number place) = refusal number place

-- what a file gives, and what its program gives unjudged; whoever unfolds one of them computes
unfoldable pub marked : List ℕ → List ℕ
unfolding computed checked judging_program judging placed judged_stream judged outcome_of run_bench file_outcome told_with numbers_of of_signal
marked bytes = numbers_of (file_outcome working_slots (judged bytes))

unfoldable pub unjudged : List ℕ → List ℕ
unfolding computed cutting run_cut run_read run_stream outcome_of told_with numbers_of of_signal
unjudged bytes = numbers_of (run_stream working_slots bytes (stream_of bytes))
