-- What is true of the rules, on one page: each statement is proved by one citation.
use mathlib.Core.Path.{◌≡◌, sym, ◌∙◌}
use Prim.Native.Nat.{ℕ, ◌<◌, ◌≤◌, ◌^◌}
use mathlib.Core.Bool.{true}
use mathlib.Core.Option.{some}
use mathlib.Core.List.{List, [], ◌∷◌}
use lib.ListN.{length}
use Rattle.std.specs.Prelude.{Result}
use Rattle.rules.specs.declared.Refusal.{Refusal}
use Rattle.rules.specs.declared.Acceptance.{Acceptance}
use Rattle.rules.specs.declared.Finished.{Finished}
use Rattle.rules.specs.Numbers.{most_bytes, numbers, stream_of, bytes_of}
use Rattle.rules.specs.Syntax.{Program}
use Rattle.rules.specs.Ceiling.{callee_in, ceilings_below, ceiling_of}
use Rattle.rules.specs.Form.{a_header}
use Rattle.rules.specs.Lists.{Cell, header_cell, slots_of}
use Rattle.rules.specs.Running.{State, rejected, done, full, short_packet, bits_of_bytes, fields_from, fill_header, bytes_in, extract_into, calls_below, run_program}
use Rattle.rules.specs.Answers.{of_read, of_write, of_judge, of_run, read_says, write_says, judge_says, run_says, Bench, judged, accepted, working_slots, marked}
use Rattle.rules.proofs.Predicates.{All2}
use Rattle.rules.proofs.Fits.{FitWidth, CellFits, StoreFits, filled-fits, filled-valid, store_length}
use Rattle.rules.proofs.Sound.{CallsOk}
use Rattle.rules.proofs.Parsers.{short-changes-nothing}
use Rattle.rules.proofs.Callables.{AllJudged, calls-below}
use Rattle.rules.proofs.Accepted.{Ends, accepted-ends, never_stuck, Answered, judge-answers}
use Rattle.rules.proofs.Limits.{most_slots}
use Rattle.rules.proofs.Room.{accepted-same, accepted-not-full}
use Rattle.rules.proofs.Codec.{Below, read-write, write-one-form, write-below}
use Rattle.rules.proofs.Same.{read_same, write_same, judge-same, run-same}

-- Demand 1. Every file is accepted, or refused with a number from 1 to 12 or 16 at a place within it (`Answered` of Accepted).
pub every-file : (bytes : List ℕ) → Answered bytes (judged bytes)
every-file = judge-answers

-- Demand 3. A file that the judge accepts is not stuck: its run is done, exit or reject, within the ceiling, and in the final store every field
-- and variable fits its declared type and a header marked invalid has only zeros (`Ends`, with `StoreFits` of Fits); or it is full.
pub sound : (capacity : ℕ) (bytes : List ℕ) (bench : Bench) → judged bytes ≡ accepted bench
    → Ends bench.program (run_program capacity bench.program bench.entries bench.store bench.packet)
sound = accepted-ends

pub result-not-stuck : (bytes : List ℕ) → marked bytes ≡ 3 ∷ [] → ⊥
result-not-stuck = never_stuck

-- Nor is it full: a store has at most 544 numbers, at most 16 calls are open at once, and each takes at most 16 slots.
pub never-full : (bytes : List ℕ) (bench : Bench) → judged bytes ≡ accepted bench
    → run_program working_slots bench.program bench.entries bench.store bench.packet ≡ full → ⊥
never-full = accepted-not-full

-- With these 800 slots (`most_slots` of Limits) or more, how many there are makes no difference.
pub same-with-room : (capacity another : ℕ) → most_slots ≤ capacity → most_slots ≤ another → (bytes : List ℕ)
    (bench : Bench) → judged bytes ≡ accepted bench
    → run_program capacity bench.program bench.entries bench.store bench.packet
    ≡ run_program another bench.program bench.entries bench.store bench.packet
same-with-room = accepted-same

-- Stores that fit one program, as the first and the last of a run do, have as many numbers.
pub as-many-numbers : (P : Program) (cs ds : List Cell) → StoreFits P cs → StoreFits P ds
    → length (slots_of cs) ≡ length (slots_of ds)
as-many-numbers = store_length

-- Extract: a header that is filled is valid and its fields fit; a packet that is too short changes no header, and rejects with 1.
pub extract-fills : {widths : List ℕ} {c : Cell} (packet : List ℕ) → CellFits (a_header widths) c
    → (fill_header (fields_from widths (bits_of_bytes packet)) c
    ≡ some (header_cell true (fields_from widths (bits_of_bytes packet))))
    × All2 FitWidth widths (fields_from widths (bits_of_bytes packet))
extract-fills {widths} packet h = (filled-valid (fields_from widths (bits_of_bytes packet)) h, filled-fits widths packet)

pub short-packet : (g : ℕ) (widths : List ℕ) (s : State) → length s.packet < bytes_in widths
    → extract_into g widths s ≡ done (rejected short_packet) s []
short-packet = short-changes-nothing

-- Inside a run: a call on numbers that fit its parameters keeps every parameter and local within its type, a function's body returns a
-- value of its type, and it takes at most its ceiling (`CallsOk` of Sound).
pub calls-sound : (capacity : ℕ) (P : Program) → AllJudged P 0 P.callables → (n : ℕ)
    → CallsOk P n (calls_below capacity P n) (callee_in (ceilings_below P n))
calls-sound = calls-below

-- The ceiling is a function of the program alone: no entry and no store occurs in its type.
pub ceiling : Program → ℕ
ceiling = ceiling_of

-- Demand 2, numbers: what is written reads back; a list has one byte form; written bytes are bytes.
pub written-reads : (ns : List ℕ) → Below (2 ^ 64) ns → 0 < length (bytes_of ns) → length (bytes_of ns) ≤ most_bytes
    → stream_of (bytes_of ns) ≡ numbers ns
written-reads = read-write

pub one_form : (x y ns : List ℕ) → Below 256 x → Below 256 y → stream_of x ≡ numbers ns → stream_of y ≡ numbers ns → x ≡ y
one_form = write-one-form

pub written-bytes : (ns : List ℕ) → Below (2 ^ 64) ns → Below 256 (bytes_of ns)
written-bytes = write-below

-- Two answers that a promise allows are equal, for every input; what is left in the slots is a function of the input by its type.
pub read-determined : (bytes : List ℕ) (lent : ℕ) (a b : Result ℕ Refusal) → of_read a ≡ read_says bytes lent
    → of_read b ≡ read_says bytes lent → a ≡ b
read-determined bytes lent a b e q = read_same a b (e ∙ sym q)

pub write-determined : (ns : List ℕ) (lent : ℕ) (a b : Result ℕ Refusal) → of_write a ≡ write_says ns lent
    → of_write b ≡ write_says ns lent → a ≡ b
write-determined ns lent a b e q = write_same a b (e ∙ sym q)

pub judge-determined : (bytes : List ℕ) (a b : Result Acceptance Refusal) → of_judge a ≡ judge_says bytes → of_judge b ≡ judge_says bytes
    → a ≡ b
judge-determined bytes a b e q = judge-same a b (e ∙ sym q)

pub run-determined : (bytes : List ℕ) (results working : ℕ) (a b : Result Finished Refusal) → of_run a ≡ run_says bytes results working
    → of_run b ≡ run_says bytes results working → a ≡ b
run-determined bytes results working a b e q = run-same a b (e ∙ sym q)
