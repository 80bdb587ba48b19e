-- From an accepted file to its run, and from the run's slots to what the rules say and leave.
use Rattle.std.specs.Prelude.{Result, Ok, Err}
use mathlib.Core.Bool.{Bool, true, false, ◌&&◌}
use mathlib.Core.Path.{◌≡◌, refl, sym, ◌∙◌}
use mathlib.Core.List.{List, [], ◌∷◌, ◌++◌}
use Prim.Native.Nat.{ℕ, ◌+◌, ◌-◌, ◌*◌, ◌≤◌, ◌<◌, ◌^◌}
use native.Mathlib.Omega.{arith}
use lib.Dec.{leb}
use lib.ListN.{length, drop, replicate, length-replicate, get_or-replicate}
use borrow.Author.Tests.{le-leb, lt-leb}
use borrow.Rule.Slice.PartMut.{put_mid, mid_of, mid_len, same_len_mid}
use Rattle.rules.specs.declared.Signal.{Signal}
use Rattle.rules.specs.declared.Refusal.{Refusal}
use Rattle.rules.specs.declared.Reason.TheVariants.{Room}
use Rattle.rules.specs.declared.Fault.{Fault}
use Rattle.rules.specs.declared.Finished.{Finished}
use Rattle.rules.specs.Numbers.{numbers, stream_of}
use Rattle.rules.specs.Syntax.{Program}
use Rattle.rules.specs.Ceiling.{most_steps, ceiling_of}
use Rattle.rules.specs.Lists.{Entry, Cell, slots_of}
use Rattle.rules.specs.Running.{Out, full}
use Rattle.rules.specs.Answers.{number_of, Bench, of_refusal, of_signal, of_judge, of_run, judge_says, told_by_judge, filled, Judged, accepted, refused, placed, judged_stream, judged, refusal, ended, outcome_of, run_bench, working_slots, run_with, told_with, told_by_run, results_after, cleared, working_after, run_outcome, run_says, run_leaves_results, run_leaves_working}
use Rattle.rules.proofs.Fits.{store_length}
use Rattle.rules.proofs.Accepted as accepts
use Rattle.rules.proofs.Accepted.{BenchOk, judged-ok, Ends, accepted-ends}
use Rattle.rules.proofs.Room.{accepted-not-full}
use Rattle.rules.specs.Reading.{Got, got, bad, has_parser, read_program}
use Rattle.shape.specs.Scans.{forget, scan_of}
use Rattle.shape.specs.Ends.{ends_left, ScansProgram}
use Rattle.shape.specs.Scans.{Past}
use Rattle.shape.proofs.Lines.{scan-long}
use Rattle.numbers.specs.Parts.{Roomy}
use Rattle.numbers.specs.Promises.{Reads}
use Rattle.judge.specs.declared.Verdict.{Verdict}
use Rattle.judge.specs.Verdicts.{JudgesNumbers}
use Rattle.judge.proofs.Left.{Leaves, accepted-leaves}
use Rattle.judge.proofs.Long.{judged-long}
use Rattle.lookup.proofs.Judged.{entries-stand}
use Rattle.lists.specs.Stands.{StandsPacket}
use Rattle.store.specs.Mirrors as mirrors
use Rattle.store.specs.Mirrors.{counter_slot, most_stored, store_slots}
use Rattle.store.proofs.Sizes.{store-most}
use Rattle.store.specs.Fills.{AsksClear, Clears, AsksCopy, Copies}
use Rattle.steps.specs.Outcomes.{Goes, goes, counter_of}
use Rattle.runner.specs.Prepares.{AsksPrepare, Prepares}
use Rattle.runner.proofs.Prepared.{program-kept, offsets-laid, tables-laid}
use Rattle.runner.specs.Whole.{Ready, program_run, AsksRun, RanWhole, RunsWhole}
use Rattle.bench.specs.Runs.{RunsFile, refusal_at, Passed, AsksAccepted, RunsAccepted, AsksLent}
use Rattle.bench.proofs.Judging.{numbers-few, numbers-refused, read-refused}
use Rattle.bench.proofs.Lent.{first-filled, behind-part}

-- an accepted file is accepted by the rules, and its run goes on to an end
goes_of : (P : Program) (o : Out (List Cell) Signal) → Ends P o → (o ≡ full → ⊥) → ceiling_of P ≤ most_steps → Goes 0 o
goes_of P o (accepts.ends signal cells seen q f) n b = goes {seen = seen} (omega (arith, q, b))
goes_of P o accepts.fills n b = absurd (n refl)

told-four : (x : List ℕ) {a b c a' b' c' : ℕ} → a ≡ a' → b ≡ b' → c ≡ c'
    → x ++ a ∷ b ∷ c ∷ [] ≡ x ++ a' ∷ b' ∷ c' ∷ []
told-four x e f g = rw (e, f, g) refl

module _ {bytes nums directory ends : List ℕ} {ceiling store size : ℕ}
    (p : Passed bytes nums directory ends ceiling store size) where
  abbrev P : Program
  P = p.leaves.program

  abbrev es : List Entry
  es = p.leaves.lists.entry_list

  abbrev cells : List Cell
  cells = p.leaves.lists.cells

  abbrev packet : List ℕ
  packet = p.leaves.lists.packet

  abbrev file : Bench
  file = record { program = P; entries = es; store = cells; packet = packet }

  judged-is : judged bytes ≡ accepted file
  unfolding judged judged_stream placed
  judged-is = rw (p.reads, p.leaves.judged) refl

  known : BenchOk file
  known = judged-ok bytes file judged-is

  run-goes : Goes 0 (program_run P es cells packet)
  run-goes = goes_of P (program_run P es cells packet) (accepted-ends working_slots bytes file judged-is)
      (accepted-not-full bytes file judged-is) known.bounded

  -- a program with states has a parser, and so its packet is all that is left behind the packet's count
  unread : (P.states ≡ [] → ⊥) → mirrors.Unread nums (store + size + 1) packet
  unread n = go (has_parser P.version) refl
    where
      go : (b : Bool) → has_parser P.version ≡ b → mirrors.Unread nums (store + size + 1) packet
      go true e =
          let stands : StandsPacket nums (store + size) packet = p.leaves.lists.packet_stands e in
          record { inside = omega (arith, stands.count.inside); is = stands.rest }
      go false e = absurd (n (known.limited.parserless e))

  ready : (slots frame : List ℕ) → length slots ≡ store_slots → size + length frame ≡ working_slots
      → Ready nums directory ends slots frame store size P es cells packet
  ready slots frame n r = record {
    end = p.leaves.end;
    stands = program-kept p.prepared p.leaves.stands;
    offset = offsets-laid p.prepared p.leaves.stands.globals.few (record {
      is = λ g h.
          let first : 0 + g ≡ g = omega arith in
          rw first (p.leaves.lists.offset g h);
    });
    tables = tables-laid p.prepared p.leaves.stands p.leaves.formed (entries-stand p.leaves.lists)
        p.leaves.lists.count p.leaves.lists.few p.leaves.wide;
    fits = known.store-fits;
    numbers = p.leaves.lists.stands;
    sized = p.leaves.lists.size_is;
    count = n;
    room = r;
    unread = unread;
  }

  -- too few slots
  few-outcome : (results working : ℕ) → (leb working_slots working && leb (length (slots_of cells)) results) ≡ false
      → run_outcome bytes results working ≡ refusal 13 0
  unfolding run_outcome run_with
  few-outcome results working e = rw (judged-is, run_with, e) refl

  few-runs : (results working : List ℕ)
      → (leb working_slots (length working) && leb (length (slots_of cells)) (length results)) ≡ false
      → RunsFile bytes results results working working (Err (record { reason = Room; place = 0 }))
  unfolding of_run of_refusal run_says run_leaves_results run_leaves_working told_by_run told_with results_after working_after
  few-runs results working e =
      let o = few-outcome (length results) (length working) e in
      record { says = rw o refl; results_are = rw o refl; working_are = rw o refl }

  -- enough of them
  module _ {signal : Signal} (slots : List ℕ) (r : RanWhole slots P (program_run P es cells packet) signal) where
    size-is : size ≡ length (slots_of r.cells)
    size-is = p.leaves.lists.size_is ∙ store_length P cells r.cells known.store-fits r.fits

    run-outcome : (results working : ℕ) → working_slots ≤ working → size ≤ results
        → run_outcome bytes results working
        ≡ ended signal (length r.seen) (ceiling_of P) (slots_of r.cells)
    unfolding run_outcome run_with run_bench outcome_of
    run-outcome results working w s =
        let one : leb working_slots working ≡ true = le-leb working_slots working w in
        let two : leb (length (slots_of cells)) results ≡ true
        = le-leb (length (slots_of cells)) results (omega (arith, s, p.leaves.lists.size_is)) in
        rw (judged-is, run_with, one, two, r.is) refl

    run-told : (results results' working working' : List ℕ) (steps : ℕ) → working_slots ≤ length working
        → size ≤ length results → steps ≡ counter_of slots
        → results' ≡ slots_of r.cells ++ drop (length (slots_of r.cells)) results
        → working' ≡ replicate working_slots 0 ++ drop working_slots working
        → RunsFile bytes results results' working working' (Ok (record { signal = signal; steps = steps; ceiling = ceiling; length = size }))
    unfolding of_run run_says run_leaves_results run_leaves_working told_by_run told_with results_after working_after filled cleared
    run-told results results' working working' steps w s n a b =
        let o = run-outcome (length results) (length working) w s in
        let few : leb (length (slots_of r.cells)) (length results) ≡ true
        = le-leb (length (slots_of r.cells)) (length results) (omega (arith, s, size-is)) in
        let counted : steps ≡ length r.seen = n ∙ r.counted in
        record {
          says = rw o (told-four (of_signal signal) counted p.leaves.ceiling_is size-is);
          results_are = rw (o, few, filled) a;
          working_are = rw o b;
        }

  size-most : size ≤ most_stored
  size-most = omega (
    arith,
    p.leaves.lists.size_is,
    store-most nums p.parts ends P p.leaves.end
        p.leaves.stands cells known.store-fits,
  )

-- the run with all slots lent: frames behind the store's length
module _ (nums directory ends results working : List ℕ) (ceiling store size : ℕ) where
  abbrev frames : List ℕ
  frames = mid_of size (working_slots - size) working

  module _ (a : AsksLent nums directory ends results working ceiling store size) where
    small : size ≤ most_stored
    small = size-most a.asks.passed

    frames-room : size + length frames ≡ working_slots
    frames-room = omega (arith, mid_len size working_slots working a.frames, small)

    pub lent-asks : (slots frame : List ℕ) → slots ≡ replicate 546 0 → frame ≡ frames
        → AsksRun nums directory ends slots frame store size
    lent-asks slots frame e q = rw (e, q) (record {
      program = P a.asks.passed;
      entry_list = es a.asks.passed;
      cells = cells a.asks.passed;
      packet = packet a.asks.passed;
      ready = ready a.asks.passed (replicate 546 0) frames refl frames-room;
      going = run-goes a.asks.passed;
    })

    pub lent-scaled : size * 8 < 2 ^ 64
    lent-scaled = omega (arith, small)

    pub lent-up : size ≤ working_slots
    lent-up = omega (arith, small)

    pub lent-whole : working_slots ≤ length working
    lent-whole = a.frames

    module _ (slots : List ℕ) (signal : Signal)
        (r : RunsWhole nums directory ends (replicate 546 0) slots frames store size signal) where
      ran : {bytes : List ℕ} (p : Passed bytes nums directory ends ceiling store size)
          → RanWhole slots (P p) (program_run (P p) (es p) (cells p) (packet p)) signal
      ran p = r.runs (P p) (es p) (cells p) (packet p) (ready p (replicate 546 0) frames refl frames-room) (run-goes p)

      pub lent-copies : AsksCopy slots results 0 size
      lent-copies = record {
        numbers = omega (arith, (ran a.asks.passed).store.count);
        inside = λ i l. omega (arith, (ran a.asks.passed).store.count, small);
        room = a.room;
      }

      pub lent-count : length slots ≡ 546
      lent-count = (ran a.asks.passed).store.count

      pub lent-counter : counter_slot < length slots
      lent-counter = omega (arith, (ran a.asks.passed).store.count)

      module _ (part working₁ : List ℕ) (same : length part ≡ length frames)
          (e : working₁ ≡ put_mid size (working_slots - size) working part) where
        working-long : length working₁ ≡ length working
        working-long = rw e (same_len_mid size (working_slots - size) working part same)

        pub lent-clears : AsksClear working₁ 0 working_slots
        lent-clears = record { up = omega arith; most = omega (arith, working-long, a.frames) }

        module _ (results' working' : List ℕ) (c : Copies slots results results' 0 size)
            (z : Clears working₁ working' 0 working_slots) where
          working-is : working' ≡ replicate working_slots 0 ++ drop working_slots working
          working-is = first-filled working_slots (replicate working_slots 0) working working'
              (length-replicate {A = ℕ} working_slots 0) a.frames (omega (arith, z.same, working-long))
              (λ i l. z.inside i (omega arith) l ∙ sym (get_or-replicate working_slots i 0 0 l))
              λ i l. z.behind i l
              ∙ rw e (behind-part size working_slots working part (omega (arith, small)) a.frames same i l)

          results-are : {bytes : List ℕ} (p : Passed bytes nums directory ends ceiling store size)
              → results' ≡ slots_of (ran p).cells ++ drop (length (slots_of (ran p).cells)) results
          results-are p = first-filled (length (slots_of (ran p).cells)) (slots_of (ran p).cells) results results' refl
              (omega (arith, size-is p slots (ran p), a.room)) c.same
              (λ i l.
              let first : 0 + i ≡ i = omega arith in
              c.copied i (omega (arith, size-is p slots (ran p))) ∙ rw first ((ran p).store.is i l))
              λ i l. c.behind i (omega (arith, size-is p slots (ran p)))

          pub lent_runs : (steps : ℕ) → steps ≡ counter_of slots
              → RunsAccepted nums directory ends results results' working working' ceiling store
              size (Ok (record { signal = signal; steps = steps; ceiling = ceiling; length = size }))
          lent_runs steps n = record {
            runs = λ bytes p. run-told p slots (ran p) results results' working working' steps a.frames a.room n
                (results-are p) working-is;
          }

pub ruleset lents = (lent-asks, lent-scaled, lent-up, lent-whole, lent-copies, lent-count, lent-counter, lent-clears, lent_runs)

-- whether the slots are enough
module _ (nums directory ends results working : List ℕ) (ceiling store size : ℕ) where
  pub few-working : length working < working_slots
      → RunsAccepted nums directory ends results results working working ceiling store size
      (Err (record { reason = Room; place = 0 }))
  few-working h = record {
    runs = λ bytes p. few-runs p results working (rw (lt-leb working_slots (length working) h) refl);
  }

  pub few-results : working_slots ≤ length working → length results < size
      → RunsAccepted nums directory ends results results working working ceiling store size
      (Err (record { reason = Room; place = 0 }))
  few-results w h = record {
    runs = λ bytes p.
        let few : leb (length (slots_of (cells p))) (length results) ≡ false
        = lt-leb (length (slots_of (cells p))) (length results) (omega (arith, h, p.leaves.lists.size_is)) in
        few-runs p results working (rw (le-leb working_slots (length working) w, few) refl);
  }

  pub enough : AsksAccepted nums directory ends ceiling store size
      → working_slots ≤ length working → size ≤ length results
      → AsksLent nums directory ends results working ceiling store size
  enough a w s = record { asks = a; frames = w; room = s }

pub ruleset rooms = (few-working, few-results, enough)

-- a file that is refused
refused-is : (number place : ℕ) (j : Judged) → 0 ∷ number ∷ place ∷ [] ≡ told_by_judge j → j ≡ refused number place
unfolding told_by_judge
refused-is number place (accepted b) e = let z : ◌≡◌ {A = ℕ} 0 1 = cc in absurd (omega arith)
refused-is number place (refused n p) e = cc

refused-runs : (bytes results working : List ℕ) (x : Refusal) → of_judge (Err x) ≡ judge_says bytes
    → RunsFile bytes results results working working (Err x)
unfolding of_judge of_refusal of_run judge_says run_outcome run_with run_says run_leaves_results run_leaves_working told_by_run told_with results_after working_after
refused-runs bytes results working x e =
    let j : judged bytes ≡ refused (number_of x.reason) x.place = refused-is (number_of x.reason) x.place (judged bytes) e in
    record { says = rw j refl; results_are = rw j refl; working_are = rw j refl }

pub unread-runs : (bytes slots results working : List ℕ) (r : Result ℕ Refusal) (left : List ℕ) → Reads bytes slots r left
    → Roomy bytes (length slots) → (x : Refusal) → r ≡ Err x
    → RunsFile bytes results results working working (Err x)
unread-runs bytes slots results working r left p room x e =
    refused-runs bytes results working x (read-refused bytes slots r left p room x e)

-- the judge's verdict on the numbers
module _ (bytes nums results working : List ℕ) (reads : stream_of bytes ≡ numbers nums)
    (directory ends widths entries offsets : List ℕ) (v : Result Verdict Fault)
    (j : JudgesNumbers nums (replicate 217 0) directory (replicate 4096 0) ends (replicate 32 0) widths (replicate 65 0)
    entries (replicate 33 0) offsets v) where
  -- the ends have as many slots as they had
  pub verdict-ends : length ends ≡ 4096
  unfolding scan_of forget ends_left
  verdict-ends = go (read_program nums 0) refl
    where
      go : (x : Got Program) → read_program nums 0 ≡ x → length ends ≡ 4096
      go (got p left end) q =
          let w : ScansProgram nums (replicate 217 0) directory (replicate 4096 0) ends (Past end)
          = record { answer = rw q refl; parts = j.directory_is; laid = j.ends_are } in
          scan-long nums (replicate 217 0) directory (replicate 4096 0) ends (Past end) p left end w q
      go (bad number index) q =
          let e : ends ≡ replicate 4096 0 = rw q at j.ends_are in
          rw e refl

  pub verdict-refused : (fault : Fault) (x : Refusal) → v ≡ Err fault → x ≡ refusal_at bytes fault
      → RunsFile bytes results results working working (Err x)
  verdict-refused fault x e q = refused-runs bytes results working x
      (numbers-refused bytes nums reads (replicate 217 0) directory (replicate 4096 0) ends (replicate 32 0) widths
      (replicate 65 0) entries (replicate 33 0) offsets v j fault x e q)

  module _ (a : Verdict) (e : v ≡ Ok a) where
    leaves : Leaves nums directory ends widths entries offsets a.ceiling a.store a.length
    leaves = accepted-leaves nums (replicate 217 0) directory (replicate 4096 0) ends (replicate 32 0) widths
        (replicate 65 0) entries (replicate 33 0) offsets a (rw e at j) (record {
          lent = record { few = numbers-few bytes nums reads; slots = refl; room = refl };
          keys = refl;
        }) refl refl

    passes : (ready : List ℕ) → Prepares offsets entries widths directory ready
        → Passed bytes nums ready ends a.ceiling a.store a.length
    passes ready q = record {
      reads = reads;
      parts = directory;
      offsets = offsets;
      entries = entries;
      widths = widths;
      leaves = leaves;
      prepared = q;
    }

    pub verdict-prepares : AsksPrepare offsets entries widths directory
    verdict-prepares =
        let long = judged-long j in
        record {
          globals = long.globals;
          entry = long.entry;
          keys = long.keys;
          slots = leaves.stands.slots;
        }

    module _ (ready : List ℕ) (q : Prepares offsets entries widths directory ready) where
      pub verdict-accepted : AsksAccepted nums ready ends a.ceiling a.store a.length
      verdict-accepted = record { bytes = bytes; passed = passes ready q }

      pub verdict-runs : (results' working' : List ℕ) (r : Result Finished Refusal)
          → RunsAccepted nums ready ends results results' working working' a.ceiling a.store a.length r
          → RunsFile bytes results results' working working' r
      verdict-runs results' working' r k = k.runs bytes (passes ready q)

pub ruleset runs = (unread-runs, numbers-few, verdict-ends, verdict-refused, verdict-prepares, verdict-accepted, verdict-runs)
