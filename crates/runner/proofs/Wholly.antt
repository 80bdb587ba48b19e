-- The whole run: the store is copied, the parser runs and, where it goes on, the apply body; the ending is the signal.
use Rattle.program.specs.declared.Scope as coded
use mathlib.Core.Bool.{Bool, true, false}
use mathlib.Core.Path.{◌≡◌, refl, ◌∙◌, sym, ap}
use mathlib.Core.List.{List, []}
use Prim.Native.Nat.{ℕ, ◌+◌, ◌<◌}
use native.Mathlib.Omega.{arith}
use lib.ListN.{length, get_or, set}
use lib.Seq.{get_or-set_same}
use Rattle.rules.specs.declared.Signal.{Signal}
use Rattle.rules.specs.declared.Signal.TheVariants.{Done, Exit, Reject}
use Rattle.rules.specs.Syntax.{Program}
use Rattle.rules.specs.Form.{is_apply, apply_scope, state_scope}
use Rattle.rules.specs.Lists.{Entry, Cell, slots_of}
use Rattle.rules.specs.Running.{State, Ending, Seen, Out, done, stuck, full, M, ◌>>=◌, and_then_run, signal_of, finish, started, run_program}
use Rattle.program.proofs.Seen.{apply_slots, apply-scope}
use Rattle.store.specs.Mirrors.{counter_slot, Unread}
use Rattle.store.specs.Fills.{AsksCopy, Copies}
use Rattle.store.proofs.Scenes.{start-copies, scene-start}
use Rattle.steps.specs.declared.Ended.{Ended}
use Rattle.steps.specs.declared.Ended.TheVariants.{Onward, Returned, ReturnedValue, Exited, Rejected}
use Rattle.steps.specs.Outcomes.{Goes, goes, counter_of, Ran, Ends, ends-onward, ends-returned, ends-value, ends-exited, ends-rejected}
use Rattle.steps.proofs.Going.{Begun, gone, not_stuck, not_full, then-goes, ran-here, ran_then}
use Rattle.runner.specs.Runs.{calls_of, applied_in, stmt_in, Stage}
use Rattle.runner.specs.Claims.{AsksStmt, RunsStmt}
use Rattle.runner.specs.Parsing.{parser_in, TellsOn, AsksParser, RunsParser}
use Rattle.runner.specs.Whole.{Ready, program_run, AsksRun, RanWhole, RunsWhole, TellsSignal}
use Rattle.runner.proofs.Stages.{stage-ran, going-rest}
use Rattle.runner.proofs.Blocks.{onward-is}
use Rattle.runner.proofs.Blocks.{stops-is}
use Rattle.runner.proofs.Entering.{onward-goes}

-- the signal
signal-told : (ended : Ended) (ending : Ending) → Ends ended ending → (r : Ended) → ended ≡ r → (x : Signal)
    → ((e : Ending) → Ends r e → x ≡ signal_of e) → x ≡ signal_of ending
signal-told ended ending h r e x k = k ending (rw e at h)

onward-signal : (e : Ending) → Ends Onward e → Done ≡ signal_of e
unfolding signal_of
onward-signal e ends-onward = refl

returned-signal : (e : Ending) → Ends Returned e → Done ≡ signal_of e
unfolding signal_of
returned-signal e ends-returned = refl

value-signal : (ty number : ℕ) (e : Ending) → Ends (ReturnedValue ty number) e → Done ≡ signal_of e
unfolding signal_of
value-signal ty number e (ends-value h) = refl

exited-signal : (e : Ending) → Ends Exited e → Exit ≡ signal_of e
unfolding signal_of
exited-signal e ends-exited = refl

rejected-signal : (error : ℕ) (e : Ending) → Ends (Rejected error) e → Reject error ≡ signal_of e
unfolding signal_of
rejected-signal error e ends-rejected = refl

module _ (ended : Ended) where
  pub done-onward : ended ≡ Onward → TellsSignal ended Done
  done-onward e = record { is = λ ending h. signal-told ended ending h Onward e Done onward-signal }

  pub done-returned : ended ≡ Returned → TellsSignal ended Done
  done-returned e = record { is = λ ending h. signal-told ended ending h Returned e Done returned-signal }

  pub done-value : (ty number : ℕ) → ended ≡ ReturnedValue ty number → TellsSignal ended Done
  done-value ty number e =
      record { is = λ ending h. signal-told ended ending h (ReturnedValue ty number) e Done (value-signal ty number) }

  pub exit-exited : ended ≡ Exited → TellsSignal ended Exit
  exit-exited e = record { is = λ ending h. signal-told ended ending h Exited e Exit exited-signal }

  pub reject-rejected : (error : ℕ) → ended ≡ Rejected error → TellsSignal ended (Reject error)
  reject-rejected error e =
      record { is = λ ending h. signal-told ended ending h (Rejected error) e (Reject error) (rejected-signal error) }

pub ruleset signals = (done-onward, done-returned, done-value, exit-exited, reject-rejected)

-- what is finished
finish-goes : {counted : ℕ} (o : Out State Ending) → Goes counted (finish o) → Goes counted o
unfolding finish
finish-goes (done ending s seen) g =
    let w = gone g in
    let e = w.is in
    let same : w.seen ≡ seen = cc in
    goes {seen = seen} (rw same at w.steps)
finish-goes stuck g = not_stuck g
finish-goes full g = not_full g

finish-is : (o : Out State Ending) (ending : Ending) (s : State) (seen : Seen) → o ≡ done ending s seen
    → finish o ≡ done (signal_of ending) s.store seen
unfolding finish
finish-is o ending s seen e = rw e refl

-- the parser, then the apply body
abbrev then_body : Program → ℕ → List Entry → Ending → M State Ending
then_body P used es ending = and_then_run ending (stmt_in (apply_scope P) used es P.body)

abbrev whole_run : Program → List Entry → List Cell → List ℕ → Out State Ending
whole_run P es cells packet =
    (parser_in P (length (slots_of cells)) >>= then_body P (length (slots_of cells)) es) (started cells packet)

program-is : (P : Program) (es : List Entry) (cells : List Cell) (packet : List ℕ)
    → program_run P es cells packet ≡ finish (whole_run P es cells packet)
unfolding run_program ◌>>=◌ parser_in stmt_in calls_of applied_in apply_scope state_scope is_apply
program-is P es cells packet = refl

module _ (nums directory ends slots frame : List ℕ) (store size : ℕ) where
  module _ {P : Program} {es : List Entry} {cells : List Cell} {packet : List ℕ}
      (w : Ready nums directory ends slots frame store size P es cells packet)
      (g : Goes 0 (program_run P es cells packet)) where
    abbrev used : ℕ
    used = length (slots_of cells)

    abbrev s : State
    s = started cells packet

    whole-begun : Begun 0 (parser_in P used) (then_body P used es) s
    whole-begun = then-goes _ _ s (finish-goes (whole_run P es cells packet) (rw (program-is P es cells packet) at g))

    unread : (P.states ≡ [] → ⊥) → Unread nums (store + size + 1) s.packet
    unfolding started
    unread = w.unread

    module _ {slots₁ : List ℕ} (c : Copies nums slots slots₁ store size) where
      abbrev begin : List ℕ
      begin = set slots₁ counter_slot 0

      first-stage : Stage nums directory ends (apply_slots directory) begin frame (apply_scope P) used es s
      unfolding apply_scope
      first-stage = record {
        scene = scene-start nums directory ends P w.end store size cells packet w.stands w.numbers w.sized
            w.fits (apply_slots directory) slots slots₁ frame 0
            (apply-scope nums directory ends P w.end w.stands) w.offset w.count c;
        tables = w.tables;
        few = omega arith;
        room = omega (arith, w.room, w.sized);
        apply = λ _. refl;
      }

      counter-zero : counter_of begin ≡ 0
      counter-zero = get_or-set_same slots₁ counter_slot 0 0 (omega (arith, c.same, w.count))

      begun : Begun (counter_of begin) (parser_in P used) (then_body P used es) s
      begun = rw counter-zero whole-begun

      -- the parser has run
      module _ {slots₂ frame₂ : List ℕ} {parsed : Ended}
          (h : Ran nums directory ends (apply_slots directory) begin slots₂ frame frame₂ (apply_scope P)
          (parser_in P used s) (Ends parsed)) where
        body_is : parsed ≡ Onward
            → then_body P used es h.answer h.state ≡ stmt_in (apply_scope P) used es P.body h.state
        body_is e = onward-goes h.answer (stmt_in (apply_scope P) used es P.body) h.state
            (onward-is parsed h.answer h.answers e)

        body-goes : parsed ≡ Onward → Goes (counter_of slots₂) (stmt_in (apply_scope P) used es P.body h.state)
        body-goes e = rw (body_is e) at (going-rest first-stage (parser_in P used) (then_body P used es) begun h)

        body-ran : {slots₃ frame₃ : List ℕ} {r : Ended} → parsed ≡ Onward
            → Ran nums directory ends (apply_slots directory) slots₂ slots₃ frame₂ frame₃ (apply_scope P)
            (stmt_in (apply_scope P) used es P.body h.state) (Ends r)
            → Ran nums directory ends (apply_slots directory) begin slots₃ frame frame₃ (apply_scope P)
            (whole_run P es cells packet) (Ends r)
        body-ran {slots₃} {frame₃} {r} e k =
            let there : Ran nums directory ends (apply_slots directory) slots₂ slots₃ frame₂ frame₃ (apply_scope P)
            (then_body P used es h.answer h.state) (Ends r) = rw (body_is e) k in
            ran_then (parser_in P used) (then_body P used es) s h there

        over-ran : (parsed ≡ Onward → ⊥)
            → Ran nums directory ends (apply_slots directory) begin slots₂ frame frame₂ (apply_scope P)
            (whole_run P es cells packet) (Ends parsed)
        over-ran q = ran_then (parser_in P used) (then_body P used es) s h (ran-here h.state h.answer h.scene
            (stops-is parsed h.answer (stmt_in (apply_scope P) used es P.body) h.state h.answers q)
            h.answers)

      whole-ran : {slots₂ frame₂ : List ℕ} {ended : Ended} {r : Signal}
          → Ran nums directory ends (apply_slots directory) begin slots₂ frame frame₂ (apply_scope P)
          (whole_run P es cells packet) (Ends ended)
          → TellsSignal ended r → RanWhole slots₂ P (program_run P es cells packet) r
      unfolding apply_scope
      whole-ran {r = r} h t =
          let same : r ≡ signal_of h.answer = t.is h.answer h.answers in
          rw (program-is P es cells packet) (record {
            cells = h.state.store;
            seen = h.seen;
            is = finish-is (whole_run P es cells packet) h.answer h.state h.seen h.is
                ∙ ap (λ x. done x h.state.store h.seen) (sym same);
            fits = h.scene.fits.store-fits;
            store = h.scene.store;
            counted = omega (arith, h.counted, counter-zero);
          })

  parser-ran : {slots₁ slots₂ frame₂ : List ℕ} {parsed : Ended} (c : Copies nums slots slots₁ store size)
      → RunsParser nums directory ends (set slots₁ counter_slot 0) slots₂ frame frame₂ store size parsed
      → {P : Program} {es : List Entry} {cells : List Cell} {packet : List ℕ}
      (w : Ready nums directory ends slots frame store size P es cells packet)
      (g : Goes 0 (program_run P es cells packet))
      → Ran nums directory ends (apply_slots directory) (set slots₁ counter_slot 0) slots₂ frame frame₂ (apply_scope P)
      (parser_in P (length (slots_of cells)) (started cells packet)) (Ends parsed)
  parser-ran c q {P} {es} {cells} {packet} w g = q.runs (apply_slots directory) P (length (slots_of cells)) es
      (started cells packet) (first-stage w g c) (unread w g) (begun w g c).first

  module _ (a : AsksRun nums directory ends slots frame store size) where
    pub run-copies : AsksCopy nums slots store size
    run-copies = start-copies nums directory ends a.program a.ready.end store size a.cells a.packet
        a.ready.stands a.ready.numbers a.ready.sized a.ready.fits slots a.ready.count

    pub run-directory : length directory ≡ 217
    run-directory = a.ready.stands.slots

    module _ (slots₁ : List ℕ) (c : Copies nums slots slots₁ store size) where
      pub run-counter : counter_slot < length slots₁
      run-counter = omega (arith, c.same, a.ready.count)

      pub run-parser-asks : AsksParser nums directory ends (set slots₁ counter_slot 0) frame store size
      run-parser-asks = record {
        scope = apply_slots directory;
        program = a.program;
        used = length (slots_of a.cells);
        entry_list = a.entry_list;
        state = started a.cells a.packet;
        stage = first-stage a.ready a.going c;
        unread = unread a.ready a.going;
        going = (begun a.ready a.going c).first;
      }

      pub run-stmt-asks : (slots₂ frame₂ : List ℕ) (parsed : Ended) (b : Bool) (found : coded.Scope)
          → RunsParser nums directory ends (set slots₁ counter_slot 0) slots₂ frame frame₂ store size parsed
          → TellsOn parsed b → b ≡ true → found ≡ apply_slots directory
          → AsksStmt nums directory ends found slots₂ frame₂ 32 (get_or directory 68 0)
      run-stmt-asks slots₂ frame₂ parsed b found q o y e =
          let h = parser-ran c q a.ready a.going in
          rw e record {
            scope_of = apply_scope a.program;
            used = length (slots_of a.cells);
            entry_list = a.entry_list;
            state = h.state;
            stmt = a.program.body;
            stage = stage-ran (first-stage a.ready a.going c) h;
            stands = a.ready.stands.body;
            deep = omega arith;
            going = body-goes a.ready a.going c h (o.on y);
          }

  module _ (slots₁ slots₂ frame₂ : List ℕ) (parsed : Ended) (r : Signal) (c : Copies nums slots slots₁ store size)
      (q : RunsParser nums directory ends (set slots₁ counter_slot 0) slots₂ frame frame₂ store size parsed)
      (b : Bool) (o : TellsOn parsed b) where
    pub run-runs : (found : coded.Scope) (slots₃ frame₃ : List ℕ) (ended : Ended) → b ≡ true → found ≡ apply_slots directory
        → RunsStmt nums directory ends found slots₂ slots₃ frame₂ frame₃ 32 (get_or directory 68 0) ended
        → TellsSignal ended r
        → RunsWhole nums directory ends slots slots₃ frame store size r
    run-runs found slots₃ frame₃ ended y d k t = record {
      runs = λ P es cells packet w g.
          let e : parsed ≡ Onward = o.on y in
          let h = parser-ran c q w g in
          whole-ran w g c (body-ran w g c h e ((rw d at k).runs (apply_scope P) (length (slots_of cells)) es h.state P.body
          (stage-ran (first-stage w g c) h) w.stands.body (body-goes w g c h e))) t;
    }

    pub run-stops : b ≡ false → TellsSignal parsed r
        → RunsWhole nums directory ends slots slots₂ frame store size r
    run-stops y t = record {
      runs = λ P es cells packet w g. whole-ran w g c (over-ran w g c (parser-ran c q w g) (o.over y)) t;
    }

pub ruleset whole_runs =
    (run-copies, run-directory, run-counter, run-parser-asks, run-stmt-asks, run-runs, run-stops)
