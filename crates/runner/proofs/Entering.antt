-- A state entered: its statement runs, and where that goes on its transition follows.
use Rattle.program.specs.declared.Scope as coded
use mathlib.Core.Bool.{Bool, true, false}
use mathlib.Core.Path.{◌≡◌, refl}
use mathlib.Core.List.{List}
use Prim.Native.Nat.{ℕ, ◌+◌, ◌<◌}
use native.Mathlib.Omega.{arith}
use lib.ListN.{length, get_or}
use Rattle.rules.specs.Numbers.{most_bytes}
use Rattle.rules.specs.Syntax.{ParserState, Program}
use Rattle.rules.specs.Form.{state_scope}
use Rattle.rules.specs.Lists.{Entry}
use Rattle.rules.specs.Running.{State, Ending, onward, M, ◌>>=◌, tick, and_then_run}
use Rattle.program.specs.Stands.{StandsState}
use Rattle.program.specs.Looks.{Has, Finds, states_of, FoundState}
use Rattle.program.proofs.Found.{member-in}
use Rattle.program.proofs.Views.{stmt-begins}
use Rattle.steps.specs.declared.Ended.{Ended}
use Rattle.steps.specs.declared.Ended.TheVariants.{Onward}
use Rattle.steps.specs.Outcomes.{Goes, counter_of, Ran, Ends, AsksCount, Counts}
use Rattle.steps.proofs.Going.{Begun, then-goes, counter-ticked, ran-here, ran_then}
use Rattle.runner.specs.Runs.{stmt_in, Stage}
use Rattle.runner.specs.Claims.{AsksStmt, RunsStmt}
use Rattle.runner.specs.Parsing.{state_in, transition_in, TellsOn, AsksState, RunsState, AsksTransition, RunsTransition}
use Rattle.runner.proofs.Stages.{store-count, count-asks, stage-counted, going-counted, ran-counted, stage-ran, going-rest}
use Rattle.runner.proofs.Blocks.{onward-is, stops-is}
use Rattle.runner.proofs.States.{AtState, then_leave, state-found, entered-is, left, left-counted}

pub onward-goes : (ending : Ending) (m : M State Ending) (s : State) → ending ≡ onward → and_then_run ending m s ≡ m s
unfolding and_then_run
onward-goes ending m s e = rw e refl

-- at any stage
module _ (P : Program) (n : ℕ) {nums directory ends : List ℕ} {scope : coded.Scope} {slots frame : List ℕ} {used : ℕ} {es : List Entry} {s : State}
    (st : Stage nums directory ends scope slots frame (state_scope P) used es s)
    (g : Goes (counter_of slots) (state_in P used n s)) where
  here : AtState P n
  here = state-found P used n (counter_of slots) s g

  abbrev x : ParserState
  x = here.state

  entered : state_in P used n s ≡ tick (stmt_in (state_scope P) used es x.body >>= then_leave P used n x) s
  entered = entered-is P used es n s x here.is

  ticks : Goes (counter_of slots) (tick (stmt_in (state_scope P) used es x.body >>= then_leave P used n x) s)
  ticks = rw entered at g

  module _ {slots₁ : List ℕ} (c : Counts slots slots₁) where
    begun : Begun (counter_of slots₁) (stmt_in (state_scope P) used es x.body) (then_leave P used n x) s
    begun = then-goes _ _ s (going-counted st _ c ticks)

    module _ {slots₂ frame₂ : List ℕ} {ended : Ended}
        (h : Ran nums directory ends scope slots₁ slots₂ frame frame₂ (state_scope P)
        (stmt_in (state_scope P) used es x.body s) (Ends ended)) where
      leave-is : ended ≡ Onward
          → then_leave P used n x h.answer h.state ≡ transition_in P used n x.transition h.state
      leave-is e = onward-goes h.answer (transition_in P used n x.transition) h.state
          (onward-is ended h.answer h.answers e)

      leave-goes : ended ≡ Onward → Goes (counter_of slots₂) (transition_in P used n x.transition h.state)
      leave-goes e = rw (leave-is e) at (going-rest (stage-counted st c) (stmt_in (state_scope P) used es x.body)
          (then_leave P used n x) begun h)

      left-ran : {slots₃ frame₃ : List ℕ} {r : Ended} → ended ≡ Onward
          → Ran nums directory ends scope slots₂ slots₃ frame₂ frame₃ (state_scope P)
          (transition_in P used n x.transition h.state) (Ends r)
          → Ran nums directory ends scope slots slots₃ frame frame₃ (state_scope P) (state_in P used n s) (Ends r)
      left-ran {slots₃} {frame₃} {r} e k =
          let there : Ran nums directory ends scope slots₂ slots₃ frame₂ frame₃ (state_scope P)
          (then_leave P used n x h.answer h.state) (Ends r) = rw (leave-is e) k in
          rw entered (ran-counted st _ c (ran_then (stmt_in (state_scope P) used es x.body) (then_leave P used n x) s h
          there))

      over-ran : (ended ≡ Onward → ⊥)
          → Ran nums directory ends scope slots slots₂ frame frame₂ (state_scope P) (state_in P used n s) (Ends ended)
      over-ran q = rw entered (ran-counted st _ c (ran_then (stmt_in (state_scope P) used es x.body)
          (then_leave P used n x) s h (ran-here h.state h.answer h.scene
          (stops-is ended h.answer (transition_in P used n x.transition) h.state h.answers q) h.answers)))

-- from the numbers
module _ (nums directory ends : List ℕ) (scope : coded.Scope) (slots frame : List ℕ) (n : ℕ) where
  module _ (a : AsksState nums directory ends scope slots frame n) where
    pub state-count : AsksCount slots
    state-count = count-asks a.stage _ (ticks a.program n a.stage a.going)

    pub state-has : Has states_of nums directory ends n
    unfolding states_of state_scope
    state-has = record {
      program = a.program;
      end = a.stage.scene.scopes.end;
      stands = a.stage.scene.scopes.program;
      inside = member-in a.program.states n (x a.program n a.stage a.going)
          (here a.program n a.stage a.going).is;
    }

  module _ (slots₁ : List ℕ) (c : Counts slots slots₁) (at : ℕ)
      (f : Finds states_of (FoundState nums ends at) nums directory ends n) where
    stands_at : (P : Program) {used : ℕ} {es : List Entry} {s : State}
        (st : Stage nums directory ends scope slots frame (state_scope P) used es s)
        (g : Goes (counter_of slots) (state_in P used n s)) → StandsState nums ends at (x P n st g)
    unfolding states_of FoundState state_scope
    stands_at P st g = f.finds P st.scene.scopes.end (x P n st g) st.scene.scopes.program (here P n st g).is

    body-ran : (slots₂ frame₂ : List ℕ) (ended : Ended)
        → RunsStmt nums directory ends scope slots₁ slots₂ frame frame₂ 32 at ended
        → (P : Program) {used : ℕ} {es : List Entry} {s : State}
        (st : Stage nums directory ends scope slots frame (state_scope P) used es s)
        (g : Goes (counter_of slots) (state_in P used n s))
        → Ran nums directory ends scope slots₁ slots₂ frame frame₂ (state_scope P)
        (stmt_in (state_scope P) used es (x P n st g).body s) (Ends ended)
    body-ran slots₂ frame₂ ended r P {used} {es} {s} st g = r.runs (state_scope P) used es s (x P n st g).body
        (stage-counted st c) (stands_at P st g).body (begun P n st g c).first

    module _ (a : AsksState nums directory ends scope slots frame n) where
      this : StandsState nums ends at (x a.program n a.stage a.going)
      this = stands_at a.program a.stage a.going

      pub state-inside : at < length ends
      state-inside = omega (arith, (stmt-begins this.body).inside, a.stage.scene.scopes.program.room)

      pub state-low : at < most_bytes
      state-low = omega (arith, (stmt-begins this.body).inside, a.stage.scene.scopes.program.numbers)

      pub state-stmt : AsksStmt nums directory ends scope slots₁ frame 32 at
      state-stmt = record {
        scope_of = state_scope a.program;
        used = a.used;
        entry_list = a.entry_list;
        state = a.state;
        stmt = (x a.program n a.stage a.going).body;
        stage = stage-counted a.stage c;
        stands = this.body;
        deep = omega arith;
        going = (begun a.program n a.stage a.going c).first;
      }

      module _ (slots₂ frame₂ : List ℕ) (ended : Ended)
          (r : RunsStmt nums directory ends scope slots₁ slots₂ frame frame₂ 32 at ended) where
        abbrev h : Ran nums directory ends scope slots₁ slots₂ frame frame₂ (state_scope a.program)
            (stmt_in (state_scope a.program) a.used a.entry_list (x a.program n a.stage a.going).body
            a.state) (Ends ended)
        h = body-ran slots₂ frame₂ ended r a.program a.stage a.going

        pub state-transition : (b : Bool) (transition : ℕ) → TellsOn ended b → b ≡ true → transition ≡ get_or ends at 0
            → AsksTransition nums directory ends scope slots₂ frame₂ transition
        state-transition b transition o y q = rw q (record {
          program = a.program;
          used = a.used;
          entry_list = a.entry_list;
          state = h.state;
          from = n;
          transition = (x a.program n a.stage a.going).transition;
          stage = stage-ran (stage-counted a.stage c) h;
          stands = this.transition;
          going = leave-goes a.program n a.stage a.going c h (o.on y);
        })

        pub state-fall : (t : ℕ) → left slots 0 ≡ t → left slots₂ 2 < t
        state-fall t e =
            let one : counter_of slots₁ ≡ counter_of slots + 1
            = rw c.is (counter-ticked slots (store-count a.stage)) in
            left-counted slots slots₂ 2 t e (omega (arith, one, h.counted)) (state-count a).below (omega arith)

    pub state-runs : (slots₂ slots₃ frame₂ frame₃ : List ℕ) (ended r : Ended) (b : Bool) (transition : ℕ)
        → RunsStmt nums directory ends scope slots₁ slots₂ frame frame₂ 32 at ended → TellsOn ended b → b ≡ true
        → transition ≡ get_or ends at 0
        → RunsTransition nums directory ends scope slots₂ slots₃ frame₂ frame₃ transition r
        → RunsState nums directory ends scope slots slots₃ frame frame₃ n r
    state-runs slots₂ slots₃ frame₂ frame₃ ended r b transition k o y q z = record {
      runs = λ P used es s st g.
          let h = body-ran slots₂ frame₂ ended k P st g in
          let e : ended ≡ Onward = o.on y in
          left-ran P n st g c h e ((rw q at z).runs P used es h.state n (x P n st g).transition
          (stage-ran (stage-counted st c) h) (stands_at P st g).transition (leave-goes P n st g c h e));
    }

    pub state-over : (slots₂ frame₂ : List ℕ) (ended : Ended) (b : Bool)
        → RunsStmt nums directory ends scope slots₁ slots₂ frame frame₂ 32 at ended → TellsOn ended b → b ≡ false
        → RunsState nums directory ends scope slots slots₂ frame frame₂ n ended
    state-over slots₂ frame₂ ended b k o y = record {
      runs = λ P used es s st g. over-ran P n st g c (body-ran slots₂ frame₂ ended k P st g) (o.over y);
    }

pub ruleset state_runs = (
  state-count,
  state-has,
  state-inside,
  state-low,
  state-stmt,
  state-transition,
  state-fall,
  state-runs,
  state-over,
)
