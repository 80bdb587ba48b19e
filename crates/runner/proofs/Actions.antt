-- An action that a table lists: its arguments are copied into its frame, and its body runs.
use Rattle.program.specs.declared.Scope as coded
use mathlib.Core.Bool.{◌&&◌}
use mathlib.Core.Option.{some}
use mathlib.Core.Path.{◌≡◌, refl, ◌∙◌, sym}
use mathlib.Core.List.{List}
use Prim.Native.Nat.{ℕ, ◌+◌, ◌≤◌, ◌<◌, ◌^◌}
use native.Mathlib.Omega.{arith}
use lib.ListN.{length, get_or, get_elem?}
use Rattle.rules.specs.Syntax.{Callable, Numeral, Table, Program}
use Rattle.rules.specs.Form.{is_state, listable, apply_scope}
use Rattle.rules.specs.Lists.{Entry}
use Rattle.rules.specs.Running.{State, Ending, M, ◌>>=◌, pure, with_store, on_store, after_call, arguments_fit, run_action}
use Rattle.rules.specs.Answers.{working_slots}
use Rattle.rules.proofs.Predicates.{and_both, All2}
use Rattle.rules.proofs.Fits.{FitParameter, all2-length}
use Rattle.rules.proofs.Tables.{arguments-fit}
use Rattle.shape.specs.Directory.{callables_slot}
use Rattle.program.specs.Stands.{StandsNumeral}
use Rattle.program.specs.Looks.{Has, Finds, callables_of, FoundHead}
use Rattle.program.proofs.Found.{member-in}
use Rattle.program.proofs.Members.{numeral-at}
use Rattle.store.specs.Mirrors.{Scene}
use Rattle.store.specs.Fills.{AsksCopy, Copies}
use Rattle.store.proofs.Filling.{copy-asks, copied_is}
use Rattle.store.proofs.Scenes.{scene-entered}
use Rattle.steps.specs.declared.Ended.{Ended}
use Rattle.steps.specs.Outcomes.{Goes, counter_of, Ran, Ends}
use Rattle.steps.specs.Calls.{AfterCall}
use Rattle.steps.proofs.Going.{Begun, then-goes, some-then-goes, must-then-goes, some-then-is, must-then-is, ran-here, ran_then}
use Rattle.runner.specs.Runs.{calls_of, body_in, action_in, Stage, Called, RanBody}
use Rattle.runner.specs.Claims.{AsksBody, RunsBody, ActionAt, AsksAction, RunsAction}
use Rattle.runner.proofs.Rank.{rank, rank-callee}
use Rattle.runner.proofs.Callees.{Reached, call-is, on-store-goes, on-store-is, body-room}

-- the action that is listed at a position
module _ (P : Program) (used : ℕ) (T : Table) (position : ℕ) (ns : List ℕ) (s : State) where
  abbrev calling : ℕ → M State (Ending × List ℕ)
  calling f = on_store (calls_of (apply_scope P) used f ns)

  abbrev going_on : Ending × List ℕ → M State Ending
  going_on r = pure (after_call r.0)

  pub record Acting (counted : ℕ) : Type 0 where
    pub action : Numeral
    pub listed : get_elem? T.actions position ≡ some action
    pub found : Callable
    pub is : get_elem? P.callables action.number ≡ some found
    pub fit : All2 FitParameter found.parameters ns
    pub same : action_in P used T position ns s ≡ (calling action.number >>= going_on) s
    pub begun : Begun counted (calling action.number) going_on s

  acting : (counted : ℕ) → Goes counted (action_in P used T position ns s) → Acting counted
  unfolding action_in run_action
  acting counted g =
      let a = some-then-goes (get_elem? T.actions position) _ s g in
      let c = some-then-goes (get_elem? P.callables a.member.number) _ s a.rest in
      let m = must-then-goes (listable c.member && arguments_fit c.member.parameters ns) _ s c.rest in
      let q = and_both (listable c.member) (arguments_fit c.member.parameters ns) m.0 in
      record {
        action = a.member;
        listed = a.is;
        found = c.member;
        is = c.is;
        fit = arguments-fit c.member.parameters ns q.1;
        same = some-then-is (get_elem? T.actions position) _ s a.is
            ∙ (some-then-is (get_elem? P.callables a.member.number) _ s c.is
            ∙ must-then-is (listable c.member && arguments_fit c.member.parameters ns) _ s m.0);
        begun = then-goes _ _ s m.1;
      }

-- at any stage
module _ (P : Program) (position : ℕ) {nums directory ends : List ℕ} {scope : coded.Scope} {slots frame : List ℕ}
    {actions from : ℕ} {used : ℕ} {es : List Entry} {s : State} {T : Table} {ns : List ℕ}
    (st : Stage nums directory ends scope slots frame (apply_scope P) used es s)
    (w : ActionAt nums actions from T ns)
    (g : Goes (counter_of slots) (action_in P used T position ns s)) where
  acts : Acting P used T position ns s (counter_of slots)
  acts = acting P used T position ns s (counter_of slots) g

  abbrev f : ℕ
  f = acts.action.number

  abbrev c : Callable
  c = acts.found

  listed_at : StandsNumeral nums (actions + 1 + position) acts.action
  listed_at = numeral-at nums (actions + 1) T.actions w.listed position acts.action acts.listed

  below : f < length P.callables
  below = member-in P.callables f c acts.is

  reached-by : Reached (apply_scope P).program (apply_scope P).reach f c
  unfolding apply_scope
  reached-by = record { below = below; is = acts.is }

  callee-is : calls_of (apply_scope P) used f ns s.store ≡ body_in P f c used ns s.store
  unfolding apply_scope
  callee-is = call-is (apply_scope P) used f c ns s.store reached-by

  callee-goes : Goes (counter_of slots) (body_in P f c used ns s.store)
  callee-goes = rw callee-is at (on-store-goes (calls_of (apply_scope P) used f ns) s acts.begun.first)

  whole_room : used + length frame ≡ working_slots
  unfolding apply_scope
  whole_room = omega (arith, st.room)

  callee-room : length c.parameters + length c.locals ≤ length frame
  callee-room = omega (arith, whole_room, body-room P f c used ns s.store (counter_of slots) callee-goes)

  action-copy : (count : ℕ) → count ≡ length c.parameters → AsksCopy nums frame from count
  action-copy count e = copy-asks nums frame from count ns st.scene.scopes.program.numbers w.given
      (e ∙ sym (all2-length acts.fit)) (omega (arith, e, callee-room))

  module _ {count : ℕ} {frame₁ : List ℕ} (e : count ≡ length c.parameters) (z : Copies nums frame frame₁ from count)
    where
      action-called : Called nums directory ends slots frame₁ f P c used es ns s.store
      unfolding apply_scope
      action-called = record {
        end = st.scene.scopes.end;
        stands = st.scene.scopes.program;
        offset = st.scene.offset;
        tables = st.tables;
        is = acts.is;
        fits = st.scene.fits.store-fits;
        store = st.scene.store;
        given = acts.fit;
        laid = record {
          is = λ i l.
              let first : 0 + i ≡ i = omega arith in
              rw first (copied_is nums frame frame₁ from count ns z w.given (e ∙ sym (all2-length acts.fit)) i l);
        };
        room = omega (arith, whole_room, z.same);
      }

      module _ {slots₁ frame₂ : List ℕ} {ended r : Ended}
          (b : RanBody slots slots₁ frame₁ frame₂ P c (body_in P f c used ns s.store) ended) (k : AfterCall ended r) where
        abbrev t : State
        t = with_store s b.cells

        entered : Scene nums directory ends scope slots₁ frame₂ (apply_scope P) t
        unfolding apply_scope is_state
        entered = scene-entered nums directory ends scope slots slots₁ frame frame₂ (apply_scope P) s b.cells
            st.scene refl b.fits b.store (omega (arith, b.same, z.same)) λ i l.
            absurd (omega (arith, all2-length st.scene.fits.parameters-fit, all2-length st.scene.fits.locals-fit))

        body-ran : Ran nums directory ends scope slots slots₁ frame frame₂ (apply_scope P)
            (on_store (calls_of (apply_scope P) used f ns) s) (λ x. Ends ended x.0)
        body-ran = record {
          answer = (b.ending, b.parameters);
          state = t;
          seen = b.seen;
          is = on-store-is (calls_of (apply_scope P) used f ns) s (callee-is ∙ b.is);
          scene = entered;
          counted = b.counted;
          same = omega (arith, b.same, z.same);
          answers = b.ends;
        }

        action-ran : Ran nums directory ends scope slots slots₁ frame frame₂ (apply_scope P)
            (action_in P used T position ns s) (Ends r)
        unfolding pure
        action-ran = rw acts.same (ran_then (calling P used T position ns s f) (going_on P used T position ns s) s body-ran
            (ran-here body-ran.state (after_call body-ran.answer.0) body-ran.scene refl
            (k.goes_on body-ran.answer.0 body-ran.answers)))

-- from the numbers
module _ (nums directory ends slots frame : List ℕ) (actions at from : ℕ) where
  abbrev position : ℕ
  position = get_or nums at 0

  abbrev number : ℕ
  number = get_or nums (actions + 1 + position) 0

  module _ (a : AsksAction nums directory ends slots frame actions at from) where
    at_position : StandsNumeral nums (actions + 1 + position) (acts a.program position a.stage a.action a.going).action
    at_position = listed_at a.program position a.stage a.action a.going

    pub position-inside : at < length nums
    position-inside = a.inside

    pub arguments-low : from < 2 ^ 64
    arguments-low = omega (arith, a.inside, a.near, a.stage.scene.scopes.program.numbers)

    pub action-inside : actions + 1 + position < length nums
    action-inside = at_position.holds.inside

    pub action-low : actions + 1 + position < 2 ^ 64
    action-low = omega (arith, action-inside, a.stage.scene.scopes.program.numbers)

    pub action-first : actions + 1 < 2 ^ 64
    action-first = omega (arith, action-low)

    pub action-has : Has callables_of nums directory ends number
    unfolding callables_of apply_scope
    action-has = record {
      program = a.program;
      end = a.stage.scene.scopes.end;
      stands = a.stage.scene.scopes.program;
      inside = omega (arith, at_position.holds.is, below a.program position a.stage a.action a.going);
    }

    pub action-falls : (t : ℕ) → rank (get_or directory callables_slot 0) 1450 ≡ t → rank number 4000 < t
    unfolding apply_scope
    action-falls t e = rank-callee t (get_or directory callables_slot 0) 1450 number 4000 e
        (omega (
          arith,
          at_position.holds.is,
          below a.program position a.stage a.action a.going,
          a.stage.scene.scopes.program.callables.count,
        ))
        (omega arith)

  module _ (kind returns parameters count : ℕ)
      (head : Finds callables_of (FoundHead nums kind returns parameters count) nums directory ends number) where
    module _ (P : Program) {scope : coded.Scope} {used : ℕ} {es : List Entry} {s : State} {T : Table} {ns : List ℕ}
        (st : Stage nums directory ends scope slots frame (apply_scope P) used es s)
        (w : ActionAt nums actions from T ns)
        (g : Goes (counter_of slots) (action_in P used T position ns s)) where
      count-is : count ≡ length (c P position st w g).parameters
      unfolding callables_of apply_scope
      count-is = (head.finds P st.scene.scopes.end (c P position st w g) st.scene.scopes.program
          (rw (listed_at P position st w g).holds.is (acts P position st w g).is)).count_is

      action-body-ran : {slots₁ frame₁ frame₂ : List ℕ} {ended : Ended} → Copies nums frame frame₁ from count
          → RunsBody nums directory ends slots slots₁ frame₁ frame₂ number ended
          → RanBody slots slots₁ frame₁ frame₂ P (c P position st w g) (body_in P (f P position st w g) (c P position st w g) used ns s.store) ended
      action-body-ran {slots₁} {frame₁} {frame₂} {ended} z b =
          let there : RunsBody nums directory ends slots slots₁ frame₁ frame₂ (f P position st w g) ended
          = rw (listed_at P position st w g).holds.is at b in
          there.runs P (c P position st w g) used es ns s.store (action-called P position st w g count-is z) (callee-goes P position st w g)

    module _ (a : AsksAction nums directory ends slots frame actions at from) where
      pub action-copies : AsksCopy nums frame from count
      action-copies = action-copy a.program position a.stage a.action a.going count (count-is a.program a.stage a.action a.going)

      pub action-body : (frame₁ : List ℕ) → Copies nums frame frame₁ from count
          → AsksBody nums directory ends slots frame₁ number
      action-body frame₁ z = rw (at_position a).holds.is (record {
        program = a.program;
        found = c a.program position a.stage a.action a.going;
        used = a.used;
        entry_list = a.entry_list;
        given = a.numbers;
        cells = a.state.store;
        called = action-called a.program position a.stage a.action a.going (count-is a.program a.stage a.action a.going) z;
        going = callee-goes a.program position a.stage a.action a.going;
      })

    pub action-runs : (slots₁ frame₁ frame₂ : List ℕ) (ended r : Ended) → Copies nums frame frame₁ from count
        → RunsBody nums directory ends slots slots₁ frame₁ frame₂ number ended
        → AfterCall ended r
        → RunsAction nums directory ends slots slots₁ frame frame₂ actions at from r
    action-runs slots₁ frame₁ frame₂ ended r z b k = record {
      runs = λ scope P used es s T ns st w g. action-ran P position st w g (count-is P st w g) z (action-body-ran P st w g z b) k;
    }

pub ruleset action_runs = (
  position-inside,
  arguments-low,
  action-inside,
  action-low,
  action-first,
  action-has,
  action-falls,
  action-copies,
  action-body,
  action-runs,
)
