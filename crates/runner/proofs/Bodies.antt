-- The body of a callable: its frame is made, its statement runs, and its parameters' numbers are left.
use Rattle.program.specs.declared.Scope as coded
use mathlib.Core.Bool.{true, false≢true}
use mathlib.Core.Option.{Option, none, some}
use mathlib.Core.Path.{◌≡◌, refl, ◌∙◌, sym, ap}
use mathlib.Core.List.{List}
use Prim.Native.Nat.{ℕ, ◌+◌, ◌*◌, ◌≤◌, ◌<◌, ◌^◌}
use native.Mathlib.Omega.{arith}
use lib.Dec.{leb}
use lib.ListN.{length, get_or}
use borrow.Author.Tests.{le-leb}
use Rattle.rules.specs.Syntax.{Ty, Callable, Program}
use Rattle.rules.specs.Form.{and_look, Scope, scope_of}
use Rattle.rules.specs.Lists.{Entry, Cell}
use Rattle.rules.specs.Running.{State, Ending, onward, returned, returned_value, exited, rejected, Seen, Out, done, stuck, full, nowhere, value_of, body_ended, left, leave, fresh, run_body}
use Rattle.rules.specs.Answers.{working_slots}
use Rattle.rules.proofs.Fits.{all2-length}
use Rattle.rules.proofs.Sound.{never}
use Rattle.program.specs.Stands.{StandsCallable}
use Rattle.program.specs.Looks.{Has, Finds, callables_of, FoundHead, FoundFrame}
use Rattle.program.proofs.Found.{member-in}
use Rattle.program.proofs.Seen.{callable_scope, callable-scope}
use Rattle.store.specs.Fills.{AsksClear, Clears}
use Rattle.store.proofs.Scenes.{scene-fresh}
use Rattle.steps.specs.declared.Ended.{Ended}
use Rattle.steps.specs.Outcomes.{Goes, goes, counter_of, Ran, Ends}
use Rattle.steps.specs.Calls.{most_own}
use Rattle.steps.proofs.Going.{gone, not_stuck, not_full}
use Rattle.runner.specs.Runs.{calls_of, applied_in, stmt_in, body_in, Stage, Called, RanBody}
use Rattle.runner.specs.Claims.{AsksBody, RunsBody, AsksStmt, RunsStmt}
use Rattle.runner.proofs.Rank.{rank, rank-lower}
use Rattle.runner.proofs.Callees.{body-room}

-- no apply stands in a callable
applied-none : (P : Program) (f : ℕ) (c : Callable) (used : ℕ) (es : List Entry)
    → applied_in (scope_of P f c) used es ≡ (λ t. nowhere)
unfolding applied_in scope_of
applied-none P f c used es = rw (never c.returns, applied_in) refl

-- how a body ends is how its statement ended
ended_is : (r : Option Ty) (ending other : Ending) → body_ended r ending ≡ some other → other ≡ ending
unfolding body_ended
ended_is none ending other e = cc
ended_is (some t) ending other e = go ending e
  where
    go : (ending : Ending) → and_look (value_of ending) (λ v. some (returned_value v)) ≡ some other → other ≡ ending
    go onward q = unfold value_of and_look in let z : ◌≡◌ {A = ℕ} 0 1 = cc in absurd (omega arith)
    go returned q = unfold value_of and_look in let z : ◌≡◌ {A = ℕ} 0 1 = cc in absurd (omega arith)
    go (returned_value v) q = unfold value_of and_look in cc
    go exited q = unfold value_of and_look in let z : ◌≡◌ {A = ℕ} 0 1 = cc in absurd (omega arith)
    go (rejected error) q = unfold value_of and_look in let z : ◌≡◌ {A = ℕ} 0 1 = cc in absurd (omega arith)

left-is : (r : Option Ty) (ending : Ending) (ns : List ℕ) (cells : List Cell) (seen : Seen) (counted : ℕ)
    → Goes counted (left ns cells seen (body_ended r ending))
    → left ns cells seen (body_ended r ending) ≡ done (ending, ns) cells seen
left-is r ending ns cells seen counted g = go (body_ended r ending) refl g
  where
    go : (o : Option Ending) → body_ended r ending ≡ o → Goes counted (left ns cells seen o)
        → left ns cells seen o ≡ done (ending, ns) cells seen
    go none e h = unfold left in not_stuck h
    go (some other) e h = unfold left in ap (λ x. done (x, ns) cells seen) (ended_is r ending other e)

module _ (r : Option Ty) (counted : ℕ) where
  leave-goes : (o : Out State Ending) → Goes counted (leave r o) → Goes counted o
  unfolding leave
  leave-goes (done ending s seen) g =
      let k = left-is r ending s.parameters s.store seen counted g in
      let w = gone g in
      let e = w.is in
      let same : w.seen ≡ seen = cc in
      goes {seen = seen} (rw same at w.steps)
  leave-goes stuck g = not_stuck g
  leave-goes full g = not_full g

  leave-is : (o : Out State Ending) (ending : Ending) (s : State) (seen : Seen) → o ≡ done ending s seen
      → Goes counted (leave r o) → leave r o ≡ done (ending, s.parameters) s.store seen
  unfolding leave
  leave-is o ending s seen e g =
      let there : Goes counted (leave r (done ending s seen)) = rw e at g in
      rw e (left-is r ending s.parameters s.store seen counted there)

-- at any call
module _ {nums directory ends slots frame : List ℕ} {f : ℕ} {P : Program} {c : Callable}
    {used : ℕ} {es : List Entry} {ns : List ℕ} {cells : List Cell}
    (w : Called nums directory ends slots frame f P c used es ns cells)
    (g : Goes (counter_of slots) (body_in P f c used ns cells)) where
  abbrev Γ : Scope
  Γ = scope_of P f c

  abbrev taken : ℕ
  taken = used + (length c.parameters + length c.locals)

  abbrev ran-by : Out State Ending
  ran-by = stmt_in Γ taken es c.body (fresh c ns cells)

  room : taken ≤ working_slots
  room = body-room P f c used ns cells (counter_of slots) g

  body_is : body_in P f c used ns cells ≡ leave c.returns ran-by
  unfolding body_in run_body stmt_in calls_of scope_of
  body_is =
      let fits : leb taken working_slots ≡ true = le-leb taken working_slots room in
      rw (fits, body_in, run_body, applied-none P f c taken es) refl

  body-goes : Goes (counter_of slots) ran-by
  body-goes = leave-goes c.returns (counter_of slots) ran-by (rw body_is at g)

  callable-stands : StandsCallable nums ends (get_or directory (43 + f) 0) c
  callable-stands = w.stands.callables.member f c w.is

  few : length c.parameters + length c.locals ≤ most_own
  few = omega (arith, callable-stands.parameter_count.at_most, callable-stands.local_count.at_most)

  module _ (kind : ℕ) {returns parameters count locals local_count body : ℕ}
      (head : FoundHead nums kind returns parameters count c)
      (framed : FoundFrame nums ends locals local_count body c) {frame₁ : List ℕ}
      (z : Clears frame frame₁ count (count + local_count)) where
    abbrev scope : coded.Scope
    scope = callable_scope f parameters count locals local_count kind returns

    cleared : Clears frame frame₁ (length ns) (length ns + length c.locals)
    cleared =
        let n : count ≡ length ns = head.count_is ∙ sym (all2-length w.given) in
        rw (n, framed.count_is) at z

    body-stage : Stage nums directory ends scope slots frame₁ Γ taken es (fresh c ns cells)
    unfolding scope_of
    body-stage = record {
      scene = scene-fresh nums directory ends scope slots frame frame₁ P f c ns cells
          (callable-scope nums directory ends f kind returns parameters count locals local_count body P w.end c
          w.stands w.is head framed) w.offset w.fits w.given w.store
          (omega (arith, all2-length w.given, room, w.room)) (λ i l.
          let e : 0 + i ≡ i = omega arith in
          rw e at (w.laid.is i l)) cleared;
      tables = w.tables;
      few = few;
      room = omega (arith, w.room, z.same);
      apply = λ e. absurd (false≢true (sym (never c.returns) ∙ e));
    }

    body-ran : {slots₂ frame₂ : List ℕ} {r : Ended}
        → Ran nums directory ends scope slots slots₂ frame₁ frame₂ Γ ran-by (Ends r)
        → RanBody slots slots₂ frame frame₂ P c (body_in P f c used ns cells) r
    unfolding scope_of
    body-ran h = record {
      ending = h.answer;
      parameters = h.state.parameters;
      cells = h.state.store;
      seen = h.seen;
      is = body_is ∙ leave-is c.returns (counter_of slots) ran-by h.answer h.state h.seen h.is
          (rw body_is at g);
      ends = h.answers;
      fits = h.scene.fits.store-fits;
      store = h.scene.store;
      given = h.scene.fits.parameters-fit;
      laid = record {
        is = λ i l.
            let e : 0 + i ≡ i = omega arith in
            rw e (h.scene.frames.parameter i l);
      };
      counted = h.counted;
      same = omega (arith, h.same, z.same);
    }

module _ (nums directory ends slots frame : List ℕ) (f : ℕ) where
  module _ (a : AsksBody nums directory ends slots frame f) where
    pub body_has : Has callables_of nums directory ends f
    unfolding callables_of
    body_has = record {
      program = a.program;
      end = a.called.end;
      stands = a.called.stands;
      inside = member-in a.program.callables f a.found a.called.is;
    }

  pub body-fall : (t : ℕ) → rank f 4000 ≡ t → rank f (2000 + 32 * 32 + 20) < t
  body-fall t e = rank-lower t f 4000 (2000 + 32 * 32 + 20) e (omega arith)

  module _ (kind returns parameters count locals local_count body : ℕ)
      (head : Finds callables_of (FoundHead nums kind returns parameters count) nums directory ends f)
      (framed : Finds callables_of (FoundFrame nums ends locals local_count body) nums directory ends f) where
    abbrev scoped : coded.Scope
    scoped = callable_scope f parameters count locals local_count kind returns

    head_at : {P : Program} {c : Callable} {used : ℕ} {es : List Entry} {ns : List ℕ} {cells : List Cell}
        → Called nums directory ends slots frame f P c used es ns cells
        → FoundHead nums kind returns parameters count c
    unfolding callables_of
    head_at {P} {c} w = head.finds P w.end c w.stands w.is

    frame_at : {P : Program} {c : Callable} {used : ℕ} {es : List Entry} {ns : List ℕ} {cells : List Cell}
        → Called nums directory ends slots frame f P c used es ns cells
        → FoundFrame nums ends locals local_count body c
    unfolding callables_of
    frame_at {P} {c} w = framed.finds P w.end c w.stands w.is

    module _ (a : AsksBody nums directory ends slots frame f) where
      pub body-low : count + local_count < 2 ^ 64
      body-low = omega (arith, (head_at a.called).count_is, (frame_at a.called).count_is, few a.called a.going)

      pub body-clears : AsksClear frame count (count + local_count)
      body-clears = record {
        up = omega arith;
        most = omega (
          arith,
          (head_at a.called).count_is,
          (frame_at a.called).count_is,
          room a.called a.going,
          a.called.room,
        );
      }

      pub body-stmt : (frame₁ : List ℕ) → Clears frame frame₁ count (count + local_count)
          → AsksStmt nums directory ends scoped slots frame₁ 32 body
      body-stmt frame₁ z = record {
        scope_of = scope_of a.program f a.found;
        used = taken a.called a.going;
        entry_list = a.entry_list;
        state = fresh a.found a.given a.cells;
        stmt = a.found.body;
        stage = body-stage a.called a.going kind (head_at a.called) (frame_at a.called) z;
        stands = (frame_at a.called).body_stands;
        deep = omega arith;
        going = body-goes a.called a.going;
      }

    pub body-runs : (frame₁ slots₂ frame₂ : List ℕ) (r : Ended) → Clears frame frame₁ count (count + local_count)
        → RunsStmt nums directory ends scoped slots slots₂ frame₁ frame₂ 32 body r
        → RunsBody nums directory ends slots slots₂ frame frame₂ f r
    body-runs frame₁ slots₂ frame₂ r z q = record {
      runs = λ P c used es ns cells w g. body-ran w g kind (head_at w) (frame_at w) z
          (q.runs (scope_of P f c) (taken w g) es (fresh c ns cells) c.body
          (body-stage w g kind (head_at w) (frame_at w) z) (frame_at w).body_stands (body-goes w g));
    }

pub ruleset body_runs = (body_has, body-fall, body-low, body-clears, body-stmt, body-runs)
