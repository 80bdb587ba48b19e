-- A call: its arguments, the callee's body in the slots behind the caller's own, and what comes back.
use Rattle.program.specs.declared.Scope as coded
use mathlib.Core.Path.{◌≡◌, refl, ◌∙◌, ap}
use mathlib.Core.List.{List, [], ◌∷◌}
use Prim.Native.Nat.{ℕ, suc, ◌+◌, ◌-◌, ◌*◌, ◌≤◌, ◌<◌, ◌^◌}
use native.Mathlib.Omega.{arith}
use lib.ListN.{length, get_or}
use Rattle.rules.specs.Syntax.{Args, no_args, arg, Parameter, Callable}
use Rattle.rules.specs.Reading.{most_arguments}
use Rattle.rules.specs.Form.{Scope}
use Rattle.rules.specs.Lists.{Entry, Cell}
use Rattle.rules.specs.Running.{State, Ending, M, with_store, on_store, come_back, after_body, run_call, run_args}
use Rattle.rules.proofs.Predicates.{All2}
use Rattle.rules.proofs.Fits.{FitParameter, all2-length}
use Rattle.program.specs.Codes.{arg_count}
use Rattle.program.specs.Stands.{StandsParameters}
use Rattle.program.specs.Looks.{Has, Finds, callables_of, FoundHead}
use Rattle.program.proofs.Found.{member-in}
use Rattle.store.specs.Mirrors.{Scene}
use Rattle.store.proofs.Scenes.{scene-entered}
use Rattle.steps.specs.declared.Ended.{Ended}
use Rattle.steps.specs.Outcomes.{Goes, counter_of, Ran, Ends, Laid}
use Rattle.steps.specs.Calls.{own_of, most_own, AsksOwn, Owns, Left, AsksFinish, Finishes}
use Rattle.steps.proofs.Going.{Begun, not-nowhere, then-goes, ran_then}
use Rattle.runner.specs.Runs.{calls_of, args_in, call_in, body_in, Stage, Called, RanBody}
use Rattle.runner.specs.Claims.{CallAt, AsksCall, RunsCall, ArgsAt, AsksArgs, Laying, RunsArgs, AsksBody, RunsBody}
use Rattle.runner.proofs.Rank.{rank, rank-lower, rank-callee}
use Rattle.runner.proofs.Stages.{stage-ran, going-rest}
use Rattle.runner.proofs.Parts.{lent_part, put_back, part_length, part-laid, back-length, back_below, back-laid}
use Rattle.runner.proofs.Args.{args-split, then_others}
use Rattle.runner.proofs.Callees.{Reached, reached, call-is, on-store-goes, on-store-is, body-room}

-- there are as many arguments as parameters
args_count : (Γ : Scope) (used counted : ℕ) (s : State) (xs : Args) (ps : List Parameter)
    → Goes counted (args_in Γ used xs ps s) → length ps ≡ arg_count xs
unfolding arg_count
args_count Γ used counted s no_args [] g = refl
args_count Γ used counted s no_args (p ∷ ps) g = unfold args_in run_args in not-nowhere s g
args_count Γ used counted s (arg e xs) [] g = unfold args_in run_args in not-nowhere s g
args_count Γ used counted s (arg e xs) (p ∷ ps) g =
    let first = then-goes _ (then_others Γ used xs ps) s (rw (args-split Γ used s e xs p ps) at g) in
    let others = then-goes (args_in Γ used xs ps) _ first.state first.rest in
    ap suc (args_count Γ used (counted + length first.seen) first.state xs ps others.first)

-- what the callee left, and how it ended
pub record Came (frame : List ℕ) (own : ℕ) (ps : List Parameter) (ended : Ended) (r : Ending × List ℕ) : Type 0 where
  pub ends : Ends ended r.0
  pub laid : Laid frame own r.1
  pub fit : All2 FitParameter ps r.1

-- at any stage
module _ {nums directory ends : List ℕ} {scope : coded.Scope} {slots frame : List ℕ} {depth at : ℕ} {Γ : Scope} {used : ℕ}
    {es : List Entry} {s : State} {f : ℕ} {xs : Args} {c : Callable}
    (st : Stage nums directory ends scope slots frame Γ used es s)
    (w : CallAt nums ends depth at Γ f xs c)
    (g : Goes (counter_of slots) (call_in Γ used f xs c.parameters s)) where
  abbrev ps : List Parameter
  ps = c.parameters

  found : Reached Γ.program Γ.reach f c
  found = reached Γ.program Γ.reach f c w.is

  abbrev then_call : List ℕ → M State Ending
  then_call ns = run_call Γ used (calls_of Γ) f xs ps ns

  abbrev then_back : Ending × List ℕ → M State Ending
  then_back r = after_body r.0 (come_back Γ xs ps r.1)

  args-begun : Begun (counter_of slots) (args_in Γ used xs ps) then_call s
  unfolding call_in
  args-begun = then-goes _ _ s g

  own-inside : own_of Γ ≤ length frame
  own-inside = omega (
    arith,
    st.scene.frames.room,
    all2-length st.scene.fits.parameters-fit,
    all2-length st.scene.fits.locals-fit,
  )

  call-begun : (ns : List ℕ) (t : State) (counted : ℕ) → Goes counted (then_call ns t)
      → Begun counted (on_store (calls_of Γ used f ns)) then_back t
  unfolding run_call
  call-begun ns t counted h = then-goes _ _ t h

  body-goes : (ns : List ℕ) (t : State) (counted : ℕ) → Goes counted (then_call ns t)
      → Goes counted (body_in Γ.program f c used ns t.store)
  body-goes ns t counted h =
      rw (call-is Γ used f c ns t.store found) at
      (on-store-goes (calls_of Γ used f ns) t (call-begun ns t counted h).first)

  -- room for the callee's frame, and so for its arguments
  callee-room : own_of Γ + (length ps + length c.locals) ≤ length frame
  callee-room =
      let b = args-begun in
      let room = body-room Γ.program f c used b.answer b.state.store _
      (body-goes b.answer b.state _ b.rest) in
      omega (arith, room, st.room)

  args-at : (parameters count : ℕ) → StandsParameters nums parameters ps → count ≡ length ps
      → ArgsAt nums ends frame (depth - 1) (at + 3) parameters count (own_of Γ) Γ xs ps
  args-at parameters count z n = record {
    stand = w.stand;
    parameters_stand = z;
    counts = n ∙ args_count Γ used (counter_of slots) s xs ps args-begun.first;
    own = omega arith;
    inside = omega (arith, callee-room);
  }

  module _ {slots₁ frame₁ : List ℕ}
      (h : Ran nums directory ends scope slots slots₁ frame frame₁ Γ (args_in Γ used xs ps s)
      (Laying frame₁ (own_of Γ) ps)) where
    abbrev part : List ℕ
    part = lent_part frame₁ (own_of Γ)

    call-goes : Goes (counter_of slots₁) (then_call h.answer h.state)
    call-goes = going-rest st (args_in Γ used xs ps) then_call args-begun h

    callee-goes : Goes (counter_of slots₁) (body_in Γ.program f c used h.answer h.state.store)
    callee-goes = body-goes h.answer h.state (counter_of slots₁) call-goes

    inside₁ : own_of Γ ≤ length frame₁
    inside₁ = omega (arith, own-inside, h.same)

    callee-called : Called nums directory ends slots₁ part f Γ.program c used es h.answer
        h.state.store
    callee-called = record {
      end = st.scene.scopes.end;
      stands = st.scene.scopes.program;
      offset = st.scene.offset;
      tables = st.tables;
      is = found.is;
      fits = h.scene.fits.store-fits;
      store = h.scene.store;
      given = h.answers.fit;
      laid = part-laid frame₁ (own_of Γ) h.answer h.answers.laid;
      room = omega (arith, st.room, h.same, part_length frame₁ (own_of Γ) inside₁);
    }

    module _ {slots₂ part' : List ℕ} {ended : Ended}
        (b : RanBody slots₁ slots₂ part part' Γ.program c
        (body_in Γ.program f c used h.answer h.state.store) ended) where
      abbrev frame₂ : List ℕ
      frame₂ = put_back frame₁ (own_of Γ) part'

      abbrev cells : List Cell
      cells = b.cells

      few-left : length b.parameters ≤ length part'
      few-left = omega (arith, all2-length b.given, b.same, part_length frame₁ (own_of Γ) inside₁, h.same, callee-room)

      entered : Scene nums directory ends scope slots₂ frame₂ Γ (with_store h.state cells)
      entered = scene-entered nums directory ends scope slots₁ slots₂ frame₁ frame₂ Γ h.state cells h.scene
          w.outside b.fits b.store (back-length frame₁ (own_of Γ) part' inside₁ b.same)
          λ i l. back_below frame₁ (own_of Γ) part' inside₁ b.same i
          (omega (arith, all2-length h.scene.fits.parameters-fit, all2-length h.scene.fits.locals-fit))

      body-ran : Ran nums directory ends scope slots₁ slots₂ frame₁ frame₂ Γ
          (on_store (calls_of Γ used f h.answer) h.state) (Came frame₂ (own_of Γ) ps ended)
      body-ran = record {
        answer = (b.ending, b.parameters);
        state = with_store h.state cells;
        seen = b.seen;
        is = on-store-is (calls_of Γ used f h.answer) h.state
            (call-is Γ used f c h.answer h.state.store found ∙ b.is);
        scene = entered;
        counted = b.counted;
        same = back-length frame₁ (own_of Γ) part' inside₁ b.same;
        answers = record {
          ends = b.ends;
          laid = back-laid frame₁ (own_of Γ) part' b.parameters inside₁ b.same few-left b.laid;
          fit = b.given;
        };
      }

      back-goes : Goes (counter_of slots₂) (then_back body-ran.answer body-ran.state)
      back-goes = going-rest (stage-ran st h) (on_store (calls_of Γ used f h.answer)) then_back
          (call-begun h.answer h.state (counter_of slots₁) call-goes) body-ran

      left_at : (parameters count : ℕ) → StandsParameters nums parameters ps → count ≡ length ps
          → Left nums directory ends scope slots₂ frame₂ (at + 3) parameters count (own_of Γ) Γ body-ran.state
          xs ps body-ran.answer.1
      left_at parameters count z n = record {
        depth = depth - 1;
        scene = body-ran.scene;
        stand = w.stand;
        parameters_stand = z;
        counts = n ∙ args_count Γ used (counter_of slots) s xs ps args-begun.first;
        own = omega arith;
        room = omega (arith, n, callee-room, h.same, body-ran.same);
        fit = body-ran.answers.fit;
        laid = body-ran.answers.laid;
      }

      module _ {slots₃ frame₃ : List ℕ} {r : Ended}
          (k : Ran nums directory ends scope slots₂ slots₃ frame₂ frame₃ Γ
          (then_back body-ran.answer body-ran.state) (Ends r)) where
        call-ran : Ran nums directory ends scope slots slots₃ frame frame₃ Γ (call_in Γ used f xs ps s) (Ends r)
        unfolding call_in run_call
        call-ran = ran_then (args_in Γ used xs ps) then_call s h
            (ran_then (on_store (calls_of Γ used f h.answer)) then_back h.state body-ran k)

-- from the numbers: the callee's head, and the slots of the caller's own
module _ (nums directory ends : List ℕ) (scope : coded.Scope) (slots frame : List ℕ) (depth at : ℕ) where
  abbrev callee : ℕ
  callee = get_or nums (at + 1) 0

  module _ (a : AsksCall nums directory ends scope slots frame depth at) where
    pub call-inside : at + 1 < length nums
    call-inside = a.call.holds.inside

    pub call_next : at + 1 < 2 ^ 64
    call_next = omega (arith, call-inside, a.stage.scene.scopes.program.numbers)

    pub call-third : at + 3 < 2 ^ 64
    call-third = omega (arith, call-inside, a.stage.scene.scopes.program.numbers)

    pub call-levels : 1 ≤ depth
    call-levels = a.call.levels

    pub call-has : Has callables_of nums directory ends callee
    unfolding callables_of
    call-has =
        let r = found a.stage a.call a.going in
        record {
          program = a.scope_of.program;
          end = a.stage.scene.scopes.end;
          stands = a.stage.scene.scopes.program;
          inside = omega (
            arith,
            a.call.holds.is,
            member-in a.scope_of.program.callables a.callable a.found r.is,
          );
        }

    pub call-own : AsksOwn scope
    call-own = record {
      nums = nums;
      directory = directory;
      ends = ends;
      scope_of = a.scope_of;
      stands = a.stage.scene.scopes;
      few = a.stage.few;
    }

    pub call-falls : (t : ℕ) → rank (scope.reach) (32 * depth + 18) ≡ t → rank callee 4000 < t
    call-falls t e = rank-callee t (scope.reach) (32 * depth + 18) callee 4000 e
        (omega (arith, a.call.holds.is, (found a.stage a.call a.going).below, a.stage.scene.scopes.reach))
        (omega arith)

  module _ (kind returns parameters count own : ℕ)
      (head : Finds callables_of (FoundHead nums kind returns parameters count) nums directory ends callee)
      (o : Owns scope own) where
    module _ {Γ : Scope} {used : ℕ} {es : List Entry} {s : State} {f : ℕ} {xs : Args} {c : Callable}
        (st : Stage nums directory ends scope slots frame Γ used es s)
        (w : CallAt nums ends depth at Γ f xs c)
        (g : Goes (counter_of slots) (call_in Γ used f xs c.parameters s)) where
      head-is : FoundHead nums kind returns parameters count c
      unfolding callables_of
      head-is = head.finds Γ.program st.scene.scopes.end c st.scene.scopes.program
          (rw w.holds.is (found st w g).is)

      own_is : own ≡ own_of Γ
      own_is = o.is nums directory ends Γ st.scene.scopes

      arguments-at : ArgsAt nums ends frame (depth - 1) (at + 3) parameters count (own_of Γ) Γ xs c.parameters
      arguments-at = args-at st w g parameters count head-is.parameters_stand head-is.count_is

      arguments-ran : {slots₁ frame₁ : List ℕ}
          → RunsArgs nums directory ends scope slots slots₁ frame frame₁ (depth - 1) (at + 3)
          parameters count own
          → Ran nums directory ends scope slots slots₁ frame frame₁ Γ (args_in Γ used xs c.parameters s)
          (Laying frame₁ (own_of Γ) c.parameters)
      arguments-ran r = (rw own_is at r).runs Γ used es s xs c.parameters st arguments-at (args-begun st w g).first

      callee-ran : {slots₁ slots₂ frame₁ part part' : List ℕ} {ended : Ended}
          → (r : RunsArgs nums directory ends scope slots slots₁ frame frame₁ (depth - 1) (at + 3)
          parameters count own)
          → part ≡ lent_part frame₁ own
          → RunsBody nums directory ends slots₁ slots₂ part part' callee ended
          → RanBody slots₁ slots₂ (lent_part frame₁ (own_of Γ)) part' Γ.program c
          (body_in Γ.program f c used (arguments-ran r).answer (arguments-ran r).state.store) ended
      callee-ran {slots₁} {slots₂} {frame₁} {part} {part'} {ended} r e b =
          let h = arguments-ran r in
          let there : RunsBody nums directory ends slots₁ slots₂ (lent_part frame₁ (own_of Γ)) part'
          f ended = rw (e, own_is, w.holds.is) at b in
          there.runs Γ.program c used es h.answer h.state.store (callee-called st w g h) (callee-goes st w g h)

    module _ (a : AsksCall nums directory ends scope slots frame depth at) where
      few-arguments : count ≤ most_arguments
      few-arguments = omega (arith, (arguments-at a.stage a.call a.going).counts, a.call.count.at_most)

      pub call-own-low : own ≤ most_own
      call-own-low = omega (arith, own_is a.stage a.call a.going, a.stage.few)

      pub call-args : AsksArgs nums directory ends scope slots frame (depth - 1) (at + 3)
          parameters count own
      call-args = rw (own_is a.stage a.call a.going) (record {
        scope_of = a.scope_of;
        used = a.used;
        entry_list = a.entry_list;
        state = a.state;
        args = a.args;
        list = a.found.parameters;
        stage = a.stage;
        given = arguments-at a.stage a.call a.going;
        few = few-arguments;
        deep = omega (arith, a.deep);
        going = (args-begun a.stage a.call a.going).first;
      })

      pub call-args-fall : (t : ℕ) → rank (scope.reach) (32 * depth + 18) ≡ t
          → rank (scope.reach) (32 * (depth - 1) + 22 + count) < t
      call-args-fall t e = rank-lower t (scope.reach) (32 * depth + 18) (32 * (depth - 1) + 22 + count) e
          (omega (arith, few-arguments, a.call.levels))

      module _ (slots₁ frame₁ : List ℕ)
          (r : RunsArgs nums directory ends scope slots slots₁ frame frame₁ (depth - 1) (at + 3)
          parameters count own) where
        pub call-lent : own ≤ length frame₁
        call-lent = omega (
          arith,
          own_is a.stage a.call a.going,
          inside₁ a.stage a.call a.going (arguments-ran a.stage a.call a.going r),
        )

        pub call-body : (part : List ℕ) → part ≡ lent_part frame₁ own
            → AsksBody nums directory ends slots₁ part callee
        call-body part e =
            let h = arguments-ran a.stage a.call a.going r in
            rw (e, own_is a.stage a.call a.going, a.call.holds.is) (record {
              program = a.scope_of.program;
              found = a.found;
              used = a.used;
              entry_list = a.entry_list;
              given = h.answer;
              cells = h.state.store;
              called = callee-called a.stage a.call a.going h;
              going = callee-goes a.stage a.call a.going h;
            })

        module _ (slots₂ part part' frame₂ : List ℕ) (ended : Ended) (e : part ≡ lent_part frame₁ own)
            (b : RunsBody nums directory ends slots₁ slots₂ part part' callee ended)
            (q : frame₂ ≡ put_back frame₁ own part') where
          pub call-finish : AsksFinish nums directory ends scope slots₂ frame₂ at parameters count ended
          call-finish =
              let h = arguments-ran a.stage a.call a.going r in
              let y = callee-ran a.stage a.call a.going r e b in
              let z = body-ran a.stage a.call a.going h y in
              rw (q, own_is a.stage a.call a.going) (record {
                scope_of = a.scope_of;
                state = z.state;
                args = a.args;
                list = a.found.parameters;
                numbers = z.answer.1;
                inside = omega (arith, call-inside);
                few = a.stage.few;
                left = left_at a.stage a.call a.going h y parameters count
                    (head-is a.stage a.call a.going).parameters_stand
                    (head-is a.stage a.call a.going).count_is;
                ending = z.answer.0;
                told = z.answers.ends;
                counted = counter_of slots₂;
                going = back-goes a.stage a.call a.going h y;
              })

    pub call-runs : (slots₁ slots₂ slots₃ frame₁ frame₂ frame₃ part part' : List ℕ) (ended : Ended)
        → RunsArgs nums directory ends scope slots slots₁ frame frame₁ (depth - 1) (at + 3)
        parameters count own
        → RunsBody nums directory ends slots₁ slots₂ part part' callee ended
        → Finishes nums directory ends scope slots₂ slots₃ frame₂ frame₃ at parameters count ended
        → part ≡ lent_part frame₁ own → frame₂ ≡ put_back frame₁ own part'
        → RunsCall nums directory ends scope slots slots₃ frame frame₃ depth at ended
    call-runs slots₁ slots₂ slots₃ frame₁ frame₂ frame₃ part part' ended r b k e q = record {
      runs = λ Γ used es s f xs c st w g.
          let h = arguments-ran st w g r in
          let y = callee-ran st w g r e b in
          let z = body-ran st w g h y in
          let there : Finishes nums directory ends scope slots₂ slots₃ (put_back frame₁ (own_of Γ) part') frame₃ at
          parameters count ended = rw (q, own_is st w g) at k in
          call-ran st w g h y (there.finishes Γ z.state xs c.parameters z.answer.1 z.answer.0
          (counter_of slots₂) (left_at st w g h y parameters count (head-is st w g).parameters_stand (head-is st w g).count_is)
          z.answers.ends (back-goes st w g h y));
    }

pub ruleset call_runs = (
  call-inside,
  call_next,
  call-third,
  call-levels,
  call-has,
  call-own,
  call-falls,
  call-args,
  call-args-fall,
  call-lent,
  call-body,
  call-finish,
  call-runs,
)
