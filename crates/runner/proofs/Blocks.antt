-- A block: its members one after the other, up to the first that does not go on.
use Rattle.program.specs.declared.Scope as coded
use mathlib.Core.Path.{◌≡◌, refl, ◌∙◌, sym, ap}
use mathlib.Core.List.{List, [], ◌++◌}
use Prim.Native.Nat.{ℕ, ◌+◌, ◌-◌, ◌*◌, ◌≤◌, ◌<◌}
use native.Mathlib.Omega.{arith}
use lib.ListN.{length, get_or, length-append}
use Rattle.rules.specs.Syntax.{Stmt, Stmts, no_stmts, stmt}
use Rattle.rules.specs.Form.{Scope}
use Rattle.rules.specs.Lists.{Entry}
use Rattle.rules.specs.Running.{State, Ending, onward, Seen, done, M, more, ◌>>=◌, pure, and_then_run, run_stmts}
use Rattle.program.specs.Codes.{member_count}
use Rattle.program.specs.Stands.{StandsStmt, StandsStmts}
use Rattle.program.proofs.Views.{stmt-begins, BlockView, StmtView, stmt-view, MemberView, member-view, no-members}
use Rattle.steps.specs.declared.Ended.{Ended}
use Rattle.steps.specs.declared.Ended.TheVariants.{Onward}
use Rattle.steps.specs.Outcomes.{Goes, counter_of, Ran, Ends, ends-onward, ends-returned, ends-value, ends-exited, ends-rejected, Counts}
use Rattle.steps.proofs.Going.{Begun, then-goes, then_is, more-none, more-more}
use Rattle.runner.specs.Runs.{stmt_in, stmts_in, Stage}
use Rattle.runner.specs.Claims.{AsksStmt, RunsStmt, AsksTagged, AsksStmts, RunsStmts}
use Rattle.runner.proofs.Rank.{rank, rank-lower}
use Rattle.runner.proofs.Stages.{stage-counted, going-counted, ran-counted, stage-ran, going-rest}
use Rattle.runner.proofs.Stmts.{block-is}

-- the block itself
module _ (nums directory ends : List ℕ) (scope : coded.Scope) (slots frame : List ℕ) (depth at : ℕ)
    (a : AsksTagged 3 nums directory ends scope slots frame depth at) where
  block_at : (x : Stmt) → StandsStmt nums ends depth at x → BlockView nums ends depth at x
  unfolding StmtView
  block_at x w = rw a.tagged at (stmt-view w)

  blocks : BlockView nums ends depth at a.asks.stmt
  blocks = block_at a.asks.stmt a.asks.stands

  pub block_inside : at + 1 < length nums
  block_inside = blocks.count.holds.inside

  block_goes : (Γ : Scope) (used : ℕ) (es : List Entry) (s : State) (x : Stmt) (v : BlockView nums ends depth at x)
      (slots₁ : List ℕ) → Counts slots slots₁
      → Stage nums directory ends scope slots frame Γ used es s
      → Goes (counter_of slots) (stmt_in Γ used es x s) → Goes (counter_of slots₁) (stmts_in Γ used es v.members s)
  block_goes Γ used es s x v slots₁ c st g =
      going-counted st _ c (rw (block-is Γ used es s at x v.members v.same) at g)

  module _ (slots₁ : List ℕ) (c : Counts slots slots₁) (count : ℕ) (same : count ≡ get_or nums (at + 1) 0) where
    pub block-members : AsksStmts nums directory ends scope slots₁ frame (depth - 1) (at + 2) count
    block-members = record {
      scope_of = a.asks.scope_of;
      used = a.asks.used;
      entry_list = a.asks.entry_list;
      state = a.asks.state;
      stmts = blocks.members;
      stage = stage-counted a.asks.stage c;
      stand = blocks.stand;
      counts = same ∙ blocks.count.holds.is;
      deep = omega (arith, a.asks.deep);
      going = block_goes a.asks.scope_of a.asks.used a.asks.entry_list a.asks.state a.asks.stmt blocks
          slots₁ c a.asks.stage a.asks.going;
    }

    pub block-runs : (slots₂ frame₂ : List ℕ) (r : Ended)
        → RunsStmts nums directory ends scope slots₁ slots₂ frame frame₂ (depth - 1) (at + 2)
        count r
        → RunsStmt nums directory ends scope slots slots₂ frame frame₂ depth at r
    block-runs slots₂ frame₂ r k = record {
      runs = λ Γ used es s x st w g.
          let v = block_at x w in
          rw (block-is Γ used es s at x v.members v.same) (ran-counted st _ c (k.runs Γ used es s v.members
          (stage-counted st c) v.stand (same ∙ v.count.holds.is) (block_goes Γ used es s x v slots₁ c st g)));
    }

pub block-fall : (nums directory ends : List ℕ) (scope : coded.Scope) (slots frame : List ℕ) (depth at : ℕ)
    → AsksTagged 3 nums directory ends scope slots frame depth at
    → (t : ℕ) → rank (scope.reach) (2000 + 32 * depth + 19) ≡ t
    → rank (scope.reach) (2000 + 32 * (depth - 1) + 21) < t
block-fall nums directory ends scope slots frame depth at a t e =
    rank-lower t (scope.reach) (2000 + 32 * depth + 19) (2000 + 32 * (depth - 1) + 21) e
    (omega (arith, (stmt-begins a.asks.stands).levels))

pub ruleset block_runs = (block_inside, block-members, block-runs, block-fall)

-- its members: what is left of them
pub record Rest (nums directory ends : List ℕ) (scope : coded.Scope) (slots₀ slots frame₀ frame : List ℕ)
    (depth next left : ℕ) (Γ : Scope) (used : ℕ) (es : List Entry) (s : State) (ss : Stmts) : Type 0 where
  pub rest : Stmts
  pub state : State
  pub seen : Seen
  pub is : stmts_in Γ used es ss s ≡ more seen (stmts_in Γ used es rest state)
  pub stand : StandsStmts nums ends depth next rest
  pub counts : left ≡ member_count rest
  pub stage : Stage nums directory ends scope slots frame Γ used es state
  pub going : Goes (counter_of slots) (stmts_in Γ used es rest state)
  pub counted : counter_of slots ≡ counter_of slots₀ + length seen
  pub same : length frame ≡ length frame₀

pub record Blocking (nums directory ends : List ℕ) (scope : coded.Scope) (slots₀ slots frame₀ frame : List ℕ)
    (depth at count next past : ℕ) : Type 0 where
  pub kept : length frame ≡ length frame₀
  pub blocking : (Γ : Scope) (used : ℕ) (es : List Entry) (s : State) (ss : Stmts)
      → Stage nums directory ends scope slots₀ frame₀ Γ used es s
      → StandsStmts nums ends depth at ss → count ≡ member_count ss → Goes (counter_of slots₀) (stmts_in Γ used es ss s)
      → Rest nums directory ends scope slots₀ slots frame₀ frame depth next (count - past) Γ used es s ss

pub block-begins : (nums directory ends : List ℕ) (scope : coded.Scope) (slots frame : List ℕ) (depth at count : ℕ)
    → Blocking nums directory ends scope slots slots frame frame depth at count at 0
block-begins nums directory ends scope slots frame depth at count = record {
  kept = refl;
  blocking = λ Γ used es s ss st w n g. record {
    rest = ss;
    state = s;
    seen = [];
    is = sym (more-none (stmts_in Γ used es ss s));
    stand = w;
    counts = omega (arith, n);
    stage = st;
    going = g;
    counted = omega arith;
    same = refl;
  };
}

-- one member, then the others
abbrev then_rest : Scope → ℕ → List Entry → Stmts → Ending → M State Ending
then_rest Γ used es ss ending = and_then_run ending (stmts_in Γ used es ss)

members-split : (Γ : Scope) (used : ℕ) (es : List Entry) (s : State) (ss : Stmts) (x : Stmt) (xs : Stmts)
    → ss ≡ stmt x xs → stmts_in Γ used es ss s ≡ (stmt_in Γ used es x >>= then_rest Γ used es xs) s
unfolding stmts_in stmt_in run_stmts
members-split Γ used es s ss x xs e = rw e refl

-- a member that goes on, and one that does not
pub onward-is : (ended : Ended) (ending : Ending) → Ends ended ending → ended ≡ Onward → ending ≡ onward
onward-is ended ending ends-onward e = refl
onward-is ended ending ends-returned e = let z : ◌≡◌ {A = ℕ} 0 1 = cc in absurd (omega arith)
onward-is ended ending (ends-value v) e = let z : ◌≡◌ {A = ℕ} 0 1 = cc in absurd (omega arith)
onward-is ended ending ends-exited e = let z : ◌≡◌ {A = ℕ} 0 1 = cc in absurd (omega arith)
onward-is ended ending ends-rejected e = let z : ◌≡◌ {A = ℕ} 0 1 = cc in absurd (omega arith)

-- an ending that does not go on stays as it is
pub stops-is : (ended : Ended) (ending : Ending) (m : M State Ending) (s : State) → Ends ended ending
    → (ended ≡ Onward → ⊥) → and_then_run ending m s ≡ done ending s []
unfolding and_then_run pure
stops-is ended ending m s ends-onward n = absurd (n refl)
stops-is ended ending m s ends-returned n = refl
stops-is ended ending m s (ends-value v) n = refl
stops-is ended ending m s ends-exited n = refl
stops-is ended ending m s ends-rejected n = refl

-- at any stage
module _ {nums directory ends : List ℕ} {scope : coded.Scope} {slots₀ slots frame₀ frame : List ℕ} {depth next left : ℕ}
    {Γ : Scope} {used : ℕ} {es : List Entry} {s : State} {ss : Stmts}
    (b : Rest nums directory ends scope slots₀ slots frame₀ frame depth next left Γ used es s ss)
    (v : MemberView nums ends depth next left b.rest) where
  pub member-begun : Begun (counter_of slots) (stmt_in Γ used es v.first) (then_rest Γ used es v.others) b.state
  member-begun = then-goes _ _ b.state
      (rw (members-split Γ used es b.state b.rest v.first v.others v.same) at b.going)

  module _ {slots₁ frame₁ : List ℕ} {ended : Ended}
      (h : Ran nums directory ends scope slots slots₁ frame frame₁ Γ (stmt_in Γ used es v.first b.state)
      (Ends ended)) where
    member_is : stmts_in Γ used es ss s
        ≡ more b.seen (more h.seen (then_rest Γ used es v.others h.answer h.state))
    member_is = b.is ∙ ap (more b.seen)
        (members-split Γ used es b.state b.rest v.first v.others v.same
        ∙ then_is (stmt_in Γ used es v.first) (then_rest Γ used es v.others) b.state h.is)

    onward-rest : (ending : Ending) → ending ≡ onward
        → then_rest Γ used es v.others ending h.state ≡ stmts_in Γ used es v.others h.state
    unfolding and_then_run
    onward-rest ending e = rw e refl

    pub rest-again : ended ≡ Onward
        → Rest nums directory ends scope slots₀ slots₁ frame₀ frame₁ depth (get_or ends next 0)
        (left - 1) Γ used es s ss
    rest-again e =
        let on : h.answer ≡ onward = onward-is ended h.answer h.answers e in
        let same : then_rest Γ used es v.others h.answer h.state ≡ stmts_in Γ used es v.others h.state
        = onward-rest h.answer on in
        record {
          rest = v.others;
          state = h.state;
          seen = b.seen ++ h.seen;
          is = member_is ∙ (ap (λ o. more b.seen (more h.seen o)) same
              ∙ more-more b.seen h.seen (stmts_in Γ used es v.others h.state));
          stand = v.others_stand;
          counts = v.fewer;
          stage = stage-ran b.stage h;
          going = rw same at (going-rest b.stage (stmt_in Γ used es v.first) (then_rest Γ used es v.others)
              member-begun h);
          counted = omega (arith, b.counted, h.counted, length-append b.seen h.seen);
          same = omega (arith, b.same, h.same);
        }

    pub stops-ran : (ended ≡ Onward → ⊥)
        → Ran nums directory ends scope slots₀ slots₁ frame₀ frame₁ Γ (stmts_in Γ used es ss s) (Ends ended)
    unfolding more
    stops-ran n =
        let same : then_rest Γ used es v.others h.answer h.state ≡ done h.answer h.state []
        = stops-is ended h.answer (stmts_in Γ used es v.others) h.state h.answers n in
        record {
          answer = h.answer;
          state = h.state;
          seen = b.seen ++ (h.seen ++ []);
          is = member_is ∙ ap (λ o. more b.seen (more h.seen o)) same;
          scene = h.scene;
          counted = omega (
            arith,
            b.counted,
            h.counted,
            length-append b.seen (h.seen ++ []),
            length-append h.seen [],
          );
          same = omega (arith, b.same, h.same);
          answers = h.answers;
        }

-- the loop
module _ (nums directory ends : List ℕ) (scope : coded.Scope) (slots₀ slots frame₀ frame : List ℕ)
    (depth at count next past : ℕ)
    (g : Blocking nums directory ends scope slots₀ slots frame₀ frame depth at count next past)
  where
    module _ (l : past < count) where
      view : {Γ : Scope} {used : ℕ} {es : List Entry} {s : State} {ss : Stmts}
          → (b : Rest nums directory ends scope slots₀ slots frame₀ frame depth next (count - past) Γ used es
          s ss) → MemberView nums ends depth next (count - past) b.rest
      view b = member-view (count - past) b.rest b.stand b.counts (λ e. absurd (omega (arith, e)))

      module _ (a : AsksStmts nums directory ends scope slots₀ frame₀ depth at count) where
        here : Rest nums directory ends scope slots₀ slots frame₀ frame depth next
            (count - past) a.scope_of a.used a.entry_list a.state a.stmts
        here = g.blocking a.scope_of a.used a.entry_list a.state a.stmts a.stage a.stand a.counts
            a.going

        pub member-asks : AsksStmt nums directory ends scope slots frame depth next
        member-asks = record {
          scope_of = a.scope_of;
          used = a.used;
          entry_list = a.entry_list;
          state = here.state;
          stmt = (view here).first;
          stage = here.stage;
          stands = (view here).first_stands;
          deep = a.deep;
          going = (member-begun here (view here)).first;
        }

        pub member-inside : next < length ends
        member-inside =
            omega (arith, (stmt-begins (view here).first_stands).inside, a.stage.scene.scopes.program.room)

      member-ran : {slots₁ frame₁ : List ℕ} {ended : Ended}
          → RunsStmt nums directory ends scope slots slots₁ frame frame₁ depth next ended
          → {Γ : Scope} {used : ℕ} {es : List Entry} {s : State} {ss : Stmts}
          → (b : Rest nums directory ends scope slots₀ slots frame₀ frame depth next (count - past) Γ used es
          s ss)
          → Ran nums directory ends scope slots slots₁ frame frame₁ Γ
          (stmt_in Γ used es (view b).first b.state) (Ends ended)
      member-ran r {Γ} {used} {es} b = r.runs Γ used es b.state (view b).first b.stage (view b).first_stands
          (member-begun b (view b)).first

      pub block-again : (slots₁ frame₁ : List ℕ) (ended : Ended) (next₁ : ℕ)
          → RunsStmt nums directory ends scope slots slots₁ frame frame₁ depth next ended
          → length frame₁ ≡ length frame → ended ≡ Onward → next₁ ≡ get_or ends next 0
          → Blocking nums directory ends scope slots₀ slots₁ frame₀ frame₁ depth at count next₁
          (past + 1)
      block-again slots₁ frame₁ ended next₁ r q e n =
          let fewer : count - (past + 1) ≡ count - past - 1 = omega arith in
          rw n (record {
            kept = q ∙ g.kept;
            blocking = λ Γ used es s ss st w k d.
                let b = g.blocking Γ used es s ss st w k d in
                rw fewer (rest-again b (view b) (member-ran r b) e);
          })

      pub block-stops : (slots₁ frame₁ : List ℕ) (ended : Ended)
          → RunsStmt nums directory ends scope slots slots₁ frame frame₁ depth next ended
          → (ended ≡ Onward → ⊥)
          → RunsStmts nums directory ends scope slots₀ slots₁ frame₀ frame₁ depth at count ended
      block-stops slots₁ frame₁ ended q n = record {
        runs = λ Γ used es s ss st v k d.
            let b = g.blocking Γ used es s ss st v k d in
            stops-ran b (view b) (member-ran q b) n;
      }

    none_left : (Γ : Scope) (used : ℕ) (es : List Entry) (s : State) (ss : Stmts) → ss ≡ no_stmts
        → stmts_in Γ used es ss s ≡ done onward s []
    unfolding stmts_in run_stmts pure
    none_left Γ used es s ss e = rw e refl

    pub block-ends : count ≤ past
        → RunsStmts nums directory ends scope slots₀ slots frame₀ frame depth at count Onward
    unfolding more
    block-ends e = record {
      runs = λ Γ used es s ss st v k d.
          let b = g.blocking Γ used es s ss st v k d in
          let none = none_left Γ used es b.state b.rest (no-members b.rest (omega (arith, b.counts))) in
          record {
            answer = onward;
            state = b.state;
            seen = b.seen ++ [];
            is = b.is ∙ ap (more b.seen) none;
            scene = b.stage.scene;
            counted = omega (arith, b.counted, length-append b.seen []);
            same = b.same;
            answers = ends-onward;
          };
    }

pub member-fall : (scope : coded.Scope) (depth t : ℕ) → rank (scope.reach) (2000 + 32 * depth + 21) ≡ t
    → rank (scope.reach) (2000 + 32 * depth + 20) < t
member-fall scope depth t e =
    rank-lower t (scope.reach) (2000 + 32 * depth + 21) (2000 + 32 * depth + 20) e (omega arith)

pub ruleset member_runs = (
  block-begins,
  member-asks,
  member-inside,
  block-again,
  block-stops,
  block-ends,
  member-fall,
)
