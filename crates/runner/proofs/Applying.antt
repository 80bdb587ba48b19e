-- An apply: it stands in the apply body, and runs its table.
use Rattle.program.specs.declared.Scope as coded
use mathlib.Core.Bool.{Bool, true, false}
use mathlib.Core.Path.{◌≡◌, refl}
use mathlib.Core.List.{List}
use Prim.Native.Nat.{ℕ, ◌+◌, ◌*◌, ◌<◌}
use native.Mathlib.Omega.{arith}
use lib.ListN.{length, get_or}
use Rattle.rules.specs.Syntax.{Stmt, apply, Program}
use Rattle.rules.specs.Form.{is_apply, Scope, apply_scope}
use Rattle.rules.specs.Lists.{Entry}
use Rattle.rules.specs.Running.{State, tick}
use Rattle.program.specs.Stands.{StandsStmt}
use Rattle.program.proofs.Views.{NamedView, StmtView, stmt-view}
use Rattle.steps.specs.declared.Ended.{Ended}
use Rattle.steps.specs.Outcomes.{Goes, counter_of, Ran, Ends, Counts}
use Rattle.steps.proofs.Going.{not-nowhere}
use Rattle.runner.specs.Runs.{applied_in, stmt_in, table_in, Stage}
use Rattle.runner.specs.Claims.{AsksTagged, RunsStmt, AsksTable, RunsTable}
use Rattle.runner.proofs.Rank.{rank, rank-lower}
use Rattle.runner.proofs.Stages.{stage-counted, going-counted, ran-counted}
use Rattle.runner.proofs.Stmts.{apply-is}

-- an apply stands in the apply body
applied-is : (P : Program) (used : ℕ) (es : List Entry) (t : ℕ) (s : State)
    → applied_in (apply_scope P) used es t s ≡ table_in P used es t s
unfolding applied_in apply_scope is_apply table_in
applied-is P used es t s = refl

apply-body : (Γ : Scope) (used : ℕ) (es : List Entry) (t : ℕ) (s : State) (counted : ℕ)
    → Goes counted (applied_in Γ used es t s) → is_apply Γ.body ≡ true
apply-body Γ used es t s counted g = go (is_apply Γ.body) refl g
  where
    go : (b : Bool) → is_apply Γ.body ≡ b → Goes counted (applied_in Γ used es t s) → is_apply Γ.body ≡ true
    go true q h = q
    go false q h = unfold applied_in in not-nowhere s (rw (q, applied_in) at h)

-- at any stage
module _ {nums directory ends : List ℕ} {scope : coded.Scope} {slots slots₁ frame : List ℕ} {depth at : ℕ} {Γ : Scope}
    {used : ℕ} {es : List Entry} {s : State} {x : Stmt} (v : NamedView nums ends depth at x (apply at))
    (st : Stage nums directory ends scope slots frame Γ used es s) (c : Counts slots slots₁)
    (g : Goes (counter_of slots) (stmt_in Γ used es x s)) where
  abbrev t : ℕ
  t = v.name

  abbrev P : Program
  P = Γ.program

  apply-same : stmt_in Γ used es x s ≡ tick (applied_in Γ used es t) s
  apply-same = apply-is Γ used es s at x t v.same

  applied-goes : Goes (counter_of slots₁) (applied_in Γ used es t s)
  applied-goes = going-counted st (applied_in Γ used es t) c (rw apply-same at g)

  body_is : Γ ≡ apply_scope P
  body_is = st.apply (apply-body Γ used es t s (counter_of slots₁) applied-goes)

  table-stage : Stage nums directory ends scope slots₁ frame (apply_scope P) used es s
  table-stage = moved Γ P body_is (stage-counted st c)
    where
      moved : (Γ : Scope) (P : Program) → Γ ≡ apply_scope P
          → Stage nums directory ends scope slots₁ frame Γ used es s
          → Stage nums directory ends scope slots₁ frame (apply_scope P) used es s
      moved Γ P e h = rw e at h

  table-goes : Goes (counter_of slots₁) (table_in P used es t s)
  table-goes = moved Γ P body_is applied-goes
    where
      moved : (Γ : Scope) (P : Program) → Γ ≡ apply_scope P → Goes (counter_of slots₁) (applied_in Γ used es t s)
          → Goes (counter_of slots₁) (table_in P used es t s)
      moved Γ P e h = rw (applied-is P used es t s) at (rw e at h)

  apply-ran : {slots₂ frame₂ : List ℕ} {r : Ended}
      → Ran nums directory ends scope slots₁ slots₂ frame frame₂ (apply_scope P) (table_in P used es t s) (Ends r)
      → Ran nums directory ends scope slots slots₂ frame frame₂ Γ (stmt_in Γ used es x s) (Ends r)
  apply-ran {slots₂} {frame₂} {r} h =
      rw apply-same (ran-counted st (applied_in Γ used es t) c (moved Γ P body_is h))
    where
      moved : (Γ : Scope) (P : Program) → Γ ≡ apply_scope P
          → Ran nums directory ends scope slots₁ slots₂ frame frame₂ (apply_scope P) (table_in P used es t s) (Ends r)
          → Ran nums directory ends scope slots₁ slots₂ frame frame₂ Γ (applied_in Γ used es t s) (Ends r)
      moved Γ P e k = rw e (rw (applied-is P used es t s) k)

module _ (nums directory ends : List ℕ) (scope : coded.Scope) (slots frame : List ℕ) (depth at : ℕ)
    (a : AsksTagged 5 nums directory ends scope slots frame depth at) where
  apply_at : (x : Stmt) → StandsStmt nums ends depth at x → NamedView nums ends depth at x (apply at)
  unfolding StmtView
  apply_at x w = rw a.tagged at (stmt-view w)

  applies : NamedView nums ends depth at a.asks.stmt (apply at)
  applies = apply_at a.asks.stmt a.asks.stands

  pub apply-inside : at + 1 < length nums
  apply-inside = applies.holds.inside

  module _ (slots₁ : List ℕ) (c : Counts slots slots₁) (number : ℕ) (same : number ≡ get_or nums (at + 1) 0) where
    pub apply-table : AsksTable nums directory ends scope slots₁ frame number
    apply-table = rw (same, applies.holds.is) (record {
      program = a.asks.scope_of.program;
      used = a.asks.used;
      entry_list = a.asks.entry_list;
      state = a.asks.state;
      stage = table-stage applies a.asks.stage c a.asks.going;
      going = table-goes applies a.asks.stage c a.asks.going;
    })

    pub apply-runs : (slots₂ frame₂ : List ℕ) (r : Ended)
        → RunsTable nums directory ends scope slots₁ slots₂ frame frame₂ number r
        → RunsStmt nums directory ends scope slots slots₂ frame frame₂ depth at r
    apply-runs slots₂ frame₂ r k = record {
      runs = λ Γ used es s x st w g.
          let v = apply_at x w in
          let there : RunsTable nums directory ends scope slots₁ slots₂ frame frame₂ v.name r
          = rw (same, v.holds.is) at k in
          apply-ran v st c g (there.runs Γ.program used es s (table-stage v st c g) (table-goes v st c g));
    }

pub apply-fall : (scope : coded.Scope) (depth x : ℕ) → rank (scope.reach) (2000 + 32 * depth + 19) ≡ x
    → rank (scope.reach) 1500 < x
apply-fall scope depth x e = rank-lower x (scope.reach) (2000 + 32 * depth + 19) 1500 e (omega arith)

pub ruleset apply_runs = (apply-inside, apply-table, apply-runs, apply-fall)
