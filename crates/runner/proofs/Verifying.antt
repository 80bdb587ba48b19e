-- A verify: its condition runs, and where it is false the error behind it rejects.
use Rattle.program.specs.declared.Scope as coded
use mathlib.Core.Path.{◌≡◌, refl, ◌∙◌, ap}
use mathlib.Core.List.{List, [], ◌∷◌}
use Prim.Native.Nat.{ℕ, ◌+◌, ◌-◌, ◌<◌}
use native.Mathlib.Omega.{arith}
use lib.ListN.{length, get_or}
use Rattle.rules.specs.Numbers.{most_bytes}
use Rattle.rules.specs.Syntax.{Value, Expr, Stmt, verify}
use Rattle.rules.specs.Form.{is_state, Scope}
use Rattle.rules.specs.Lists.{Entry}
use Rattle.rules.specs.Running.{State, Ending, onward, rejected, M, more, ◌>>=◌, pure, tick, must, choose, run_stmt}
use Rattle.program.specs.Stands.{StandsStmt}
use Rattle.program.proofs.Views.{expr-begins, VerifyView, StmtView, stmt-view}
use Rattle.values.specs.declared.Value as values
use Rattle.values.specs.Claims.{value_of}
use Rattle.steps.specs.declared.Ended.TheVariants.{Onward, Rejected}
use Rattle.steps.specs.Outcomes.{Goes, counter_of, Ran, Gave, Ends, ends-onward, ends-rejected, Counts}
use Rattle.steps.proofs.Going.{tick_goes, must-then-goes, must-then-is, ran-here}
use Rattle.runner.specs.Runs.{expr_in, stmt_in, Stage}
use Rattle.runner.specs.Claims.{AsksExpr, RunsExpr, RunsStmt, AsksTagged}
use Rattle.runner.proofs.Stages.{stage-counted}
use Rattle.runner.proofs.Stmts.{operand-begun, operand-rest, operand-ran, chosen-zero, chosen_more}

-- what it is, once its form is known
module _ (Γ : Scope) (used : ℕ) (es : List Entry) (s : State) (at : ℕ) where
  abbrev verified : ℕ → Value → M State Ending
  verified error v = choose v (pure onward) (pure (rejected error))

  abbrev verifying : Expr → ℕ → M State Ending
  verifying c error = must (is_state Γ.body) >>= λ _. expr_in Γ used c >>= verified error

  verify-is : (x : Stmt) (c : Expr) (error : ℕ) → x ≡ verify at c error
      → stmt_in Γ used es x s ≡ tick (verifying c error) s
  unfolding stmt_in expr_in run_stmt
  verify-is x c error q = rw q refl

  -- in a state it is its condition and what follows
  verify-on : (x : Stmt) (c : Expr) (error counted : ℕ) → x ≡ verify at c error → Goes counted (stmt_in Γ used es x s)
      → stmt_in Γ used es x s ≡ tick (expr_in Γ used c >>= verified error) s
  verify-on x c error counted q g =
      let there : Goes counted (tick (verifying c error) s) = rw (verify-is x c error q) at g in
      let m = must-then-goes (is_state Γ.body) (λ _. expr_in Γ used c >>= verified error) s
      (tick_goes (verifying c error) s there) in
      verify-is x c error q ∙ (unfold tick in
      ap (more (s.store ∷ [])) (must-then-is (is_state Γ.body) (λ _. expr_in Γ used c >>= verified error) s m.0))

module _ {nums directory ends : List ℕ} {scope : coded.Scope} {slots slots₁ frame : List ℕ} {depth at : ℕ} {Γ : Scope}
    {used : ℕ} {es : List Entry} {s : State} {x : Stmt} (v : VerifyView nums ends depth at x)
    (st : Stage nums directory ends scope slots frame Γ used es s) (c : Counts slots slots₁)
    (g : Goes (counter_of slots) (stmt_in Γ used es x s)) where
  verify-same : stmt_in Γ used es x s
      ≡ tick (expr_in Γ used v.condition >>= verified Γ used es s at v.error) s
  verify-same = verify-on Γ used es s at x v.condition v.error (counter_of slots) v.same g

  verify-ticks : Goes (counter_of slots) (tick (expr_in Γ used v.condition >>= verified Γ used es s at v.error) s)
  verify-ticks = rw verify-same at g

  verify-first : Goes (counter_of slots₁) (expr_in Γ used v.condition s)
  verify-first = (operand-begun v.condition (verified Γ used es s at v.error) st c verify-ticks).first

  module _ {slots₂ frame₂ : List ℕ} {y : values.Value}
      (h : Ran nums directory ends scope slots₁ slots₂ frame frame₂ Γ (expr_in Γ used v.condition s)
      (Gave y.ty y.number)) where
    verify-rest : Goes (counter_of slots₂) (verified Γ used es s at v.error (value_of y.ty y.number) h.state)
    verify-rest = operand-rest v.condition (verified Γ used es s at v.error) st c verify-ticks h

    rejects-ran : y.number ≡ 0
        → Ran nums directory ends scope slots slots₂ frame frame₂ Γ (stmt_in Γ used es x s) (Ends (Rejected v.error))
    unfolding pure
    rejects-ran q =
        rw verify-same (operand-ran v.condition (verified Γ used es s at v.error) st c verify-ticks h
        (ran-here h.state (rejected v.error) h.scene
        (chosen-zero y.ty y.number (counter_of slots₂) (pure onward) (pure (rejected v.error)) h.state q
        verify-rest) ends-rejected))

    verified-ran : (y.number ≡ 0 → ⊥)
        → Ran nums directory ends scope slots slots₂ frame frame₂ Γ (stmt_in Γ used es x s) (Ends Onward)
    unfolding pure
    verified-ran q =
        rw verify-same (operand-ran v.condition (verified Γ used es s at v.error) st c verify-ticks h
        (ran-here h.state onward h.scene
        (chosen_more y.ty y.number (counter_of slots₂) (pure onward) (pure (rejected v.error)) h.state q
        verify-rest) ends-onward))

module _ (nums directory ends : List ℕ) (scope : coded.Scope) (slots frame : List ℕ) (depth at : ℕ)
    (a : AsksTagged 12 nums directory ends scope slots frame depth at) where
  verify-at : (x : Stmt) → StandsStmt nums ends depth at x → VerifyView nums ends depth at x
  unfolding StmtView
  verify-at x w = rw a.tagged at (stmt-view w)

  verifies : VerifyView nums ends depth at a.asks.stmt
  verifies = verify-at a.asks.stmt a.asks.stands

  pub verify-inside : at + 1 < length ends
  verify-inside = omega (arith, (expr-begins verifies.stands).inside, a.asks.stage.scene.scopes.program.room)

  pub verify-error : (error : ℕ) → error ≡ get_or ends (at + 1) 0 → error < length nums
  verify-error error e = rw e verifies.holds.holds.inside

  pub verify-low : (error : ℕ) → error ≡ get_or ends (at + 1) 0 → error < most_bytes
  verify-low error e =
      omega (arith, verify-error error e, a.asks.stage.scene.scopes.program.numbers)

  module _ (slots₁ : List ℕ) (c : Counts slots slots₁) where
    pub verify-condition : AsksExpr nums directory ends scope slots₁ frame (depth - 1) (at + 1)
    verify-condition = record {
      scope_of = a.asks.scope_of;
      used = a.asks.used;
      entry_list = a.asks.entry_list;
      state = a.asks.state;
      expr = verifies.condition;
      stage = stage-counted a.asks.stage c;
      stands = verifies.stands;
      deep = omega (arith, a.asks.deep);
      going = verify-first verifies a.asks.stage c a.asks.going;
    }

    module _ (slots₂ frame₂ : List ℕ) (y : values.Value)
        (r : RunsExpr nums directory ends scope slots₁ slots₂ frame frame₂ (depth - 1) (at + 1) y) where
      pub verify-rejects : (error : ℕ) → y.number ≡ 0 → error ≡ get_or ends (at + 1) 0
          → RunsStmt nums directory ends scope slots slots₂ frame frame₂ depth at (Rejected (get_or nums error 0))
      verify-rejects error q e = record {
        runs = λ Γ used es s x st w g.
            let v = verify-at x w in
            rw (e, v.holds.holds.is) (rejects-ran v st c g
            (r.runs Γ used es s v.condition (stage-counted st c) v.stands (verify-first v st c g)) q);
      }

      pub verify-goes : (y.number ≡ 0 → ⊥)
          → RunsStmt nums directory ends scope slots slots₂ frame frame₂ depth at Onward
      verify-goes q = record {
        runs = λ Γ used es s x st w g.
            let v = verify-at x w in
            verified-ran v st c g
            (r.runs Γ used es s v.condition (stage-counted st c) v.stands (verify-first v st c g)) q;
      }

pub ruleset verify_runs = (verify-inside, verify-error, verify-low, verify-condition, verify-rejects, verify-goes)
