-- What is asked and promised where a statement runs no other construct.
use Rattle.program.specs.declared.Scope as coded
use Rattle.std.specs.Prelude.{List, ℕ}
use Rattle.rules.specs.Syntax.{Stmt, empty, assign, if_else, block, call_stmt, apply, return_value, return, exit, set_valid, set_invalid, extract, verify}
use Rattle.rules.specs.Form.{is_state, Scope}
use Rattle.rules.specs.Running as rules
use Rattle.rules.specs.Running.{State, Ending, onward, returned, exited, M, pure, nowhere, must, make_valid, make_invalid, change_header, extract_at, leave_by}
use Rattle.program.specs.Stands.{StandsStmt}
use Rattle.store.specs.Mirrors.{Scene}
use Rattle.steps.specs.declared.Ended.{Ended}
use Rattle.steps.specs.Outcomes.{Goes, Ran, Ends}

-- what it does, its step counted
unfoldable pub single_in : Scope → Stmt → M State Ending
single_in Γ (empty at) = pure onward
single_in Γ (assign at target p e) = nowhere
single_in Γ (if_else at c a b) = nowhere
single_in Γ (block at ss) = nowhere
single_in Γ (call_stmt at f xs) = nowhere
single_in Γ (apply at t) = nowhere
single_in Γ (return_value at e) = nowhere
single_in Γ (return at) = leave_by Γ.body returned
single_in Γ (exit at) = leave_by Γ.body exited
single_in Γ (set_valid at g) = rules.◌>>=◌ (change_header Γ g make_valid) λ _. pure onward
single_in Γ (set_invalid at g) = rules.◌>>=◌ (change_header Γ g make_invalid) λ _. pure onward
single_in Γ (extract at g) = rules.◌>>=◌ (must (is_state Γ.body)) λ _. extract_at Γ g
single_in Γ (verify at c e) = nowhere

pub record AsksSingle (nums directory ends slots : List ℕ) (at : ℕ) : Type 0 where
  pub scope : coded.Scope
  pub frame : List ℕ
  pub scope_of : Scope
  pub state : State
  pub stmt : Stmt
  pub depth : ℕ
  pub counted : ℕ
  pub scene : Scene nums directory ends scope slots frame scope_of state
  pub stands : StandsStmt nums ends depth at stmt
  pub going : Goes counted (single_in scope_of stmt state)

pub record RunsSingle (nums directory ends slots slots' : List ℕ) (at : ℕ) (r : Ended) : Type 0 where
  pub runs : (scope : coded.Scope) (frame : List ℕ) (Γ : Scope) (s : State) (st : Stmt) (depth counted : ℕ)
      → Scene nums directory ends scope slots frame Γ s → StandsStmt nums ends depth at st
      → Goes counted (single_in Γ st s)
      → Ran nums directory ends scope slots slots' frame frame Γ (single_in Γ st s) (Ends r)
