-- The form of the construct at an index: what the rules make of it once its step is counted, whatever the scope.
use Rattle.std.specs.Prelude.{◌≡◌, List, ℕ, ◌-◌, get_or}
use Rattle.rules.specs.Syntax.{Value, Expr, bool_literal, bits_literal, read_of, valid_of, negation, complement, binary, cast, slice, concatenation, call_expr, Stmt}
use Rattle.rules.specs.Form.{Scope}
use Rattle.rules.specs.Running as rules
use Rattle.rules.specs.Running.{State, Ending, M, nowhere, tick, or_stuck, concatenation_on, binary_with, Calls, run_expr, run_stmt}
use Rattle.program.specs.Stands.{StandsExpr, StandsStmt}
use Rattle.steps.specs.Operands.{leaf_in, on_one}
use Rattle.steps.specs.Singles.{single_in}

-- no operand
pub record LeafAt (nums ends : List ℕ) (depth at : ℕ) : Type 0 where
  pub is : (e : Expr) → StandsExpr nums ends depth at e → (Γ : Scope) (used : ℕ) (calls : Calls)
      → run_expr Γ used calls e ≡ tick (leaf_in Γ e)

-- one, which begins at an index
pub record OneIn (nums ends : List ℕ) (depth first : ℕ) (e : Expr) : Type 0 where
  pub operand : Expr
  pub stands : StandsExpr nums ends (depth - 1) first operand
  pub is : (Γ : Scope) (used : ℕ) (calls : Calls)
      → run_expr Γ used calls e ≡ tick (rules.◌>>=◌ (run_expr Γ used calls operand) λ v. or_stuck (on_one e v))

pub record OneAt (nums ends : List ℕ) (depth at first : ℕ) : Type 0 where
  pub one : (e : Expr) → StandsExpr nums ends depth at e → OneIn nums ends depth first e

-- two, the first of which begins there
unfoldable pub pair_with : Expr → M State Value → M State Value → M State Value
pair_with (bool_literal at n) a b = nowhere
pair_with (bits_literal at width n) a b = nowhere
pair_with (read_of at p) a b = nowhere
pair_with (valid_of at g) a b = nowhere
pair_with (negation at x) a b = nowhere
pair_with (complement at x) a b = nowhere
pair_with (binary at o x y) a b = binary_with o a b
pair_with (cast at width x) a b = nowhere
pair_with (slice at high low x) a b = nowhere
pair_with (concatenation at x y) a b = rules.◌>>=◌ a λ v. rules.◌>>=◌ b λ u. or_stuck (concatenation_on v u)
pair_with (call_expr at f xs) a b = nowhere

pub record TwoIn (nums ends : List ℕ) (depth first : ℕ) (e : Expr) : Type 0 where
  pub left : Expr
  pub right : Expr
  pub left_stands : StandsExpr nums ends (depth - 1) first left
  pub right_stands : StandsExpr nums ends (depth - 1) (get_or ends first 0) right
  pub is : (Γ : Scope) (used : ℕ) (calls : Calls)
      → run_expr Γ used calls e ≡ tick (pair_with e (run_expr Γ used calls left) (run_expr Γ used calls right))

pub record TwoAt (nums ends : List ℕ) (depth at first : ℕ) : Type 0 where
  pub two : (e : Expr) → StandsExpr nums ends depth at e → TwoIn nums ends depth first e

-- a statement that runs no other construct
pub record SingleAt (nums ends : List ℕ) (depth at : ℕ) : Type 0 where
  pub is : (st : Stmt) → StandsStmt nums ends depth at st
      → (Γ : Scope) (used : ℕ) (calls : Calls) (applied : ℕ → M State Ending)
      → run_stmt Γ used calls applied st ≡ tick (single_in Γ st)
