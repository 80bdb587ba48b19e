-- What is asked and promised where an expression has its operands' values, or needs none.
use Rattle.program.specs.declared.Scope as coded
use Rattle.std.specs.Prelude.{Bool, true, false, ◌≡◌, List, [], ℕ, zero, suc, ◌≤◌, length}
use Rattle.std.proofs.Math.Option.{Option, none, some}
use Rattle.rules.specs.Numbers.{most_bytes}
use Rattle.rules.specs.Syntax.{bool, bits, Value, value, Operator, arithmetic, order, shift, equality, logic, Logic, both, either}
use Rattle.rules.specs.Syntax.{Expr, bool_literal, bits_literal, read_of, valid_of, negation, complement, binary, cast, slice, concatenation, call_expr}
use Rattle.rules.specs.Form.{only_if, fits, Scope}
use Rattle.rules.specs.Running.{State, Out, done, M, nowhere, or_stuck, read_at, valid_at, not_on, complement_on, cast_on, slice_on, concatenation_on, a_bool}
use Rattle.program.specs.Stands.{StandsExpr}
use Rattle.values.specs.Claims.{value_of, IsValue, Gives, binary_on}
use Rattle.store.specs.Mirrors.{Scene}
use Rattle.steps.specs.Outcomes.{Goes}

-- what an expression without operands does, its step counted
unfoldable pub leaf_in : Scope → Expr → M State Value
leaf_in Γ (bool_literal at n) = or_stuck (only_if (fits bool n) (some (value bool n)))
leaf_in Γ (bits_literal at width n) = or_stuck (only_if (fits (bits width) n) (some (value (bits width) n)))
leaf_in Γ (read_of at p) = read_at Γ p
leaf_in Γ (valid_of at g) = valid_at Γ g
leaf_in Γ (negation at a) = nowhere
leaf_in Γ (complement at a) = nowhere
leaf_in Γ (binary at o a b) = nowhere
leaf_in Γ (cast at width a) = nowhere
leaf_in Γ (slice at high low a) = nowhere
leaf_in Γ (concatenation at a b) = nowhere
leaf_in Γ (call_expr at f xs) = nowhere

-- what one makes of its only operand
unfoldable pub on_one : Expr → Value → Option Value
on_one (bool_literal at n) v = none
on_one (bits_literal at width n) v = none
on_one (read_of at p) v = none
on_one (valid_of at g) v = none
on_one (negation at a) v = not_on v
on_one (complement at a) v = complement_on v
on_one (binary at o a b) v = none
on_one (cast at width a) v = cast_on width v
on_one (slice at high low a) v = slice_on high low v
on_one (concatenation at a b) v = none
on_one (call_expr at f xs) v = none

-- whether both and either are settled by the first operand, and what an operator makes of both operands where it is not
unfoldable pub settles : Logic → Value → Bool
settles both (value t zero) = true
settles both (value t (suc n)) = false
settles either (value t zero) = false
settles either (value t (suc n)) = true

unfoldable pub settled_by : Operator → Value → Bool
settled_by (arithmetic o) v = false
settled_by (order o) v = false
settled_by (shift o) v = false
settled_by (equality o) v = false
settled_by (logic o) v = settles o v

unfoldable pub operator_on : Operator → Value → Value → Option Value
operator_on (arithmetic o) v u = binary_on (arithmetic o) v u
operator_on (order o) v u = binary_on (order o) v u
operator_on (shift o) v u = binary_on (shift o) v u
operator_on (equality o) v u = binary_on (equality o) v u
operator_on (logic o) v u = a_bool u

-- the same of an expression
unfoldable pub stops_at : Expr → Value → Bool
stops_at (bool_literal at n) v = false
stops_at (bits_literal at width n) v = false
stops_at (read_of at p) v = false
stops_at (valid_of at g) v = false
stops_at (negation at a) v = false
stops_at (complement at a) v = false
stops_at (binary at o a b) v = settled_by o v
stops_at (cast at width a) v = false
stops_at (slice at high low a) v = false
stops_at (concatenation at a b) v = false
stops_at (call_expr at f xs) v = false

unfoldable pub on_two : Expr → Value → Value → Option Value
on_two (bool_literal at n) v u = none
on_two (bits_literal at width n) v u = none
on_two (read_of at p) v u = none
on_two (valid_of at g) v u = none
on_two (negation at a) v u = none
on_two (complement at a) v u = none
on_two (binary at o a b) v u = operator_on o v u
on_two (cast at width a) v u = none
on_two (slice at high low a) v u = none
on_two (concatenation at a b) v u = concatenation_on v u
on_two (call_expr at f xs) v u = none

-- an expression without operands, from which the rules go on
pub record AsksLeaf (nums directory ends : List ℕ) (scope : coded.Scope) (slots frame : List ℕ) (at : ℕ) : Type 0 where
  pub scope_of : Scope
  pub state : State
  pub expr : Expr
  pub depth : ℕ
  pub counted : ℕ
  pub scene : Scene nums directory ends scope slots frame scope_of state
  pub stands : StandsExpr nums ends depth at expr
  pub going : Goes counted (leaf_in scope_of expr state)

-- its value; the state stays, and nothing more is seen
pub record LeafGave (s : State) (o : Out State Value) (ty number : ℕ) : Type 0 where
  pub is : o ≡ done (value_of ty number) s []
  pub is_value : IsValue ty number

pub record GivesLeaf (nums directory ends : List ℕ) (scope : coded.Scope) (slots frame : List ℕ) (at ty number : ℕ) : Type 0 where
  pub gives : (Γ : Scope) (s : State) (e : Expr) (depth counted : ℕ)
      → Scene nums directory ends scope slots frame Γ s → StandsExpr nums ends depth at e
      → Goes counted (leaf_in Γ e s) → LeafGave s (leaf_in Γ e s) ty number

-- an expression with one operand, which has a value
pub record AsksOneOn (nums : List ℕ) (at ty number : ℕ) : Type 0 where
  pub ends : List ℕ
  pub depth : ℕ
  pub expr : Expr
  pub answer : Value
  pub numbers : length nums ≤ most_bytes
  pub stands : StandsExpr nums ends depth at expr
  pub operand : IsValue ty number
  pub answered : on_one expr (value_of ty number) ≡ some answer

pub record GivesOne (nums : List ℕ) (at ty number ty' number' : ℕ) : Type 0 where
  pub gives : (ends : List ℕ) (depth : ℕ) (e : Expr) (answer : Value) → StandsExpr nums ends depth at e
      → on_one e (value_of ty number) ≡ some answer → Gives (on_one e (value_of ty number)) ty' number'

-- an expression whose first operand has a value: whether that settles it
pub record AsksStop (nums : List ℕ) (at : ℕ) : Type 0 where
  pub ends : List ℕ
  pub depth : ℕ
  pub expr : Expr
  pub numbers : length nums ≤ most_bytes
  pub stands : StandsExpr nums ends depth at expr

pub record TellsStop (nums : List ℕ) (at ty number : ℕ) (r : Bool) : Type 0 where
  pub tells : (ends : List ℕ) (depth : ℕ) (e : Expr) → StandsExpr nums ends depth at e
      → r ≡ stops_at e (value_of ty number)

-- one with two operands, which have values
pub record AsksTwoOn (nums : List ℕ) (at ty number ty₂ number₂ : ℕ) : Type 0 where
  pub ends : List ℕ
  pub depth : ℕ
  pub expr : Expr
  pub answer : Value
  pub numbers : length nums ≤ most_bytes
  pub stands : StandsExpr nums ends depth at expr
  pub first : IsValue ty number
  pub second : IsValue ty₂ number₂
  pub answered : on_two expr (value_of ty number) (value_of ty₂ number₂) ≡ some answer

pub record GivesTwo (nums : List ℕ) (at ty number ty₂ number₂ ty' number' : ℕ) : Type 0 where
  pub gives : (ends : List ℕ) (depth : ℕ) (e : Expr) (answer : Value) → StandsExpr nums ends depth at e
      → IsValue ty₂ number₂ → on_two e (value_of ty number) (value_of ty₂ number₂) ≡ some answer
      → Gives (on_two e (value_of ty number) (value_of ty₂ number₂)) ty' number'
