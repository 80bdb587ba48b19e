-- What is asked of values that are worked out, and what is promised of the value that an operator, a cast, a slice or a
-- concatenation makes of them (document 01, "How it runs"). A value is two numbers: its type's, as the program writes
-- it, and its own.
use Rattle.std.specs.Prelude.{true, ◌≡◌, ℕ, ◌≤◌}
use Rattle.std.proofs.Math.Option.{Option, none, some}
use Rattle.rules.specs.Words.{widest}
use Rattle.rules.specs.Syntax.{Value, value, Operator, arithmetic, order, shift, equality, logic}
use Rattle.rules.specs.Form.{fits}
use Rattle.rules.specs.Running.{arithmetic_on, order_on, shift_on, equality_on, cast_on}
use Rattle.program.specs.Codes.{ty_of, operator_number}

-- the value that two numbers stand for
unfoldable pub value_of : ℕ → ℕ → Value
value_of ty number = value (ty_of ty) number

-- there is such a type, and the number fits it
pub record IsValue (ty number : ℕ) : Type 0 where
  pub most : ty ≤ widest
  pub fit : fits (ty_of ty) number ≡ true

-- the rules' answer is the value of two numbers
pub record Gives (answer : Option Value) (ty number : ℕ) : Type 0 where
  pub given : answer ≡ some (value_of ty number)
  pub is_value : IsValue ty number

-- a value on which the rules have an answer
pub record AsksOne (on : Value → Option Value) (ty number : ℕ) : Type 0 where
  pub operand : IsValue ty number
  pub answer : Value
  pub answered : on (value_of ty number) ≡ some answer

pub record AsksCast (width ty number : ℕ) : Type 0 where
  pub least : 1 ≤ width
  pub most : width ≤ widest
  pub asks : AsksOne (cast_on width) ty number

-- two values on which the rules have an answer
pub record AsksTwo (on : Value → Value → Option Value) (left_ty left right_ty right : ℕ) : Type 0 where
  pub first : IsValue left_ty left
  pub second : IsValue right_ty right
  pub answer : Value
  pub answered : on (value_of left_ty left) (value_of right_ty right) ≡ some answer

-- what an operator gives once both operands are worked out; both and either stop early, and are not among them
unfoldable pub binary_on : Operator → Value → Value → Option Value
binary_on (arithmetic o) v u = arithmetic_on o v u
binary_on (order o) v u = order_on o v u
binary_on (shift o) v u = shift_on o v u
binary_on (equality o) v u = equality_on o v u
binary_on (logic o) v u = none

pub record AsksBinary (operator left_ty left right_ty right : ℕ) : Type 0 where
  pub of : Operator
  pub numbered : operator_number of ≡ operator
  pub asks : AsksTwo (binary_on of) left_ty left right_ty right

pub record GivesBinary (operator left_ty left right_ty right ty number : ℕ) : Type 0 where
  pub given : (o : Operator) → operator_number o ≡ operator
      → binary_on o (value_of left_ty left) (value_of right_ty right) ≡ some (value_of ty number)
  pub is_value : IsValue ty number

-- two numbers put together
pub record Made (from_ty from_number ty number : ℕ) : Type 0 where
  pub ty_is : ty ≡ from_ty
  pub number_is : number ≡ from_number
