-- What the functions below the passes ask and promise: literals, operators, places and names.
use Rattle.program.specs.declared.Scope as coded
use Rattle.std.specs.Prelude.{Bool, true, false, ◌||◌, ◌≡◌, List, ℕ, ◌+◌, ◌≤◌, ◌<◌, eqb, length, get_or, Result, Ok, Err, Some, None}
use Rattle.std.specs.Prelude.{Option as Optional}
use Rattle.std.proofs.Math.Option.{Option, none, some}
use Rattle.rules.specs.declared.Reason.TheVariants.{Unnamed}
use Rattle.rules.specs.declared.Fault.{Fault}
use Rattle.rules.specs.Numbers.{most_bytes}
use Rattle.rules.specs.Words.{widest, slice_fits, slice_width, join_fits}
use Rattle.rules.specs.Syntax.{Ty, bool, bits, Operator, local, parameter, global, field, header, Expr, Program, place_in}
use Rattle.rules.specs.Reading.{highest_bound}
use Rattle.rules.specs.Form.{Res, ok, ◌>>=◌, need, fits, Shape, a_variable, a_header, global_at, Body, Scope, sees_globals, writable, writable_in, shape_in, judge_field, judge_place, judge_header_at, whole_bytes, width_at, need_ty, judge_operator, function_ty, may_call}
use Rattle.program.specs.Codes.{ty_of, operator_number}
use Rattle.program.specs.Stands.{Holds, StandsExpr, StandsWidths, StandsProgram}
use Rattle.program.specs.Looks.{returns_of}
use Rattle.program.specs.Scopes.{body_numbered, StandsScope}
use Rattle.bodies.specs.declared.Found.{Found}
use Rattle.bodies.specs.declared.Found.TheVariants.{Variable, Header}
use Rattle.bodies.specs.Claims.{Typed, told_ty, TyMost, AsksExpr, JudgesExpr}

-- an answer is the rules'
pub record Tells (r : Typed) (is : Res Ty) : Type 0 where
  pub judged : told_ty r ≡ is
  pub most : TyMost r

-- in a body of a kind
pub record TellsIn (scope : coded.Scope) (judge : Body → Res Ty) (r : Typed) : Type 0 where
  pub judged : (b : Body) → body_numbered scope.kind scope.returns ≡ b → told_ty r ≡ judge b
  pub most : TyMost r

-- a type where a rule holds
unfoldable pub checked_ty : ℕ → Bool → Ty → Res Ty
checked_ty at holds t = need 7 at holds >>= λ _. ok t

pub record MostIf (holds : Bool) (t : ℕ) : Type 0 where
  pub most : holds ≡ true → t ≤ widest

-- literals, by their numbers
pub record IsWidth (width : ℕ) : Type 0 where
  pub least : 1 ≤ width
  pub most : width ≤ widest

unfoldable pub bool_ty : ℕ → ℕ → Res Ty
bool_ty at n = need 7 at (fits bool n) >>= λ _. ok bool

unfoldable pub bits_ty : ℕ → ℕ → ℕ → Res Ty
bits_ty at width n = need 7 at (fits (bits width) n) >>= λ _. ok (bits width)

-- one operand of a type, by the tag at an index
unfoldable pub not_ty : ℕ → Ty → Res Ty
not_ty at t = need_ty at bool t >>= λ _. ok bool

unfoldable pub complement_ty : ℕ → Ty → Res Ty
complement_ty at t = width_at at t >>= λ width. ok (bits width)

unfoldable pub cast_ty : ℕ → ℕ → Ty → Res Ty
cast_ty at width t = width_at at t >>= λ _. ok (bits width)

unfoldable pub slice_ty : ℕ → ℕ → ℕ → Ty → Res Ty
slice_ty at high low t = do
  width ← width_at at t
  bounds ← need 7 at (slice_fits high low width)
  ok (bits (slice_width high low))

pub record SliceMost (high t : ℕ) : Type 0 where
  pub bound : high ≤ highest_bound
  pub most : t ≤ widest

pub record SliceIn (nums : List ℕ) (at : ℕ) : Type 0 where
  pub inside : at + 2 < length nums
  pub bound : get_or nums (at + 1) 0 ≤ highest_bound

pub record AsksOne (nums : List ℕ) (at t : ℕ) : Type 0 where
  pub numbers : length nums ≤ most_bytes
  pub inside : at < length nums
  pub most : t ≤ widest
  pub cast : get_or nums at 0 ≡ 10 → Holds nums (at + 1) (get_or nums (at + 1) 0) × IsWidth (get_or nums (at + 1) 0)
  pub slice : (get_or nums at 0 ≡ 7 → ⊥) → (get_or nums at 0 ≡ 8 → ⊥) → (get_or nums at 0 ≡ 10 → ⊥) → SliceIn nums at

pub record OneTyped (nums : List ℕ) (at t : ℕ) (r : Typed) : Type 0 where
  pub negation : get_or nums at 0 ≡ 7 → told_ty r ≡ not_ty at (ty_of t)
  pub complement : get_or nums at 0 ≡ 8 → told_ty r ≡ complement_ty at (ty_of t)
  pub cast : get_or nums at 0 ≡ 10 → told_ty r ≡ cast_ty at (get_or nums (at + 1) 0) (ty_of t)
  pub slice : get_or nums at 0 ≡ 11 → told_ty r ≡ slice_ty at (get_or nums (at + 1) 0) (get_or nums (at + 2) 0) (ty_of t)
  pub most : TyMost r

-- two operands
unfoldable pub join_ty : ℕ → Ty → Ty → Res Ty
join_ty at t u = do
  v ← width_at at t
  w ← width_at at u
  most ← need 7 at (join_fits v w)
  ok (bits (v + w))

pub record TwoMost (t u : ℕ) : Type 0 where
  pub left : t ≤ widest
  pub right : u ≤ widest

pub record OperatorTyped (at number t u : ℕ) (r : Typed) : Type 0 where
  pub judged : (o : Operator) → operator_number o ≡ number → told_ty r ≡ judge_operator at o (ty_of t) (ty_of u)
  pub most : TyMost r

pub record AsksTwo (nums : List ℕ) (at t u : ℕ) : Type 0 where
  pub numbers : length nums ≤ most_bytes
  pub inside : at + 1 < length nums
  pub most : TwoMost t u

pub record TwoTyped (nums : List ℕ) (at t u : ℕ) (r : Typed) : Type 0 where
  pub binary : get_or nums at 0 ≡ 9 → (o : Operator) → operator_number o ≡ get_or nums (at + 1) 0
      → told_ty r ≡ judge_operator at o (ty_of t) (ty_of u)
  pub join : get_or nums at 0 ≡ 12 → told_ty r ≡ join_ty at (ty_of t) (ty_of u)
  pub most : TyMost r

-- where operands stand: so many numbers behind the tag; and whether there are two
unfoldable pub takes_two : ℕ → Bool
takes_two tag = eqb tag 9 || eqb tag 12

unfoldable pub lead_by : Bool → Bool → ℕ
lead_by true two = 3
lead_by false true = 2
lead_by false false = 1

unfoldable pub lead_length : ℕ → ℕ
lead_length tag = lead_by (eqb tag 11) (eqb tag 9 || eqb tag 10)

pub record Inside (nums : List ℕ) (at : ℕ) : Type 0 where
  pub numbers : length nums ≤ most_bytes
  pub inside : at < length nums

pub record OperandsAt (nums : List ℕ) (at first : ℕ) (two : Bool) : Type 0 where
  pub first_is : first ≡ at + lead_length (get_or nums at 0)
  pub two_is : two ≡ takes_two (get_or nums at 0)

-- names: a scope is seen, and a number stands behind the tag
pub record AsksName (nums directory ends : List ℕ) (scope : coded.Scope) (at : ℕ) : Type 0 where
  pub scope_of : Scope
  pub seen : StandsScope nums directory ends scope scope_of
  pub inside : at + 1 < length nums

pub record TypedIn (nums directory ends : List ℕ) (scope : coded.Scope) (judge : Scope → Res Ty) (r : Typed) : Type 0 where
  pub judged : (Γ : Scope) → StandsScope nums directory ends scope Γ → told_ty r ≡ judge Γ
  pub most : TyMost r

pub record AsksFieldName (nums directory ends : List ℕ) (scope : coded.Scope) (at : ℕ) : Type 0 where
  pub name : AsksName nums directory ends scope at
  pub inside : at + 2 < length nums

-- the same where only the numbers and the scope are looked at
pub record AsksSlot (nums : List ℕ) (scope : coded.Scope) (at : ℕ) : Type 0 where
  pub directory : List ℕ
  pub ends : List ℕ
  pub asks : AsksName nums directory ends scope at

pub record SlotTyped (nums : List ℕ) (scope : coded.Scope) (judge : Scope → Res Ty) (r : Typed) : Type 0 where
  pub typed : (directory ends : List ℕ) → TypedIn nums directory ends scope judge r

unfoldable pub local_ty : List ℕ → ℕ → Scope → Res Ty
local_ty nums at Γ = judge_place Γ at (local (get_or nums (at + 1) 0))

unfoldable pub parameter_ty : List ℕ → ℕ → Scope → Res Ty
parameter_ty nums at Γ = judge_place Γ at (parameter (get_or nums (at + 1) 0))

unfoldable pub variable_ty : List ℕ → ℕ → Scope → Res Ty
variable_ty nums at Γ = judge_place Γ at (global (get_or nums (at + 1) 0))

unfoldable pub field_ty : List ℕ → ℕ → Scope → Res Ty
field_ty nums at Γ = judge_place Γ at (field (get_or nums (at + 1) 0) (get_or nums (at + 2) 0))

unfoldable pub header_ty : List ℕ → ℕ → Scope → Res Ty
header_ty nums at Γ = judge_header_at Γ at (get_or nums (at + 1) 0) >>= λ _. ok bool

-- what a global is
pub record AsksProgram (nums directory ends : List ℕ) : Type 0 where
  pub program : Program
  pub end : ℕ
  pub stands : StandsProgram nums directory ends program end

pub record HeaderFound (nums : List ℕ) (at : ℕ) (s : Option Shape) : Type 0 where
  pub widths : List ℕ
  pub is : s ≡ some (a_header widths)
  pub count : Holds nums at (length widths)
  pub stand : StandsWidths nums (at + 1) widths

unfoldable pub FoundShape : List ℕ → Optional Found → Option Shape → Type 0
FoundShape nums (Some (Variable t)) s = (t ≤ widest) × (s ≡ some (a_variable (ty_of t)))
FoundShape nums (Some (Header at)) s = HeaderFound nums at s
FoundShape nums None s = s ≡ none

pub record FindsGlobal (nums directory ends : List ℕ) (g : ℕ) (r : Optional Found) : Type 0 where
  pub found : (P : Program) (end : ℕ) → StandsProgram nums directory ends P end → FoundShape nums r (global_at P g)

-- the global whose number stands behind the tag
pub record AsksGlobal (nums directory ends : List ℕ) (at : ℕ) : Type 0 where
  pub program : AsksProgram nums directory ends
  pub inside : at + 1 < length nums

unfoldable pub NamedShape : List ℕ → ℕ → Result Found Fault → Option Shape → Type 0
NamedShape nums at (Ok found) s = FoundShape nums (Some found) s
NamedShape nums at (Err f) s = (s ≡ none) × (f ≡ record { reason = Unnamed; index = at + 1 })

pub record NamesGlobal (nums directory ends : List ℕ) (at : ℕ) (r : Result Found Fault) : Type 0 where
  pub named : (P : Program) (end : ℕ) → StandsProgram nums directory ends P end
      → NamedShape nums at r (global_at P (get_or nums (at + 1) 0))

pub record FindsHeader (nums directory ends : List ℕ) (h : ℕ) (r : Optional Found) : Type 0 where
  pub found : (P : Program) (end : ℕ) → StandsProgram nums directory ends P end
      → FoundShape nums r (shape_in P (header h))

-- a type behind a global that is seen
pub record SeenTyped (scope : coded.Scope) (at t : ℕ) (r : Typed) : Type 0 where
  pub judged : (b : Body) → body_numbered scope.kind scope.returns ≡ b
      → told_ty r ≡ (need 8 at (sees_globals b) >>= λ _. ok (ty_of t))
  pub most : TyMost r

pub record AsksField (nums : List ℕ) (at header : ℕ) : Type 0 where
  pub numbers : length nums ≤ most_bytes
  pub inside : at + 2 < length nums
  pub widths : List ℕ
  pub count : Holds nums header (length widths)
  pub stand : StandsWidths nums (header + 1) widths

pub record FieldTyped (nums : List ℕ) (scope : coded.Scope) (at header : ℕ) (r : Typed) : Type 0 where
  pub judged : (b : Body) → body_numbered scope.kind scope.returns ≡ b → (widths : List ℕ)
      → Holds nums header (length widths) → StandsWidths nums (header + 1) widths
      → told_ty r ≡ (judge_field at (get_or nums (at + 2) 0) (a_header widths) >>= λ t. need 8 at
      (sees_globals b) >>= λ _. ok t)
  pub most : TyMost r

-- whether the header type at an index has whole bytes
pub record AsksWidths (nums : List ℕ) (header : ℕ) : Type 0 where
  pub numbers : length nums ≤ most_bytes
  pub widths : List ℕ
  pub count : Holds nums header (length widths)
  pub stand : StandsWidths nums (header + 1) widths

pub record IsWhole (nums : List ℕ) (header : ℕ) (r : Bool) : Type 0 where
  pub is : (widths : List ℕ) → Holds nums header (length widths) → StandsWidths nums (header + 1) widths
      → r ≡ whole_bytes widths

-- whether the expression at an index is a place that may be written
pub record AsksWritable (nums : List ℕ) (scope : coded.Scope) (at : ℕ) : Type 0 where
  pub directory : List ℕ
  pub ends : List ℕ
  pub depth : ℕ
  pub asks : AsksExpr nums directory ends scope depth at

pub record IsWritable (nums : List ℕ) (scope : coded.Scope) (at : ℕ) (r : Bool) : Type 0 where
  pub told : (directory ends : List ℕ) (depth : ℕ) (Γ : Scope) (e : Expr) → StandsScope nums directory ends scope Γ
      → StandsExpr nums ends depth at e → r ≡ writable_in Γ (place_in e)

pub record IsWritableParameter (nums : List ℕ) (scope : coded.Scope) (at : ℕ) (r : Bool) : Type 0 where
  pub told : (directory ends : List ℕ) (Γ : Scope) → StandsScope nums directory ends scope Γ
      → r ≡ writable Γ (parameter (get_or nums (at + 1) 0))

-- an expression that has no operands
pub record AsksLeaf (nums directory ends : List ℕ) (scope : coded.Scope) (at : ℕ) : Type 0 where
  pub depth : ℕ
  pub asks : AsksExpr nums directory ends scope depth at
  pub leaf : get_or nums at 0 < 7

pub record JudgesLeaf (nums directory ends : List ℕ) (scope : coded.Scope) (at : ℕ) (r : Typed) : Type 0 where
  pub judges : (depth : ℕ) → JudgesExpr nums directory ends scope depth at r

-- one that has operands and is no call
pub record AsksOperands (nums directory ends : List ℕ) (scope : coded.Scope) (depth at : ℕ) : Type 0 where
  pub asks : AsksExpr nums directory ends scope depth at
  pub inner : 7 ≤ get_or nums at 0
  pub no_call : get_or nums at 0 ≡ 13 → ⊥

-- the value of a call that is an expression, by what the callable returns
unfoldable pub value_in : ℕ → Body → Option Ty → Res Ty
value_in at b returns = need 8 at (may_call b returns) >>= λ _. function_ty at returns

unfoldable pub value_ty : ℕ → ℕ → ℕ → Body → Res Ty
value_ty at kind returns b = value_in at b (returns_of kind returns)
