-- What the functions of the run ask and promise one another. Each asks that the rules go on from what stands in the
-- slots, and promises what they come to.
use Rattle.program.specs.declared.Scope as coded
use Rattle.std.specs.Prelude.{false, ◌≡◌, List, [], ◌∷◌, ℕ, ◌+◌, ◌-◌, ◌≤◌, ◌<◌, length, get_or}
use Rattle.std.proofs.Math.Option.{some}
use Rattle.rules.specs.Syntax.{Expr, Args, Stmt, Stmts, Parameter, Callable, Key, Table, Program, place_in}
use Rattle.rules.specs.Reading.{deepest, most_keys, most_arguments}
use Rattle.rules.specs.Form.{callable_below, is_state, Scope, apply_scope}
use Rattle.rules.specs.Lists.{Entry, Cell}
use Rattle.rules.specs.Running.{State, M, go_in, Worked}
use Rattle.rules.proofs.Predicates.{All2}
use Rattle.rules.proofs.Fits.{FitParameter}
use Rattle.program.specs.Codes.{direction_number, arg_count, member_count}
use Rattle.program.specs.Stands.{Holds, HoldsWithin, StandsExpr, StandsArgs, StandsStmt, StandsStmts, StandsParameters, StandsNumerals, StandsKeys}
use Rattle.lists.specs.Stands.{HoldsAll}
use Rattle.values.specs.declared.Value.{Value}
use Rattle.steps.specs.declared.Ended.{Ended}
use Rattle.steps.specs.Outcomes.{Goes, counter_of, Ran, Gave, Ends, Laid}
use Rattle.steps.specs.Calls.{own_of}
use Rattle.runner.specs.Runs.{expr_in, args_in, call_in, stmt_in, stmts_in, body_in, table_in, keys_in, action_in, Stage, Called, RanBody}
use Rattle.runner.specs.Forms.{LeafAt, OneAt, TwoAt, SingleAt}

-- an expression
pub record AsksExpr (nums directory ends : List ℕ) (scope : coded.Scope) (slots frame : List ℕ) (depth at : ℕ)
    : Type 0 where
  pub scope_of : Scope
  pub used : ℕ
  pub entry_list : List Entry
  pub state : State
  pub expr : Expr
  pub stage : Stage nums directory ends scope slots frame scope_of used entry_list state
  pub stands : StandsExpr nums ends depth at expr
  pub deep : depth ≤ deepest
  pub going : Goes (counter_of slots) (expr_in scope_of used expr state)

pub record RunsExpr (nums directory ends : List ℕ) (scope : coded.Scope) (slots slots' frame frame' : List ℕ) (depth at : ℕ)
    (r : Value) : Type 0 where
  pub runs : (Γ : Scope) (used : ℕ) (es : List Entry) (s : State) (e : Expr)
      → Stage nums directory ends scope slots frame Γ used es s → StandsExpr nums ends depth at e
      → Goes (counter_of slots) (expr_in Γ used e s)
      → Ran nums directory ends scope slots slots' frame frame' Γ (expr_in Γ used e s) (Gave r.ty r.number)

-- one without operands, with one whose operand begins at an index, with two whose first begins there, a call
pub record AsksLeafAt (nums directory ends : List ℕ) (scope : coded.Scope) (slots frame : List ℕ) (depth at : ℕ)
    : Type 0 where
  pub asks : AsksExpr nums directory ends scope slots frame depth at
  pub leaf : LeafAt nums ends depth at

pub record AsksOne (nums directory ends : List ℕ) (scope : coded.Scope) (slots frame : List ℕ) (depth at first : ℕ)
    : Type 0 where
  pub asks : AsksExpr nums directory ends scope slots frame depth at
  pub one : OneAt nums ends depth at first

pub record AsksTwo (nums directory ends : List ℕ) (scope : coded.Scope) (slots frame : List ℕ) (depth at first : ℕ)
    : Type 0 where
  pub asks : AsksExpr nums directory ends scope slots frame depth at
  pub two : TwoAt nums ends depth at first

pub record AsksValue (nums directory ends : List ℕ) (scope : coded.Scope) (slots frame : List ℕ) (depth at : ℕ)
    : Type 0 where
  pub asks : AsksExpr nums directory ends scope slots frame depth at
  pub tagged : get_or nums at 0 ≡ 13

-- a call, as an expression or a statement: its callable is found, and it stands in no state
pub record CallAt (nums ends : List ℕ) (depth at : ℕ) (Γ : Scope) (f : ℕ) (xs : Args) (c : Callable) : Type 0 where
  pub levels : 0 < depth
  pub holds : Holds nums (at + 1) f
  pub count : HoldsWithin 0 most_arguments nums (at + 2) (arg_count xs)
  pub stand : StandsArgs nums ends (depth - 1) (at + 3) xs
  pub is : callable_below Γ.program Γ.reach f ≡ some c
  pub outside : is_state Γ.body ≡ false

pub record AsksCall (nums directory ends : List ℕ) (scope : coded.Scope) (slots frame : List ℕ) (depth at : ℕ)
    : Type 0 where
  pub scope_of : Scope
  pub used : ℕ
  pub entry_list : List Entry
  pub state : State
  pub callable : ℕ
  pub args : Args
  pub found : Callable
  pub stage : Stage nums directory ends scope slots frame scope_of used entry_list state
  pub call : CallAt nums ends depth at scope_of callable args found
  pub deep : depth ≤ deepest
  pub going : Goes (counter_of slots) (call_in scope_of used callable args found.parameters state)

pub record RunsCall (nums directory ends : List ℕ) (scope : coded.Scope) (slots slots' frame frame' : List ℕ) (depth at : ℕ)
    (r : Ended) : Type 0 where
  pub runs : (Γ : Scope) (used : ℕ) (es : List Entry) (s : State) (f : ℕ) (xs : Args) (c : Callable)
      → Stage nums directory ends scope slots frame Γ used es s
      → CallAt nums ends depth at Γ f xs c → Goes (counter_of slots) (call_in Γ used f xs c.parameters s)
      → Ran nums directory ends scope slots slots' frame frame' Γ (call_in Γ used f xs c.parameters s) (Ends r)

-- one argument, whose parameter stands at an index
unfoldable pub arg_in : Scope → ℕ → Expr → Parameter → M State ℕ
arg_in Γ used e p = go_in Γ p (place_in e) (expr_in Γ used e)

pub record AsksArg (nums directory ends : List ℕ) (scope : coded.Scope) (slots frame : List ℕ) (depth at parameters : ℕ)
    : Type 0 where
  pub scope_of : Scope
  pub used : ℕ
  pub entry_list : List Entry
  pub state : State
  pub expr : Expr
  pub parameter : Parameter
  pub stage : Stage nums directory ends scope slots frame scope_of used entry_list state
  pub stands : StandsExpr nums ends depth at expr
  pub direction : Holds nums parameters (direction_number parameter.direction)
  pub deep : depth ≤ deepest
  pub going : Goes (counter_of slots) (arg_in scope_of used expr parameter state)

pub record Went (p : Parameter) (r n : ℕ) : Type 0 where
  pub is : n ≡ r
  pub fit : FitParameter p n

pub record RunsArg (nums directory ends : List ℕ) (scope : coded.Scope) (slots slots' frame frame' : List ℕ)
    (depth at parameters r : ℕ) : Type 0 where
  pub runs : (Γ : Scope) (used : ℕ) (es : List Entry) (s : State) (e : Expr) (p : Parameter)
      → Stage nums directory ends scope slots frame Γ used es s → StandsExpr nums ends depth at e
      → Holds nums parameters (direction_number p.direction) → Goes (counter_of slots) (arg_in Γ used e p s)
      → Ran nums directory ends scope slots slots' frame frame' Γ (arg_in Γ used e p s) (Went p r)

-- so many arguments, into free slots one after the other
pub record ArgsAt (nums ends frame : List ℕ) (depth at parameters count slot : ℕ) (Γ : Scope) (xs : Args)
    (ps : List Parameter) : Type 0 where
  pub stand : StandsArgs nums ends depth at xs
  pub parameters_stand : StandsParameters nums parameters ps
  pub counts : count ≡ arg_count xs
  pub own : own_of Γ ≤ slot
  pub inside : slot + count ≤ length frame

pub record AsksArgs (nums directory ends : List ℕ) (scope : coded.Scope) (slots frame : List ℕ)
    (depth at parameters count slot : ℕ) : Type 0 where
  pub scope_of : Scope
  pub used : ℕ
  pub entry_list : List Entry
  pub state : State
  pub args : Args
  pub list : List Parameter
  pub stage : Stage nums directory ends scope slots frame scope_of used entry_list state
  pub given : ArgsAt nums ends frame depth at parameters count slot scope_of args list
  pub few : count ≤ most_arguments
  pub deep : depth ≤ deepest
  pub going : Goes (counter_of slots) (args_in scope_of used args list state)

pub record Laying (frame : List ℕ) (slot : ℕ) (ps : List Parameter) (ns : List ℕ) : Type 0 where
  pub laid : Laid frame slot ns
  pub fit : All2 FitParameter ps ns

pub record RunsArgs (nums directory ends : List ℕ) (scope : coded.Scope) (slots slots' frame frame' : List ℕ)
    (depth at parameters count slot : ℕ) : Type 0 where
  pub runs : (Γ : Scope) (used : ℕ) (es : List Entry) (s : State) (xs : Args) (ps : List Parameter)
      → Stage nums directory ends scope slots frame Γ used es s
      → ArgsAt nums ends frame depth at parameters count slot Γ xs ps → Goes (counter_of slots) (args_in Γ used xs ps s)
      → Ran nums directory ends scope slots slots' frame frame' Γ (args_in Γ used xs ps s) (Laying frame' slot ps)

-- the body of callable f
pub record AsksBody (nums directory ends slots frame : List ℕ) (f : ℕ) : Type 0 where
  pub program : Program
  pub found : Callable
  pub used : ℕ
  pub entry_list : List Entry
  pub given : List ℕ
  pub cells : List Cell
  pub called : Called nums directory ends slots frame f program found used entry_list given cells
  pub going : Goes (counter_of slots) (body_in program f found used given cells)

pub record RunsBody (nums directory ends slots slots' frame frame' : List ℕ) (f : ℕ) (r : Ended)
    : Type 0 where
  pub runs : (P : Program) (c : Callable) (used : ℕ) (es : List Entry) (ns : List ℕ) (cells : List Cell)
      → Called nums directory ends slots frame f P c used es ns cells
      → Goes (counter_of slots) (body_in P f c used ns cells)
      → RanBody slots slots' frame frame' P c (body_in P f c used ns cells) r

-- a statement; one of a tag
pub record AsksStmt (nums directory ends : List ℕ) (scope : coded.Scope) (slots frame : List ℕ) (depth at : ℕ)
    : Type 0 where
  pub scope_of : Scope
  pub used : ℕ
  pub entry_list : List Entry
  pub state : State
  pub stmt : Stmt
  pub stage : Stage nums directory ends scope slots frame scope_of used entry_list state
  pub stands : StandsStmt nums ends depth at stmt
  pub deep : depth ≤ deepest
  pub going : Goes (counter_of slots) (stmt_in scope_of used entry_list stmt state)

pub record RunsStmt (nums directory ends : List ℕ) (scope : coded.Scope) (slots slots' frame frame' : List ℕ) (depth at : ℕ)
    (r : Ended) : Type 0 where
  pub runs : (Γ : Scope) (used : ℕ) (es : List Entry) (s : State) (st : Stmt)
      → Stage nums directory ends scope slots frame Γ used es s → StandsStmt nums ends depth at st
      → Goes (counter_of slots) (stmt_in Γ used es st s)
      → Ran nums directory ends scope slots slots' frame frame' Γ (stmt_in Γ used es st s) (Ends r)

pub record AsksTagged (tag : ℕ) (nums directory ends : List ℕ) (scope : coded.Scope) (slots frame : List ℕ) (depth at : ℕ)
    : Type 0 where
  pub asks : AsksStmt nums directory ends scope slots frame depth at
  pub tagged : get_or nums at 0 ≡ tag

-- one that runs no other construct
pub record AsksPlain (nums directory ends : List ℕ) (scope : coded.Scope) (slots frame : List ℕ) (depth at : ℕ)
    : Type 0 where
  pub asks : AsksStmt nums directory ends scope slots frame depth at
  pub single : SingleAt nums ends depth at

-- so many members of a block
pub record AsksStmts (nums directory ends : List ℕ) (scope : coded.Scope) (slots frame : List ℕ) (depth at count : ℕ)
    : Type 0 where
  pub scope_of : Scope
  pub used : ℕ
  pub entry_list : List Entry
  pub state : State
  pub stmts : Stmts
  pub stage : Stage nums directory ends scope slots frame scope_of used entry_list state
  pub stand : StandsStmts nums ends depth at stmts
  pub counts : count ≡ member_count stmts
  pub deep : depth ≤ deepest
  pub going : Goes (counter_of slots) (stmts_in scope_of used entry_list stmts state)

pub record RunsStmts (nums directory ends : List ℕ) (scope : coded.Scope) (slots slots' frame frame' : List ℕ)
    (depth at count : ℕ) (r : Ended) : Type 0 where
  pub runs : (Γ : Scope) (used : ℕ) (es : List Entry) (s : State) (ss : Stmts)
      → Stage nums directory ends scope slots frame Γ used es s
      → StandsStmts nums ends depth at ss → count ≡ member_count ss → Goes (counter_of slots) (stmts_in Γ used es ss s)
      → Ran nums directory ends scope slots slots' frame frame' Γ (stmts_in Γ used es ss s) (Ends r)

-- a table, applied in the apply body
pub record AsksTable (nums directory ends : List ℕ) (scope : coded.Scope) (slots frame : List ℕ) (t : ℕ) : Type 0 where
  pub program : Program
  pub used : ℕ
  pub entry_list : List Entry
  pub state : State
  pub stage : Stage nums directory ends scope slots frame (apply_scope program) used entry_list state
  pub going : Goes (counter_of slots) (table_in program used entry_list t state)

pub record RunsTable (nums directory ends : List ℕ) (scope : coded.Scope) (slots slots' frame frame' : List ℕ) (t : ℕ)
    (r : Ended) : Type 0 where
  pub runs : (P : Program) (used : ℕ) (es : List Entry) (s : State)
      → Stage nums directory ends scope slots frame (apply_scope P) used es s
      → Goes (counter_of slots) (table_in P used es t s)
      → Ran nums directory ends scope slots slots' frame frame' (apply_scope P) (table_in P used es t s) (Ends r)

-- its keys: their numbers in slots one after the other
unfoldable pub KeyNumbers : List ℕ → ℕ → List Worked → Type 0
KeyNumbers keys j [] = Unit
KeyNumbers keys j (w ∷ ws) = (get_or keys j 0 ≡ w.number) × KeyNumbers keys (j + 1) ws

pub record KeysAt (nums ends keys : List ℕ) (j from count : ℕ) (ks : List Key) : Type 0 where
  pub stand : StandsKeys nums ends from ks
  pub counts : count ≡ length ks
  pub slots : length keys ≡ most_keys
  pub inside : j + count ≤ most_keys

pub record AsksKeys (nums directory ends : List ℕ) (scope : coded.Scope) (slots frame keys : List ℕ) (j from count : ℕ)
    : Type 0 where
  pub program : Program
  pub used : ℕ
  pub entry_list : List Entry
  pub state : State
  pub key_list : List Key
  pub stage : Stage nums directory ends scope slots frame (apply_scope program) used entry_list state
  pub keyed : KeysAt nums ends keys j from count key_list
  pub going : Goes (counter_of slots) (keys_in program used key_list state)

pub record RunsKeys (nums directory ends : List ℕ) (scope : coded.Scope) (slots slots' frame frame' keys keys' : List ℕ)
    (j from count : ℕ) : Type 0 where
  pub same : length keys' ≡ length keys
  pub before : (i : ℕ) → i < j → get_or keys' i 0 ≡ get_or keys i 0
  pub runs : (P : Program) (used : ℕ) (es : List Entry) (s : State) (ks : List Key)
      → Stage nums directory ends scope slots frame (apply_scope P) used es s
      → KeysAt nums ends keys j from count ks → Goes (counter_of slots) (keys_in P used ks s)
      → Ran nums directory ends scope slots slots' frame frame' (apply_scope P) (keys_in P used ks s)
      (KeyNumbers keys' j)

-- an action that a table lists: its position stands at an index, and its arguments from another on
pub record ActionAt (nums : List ℕ) (actions from : ℕ) (T : Table) (ns : List ℕ) : Type 0 where
  pub listed : StandsNumerals nums (actions + 1) T.actions
  pub given : HoldsAll nums from ns

pub record AsksAction (nums directory ends slots frame : List ℕ) (actions at from : ℕ) : Type 0 where
  pub scope : coded.Scope
  pub program : Program
  pub used : ℕ
  pub entry_list : List Entry
  pub state : State
  pub table : Table
  pub numbers : List ℕ
  pub stage : Stage nums directory ends scope slots frame (apply_scope program) used entry_list state
  pub action : ActionAt nums actions from table numbers
  pub inside : at < length nums
  pub near : from ≤ at + 2
  pub going : Goes (counter_of slots) (action_in program used table (get_or nums at 0) numbers state)

pub record RunsAction (nums directory ends slots slots' frame frame' : List ℕ) (actions at from : ℕ) (r : Ended)
    : Type 0 where
  pub runs : (scope : coded.Scope) (P : Program) (used : ℕ) (es : List Entry) (s : State) (T : Table) (ns : List ℕ)
      → Stage nums directory ends scope slots frame (apply_scope P) used es s
      → ActionAt nums actions from T ns → Goes (counter_of slots) (action_in P used T (get_or nums at 0) ns s)
      → Ran nums directory ends scope slots slots' frame frame' (apply_scope P) (action_in P used T (get_or nums at 0) ns s)
      (Ends r)
