-- The tree of a program (document 01, "The bench file"; document 02, E2). `at` is the index of a node's tag in the list
-- of numbers (of a callable its kind, of anything else its first number): refusals speak of places. The running rules
-- look at none of them.
use Rattle.std.proofs.Math.Option.{Option, none, some}
use Rattle.std.specs.Prelude.{ℕ, List}

-- types, and values: a value carries its type; a bool is 0 or 1
pub data Ty : Type 0 where
  bool : Ty
  bits : ℕ → Ty

pub data Value : Type 0 where
  value : Ty → ℕ → Value

-- the type of a global: a value's, or the number of a header type
pub data GlobalTy : Type 0 where
  variable : Ty → GlobalTy
  header : ℕ → GlobalTy

-- the directions none, in, out, inout
pub data Direction : Type 0 where
  by_none by_in by_out by_inout : Direction

pub data KeyKind : Type 0 where
  exact lpm ternary : KeyKind

-- the operators, by what they ask of their operands
pub data Arithmetic : Type 0 where
  plus minus times and or xor : Arithmetic

pub data Order : Type 0 where
  less less_or_equal : Order

pub data Shift : Type 0 where
  shift_left shift_right : Shift

pub data Equality : Type 0 where
  equal unequal : Equality

pub data Logic : Type 0 where
  both either : Logic

pub data Operator : Type 0 where
  arithmetic : Arithmetic → Operator
  order : Order → Operator
  shift : Shift → Operator
  equality : Equality → Operator
  logic : Logic → Operator

-- what tags 2 to 5 name: a local, a parameter, a global, a field of a global
pub data Place : Type 0 where
  local parameter global : (number : ℕ) → Place
  field : (number field : ℕ) → Place

mutual
  pub data Expr : Type 0 where
    bool_literal : (at number : ℕ) → Expr
    bits_literal : (at width number : ℕ) → Expr
    read_of : (at : ℕ) → Place → Expr
    valid_of : (at global : ℕ) → Expr
    negation : (at : ℕ) → Expr → Expr
    complement : (at : ℕ) → Expr → Expr
    binary : (at : ℕ) → Operator → Expr → Expr → Expr
    cast : (at width : ℕ) → Expr → Expr
    slice : (at high low : ℕ) → Expr → Expr
    concatenation : (at : ℕ) → Expr → Expr → Expr
    call_expr : (at callable : ℕ) → Args → Expr

  pub data Args : Type 0 where
    no_args : Args
    arg : Expr → Args → Args

-- `target` is the index of the target's own tag
mutual
  pub data Stmt : Type 0 where
    empty : (at : ℕ) → Stmt
    assign : (at target : ℕ) → Place → Expr → Stmt
    if_else : (at : ℕ) → Expr → Stmt → Stmt → Stmt
    block : (at : ℕ) → Stmts → Stmt
    call_stmt : (at callable : ℕ) → Args → Stmt
    apply : (at table : ℕ) → Stmt
    return_value : (at : ℕ) → Expr → Stmt
    return : (at : ℕ) → Stmt
    exit : (at : ℕ) → Stmt
    set_valid : (at global : ℕ) → Stmt
    set_invalid : (at global : ℕ) → Stmt
    extract : (at global : ℕ) → Stmt
    verify : (at : ℕ) → Expr → (error : ℕ) → Stmt

  pub data Stmts : Type 0 where
    no_stmts : Stmts
    stmt : Stmt → Stmts → Stmts

pub record HeaderTy : Type 0 where
  pub at : ℕ
  pub widths : List ℕ

pub record Global : Type 0 where
  pub at : ℕ
  pub ty : GlobalTy

pub record Parameter : Type 0 where
  pub direction : Direction
  pub ty : Ty

-- `returns` is the type that a function returns; an action has none
pub record Callable : Type 0 where
  pub at : ℕ
  pub returns : Option Ty
  pub parameters : List Parameter
  pub locals : List Ty
  pub body : Stmt

-- a number with its index
pub record Numeral : Type 0 where
  pub at : ℕ
  pub number : ℕ

pub record Key : Type 0 where
  pub at : ℕ
  pub kind : KeyKind
  pub expr : Expr

-- the actions are callable numbers, the default is a position among them; `count_at` is where its argument count stands
pub record Table : Type 0 where
  pub at : ℕ
  pub keys : List Key
  pub actions : List Numeral
  pub default : Numeral
  pub count_at : ℕ
  pub arguments : List Numeral

-- the parser block (document 02, E2). A select's pair: a value, and the number of the state that it leads to
pub record Pair : Type 0 where
  pub value : Numeral
  pub state : Numeral

pub data Transition : Type 0 where
  no_transition accept : Transition
  reject : (error : ℕ) → Transition
  lead_to : Numeral → Transition
  select : (at : ℕ) → Expr → List Pair → Transition

pub record ParserState : Type 0 where
  pub at : ℕ
  pub body : Stmt
  pub transition : Transition

-- a version 1 program has no states
pub record Program : Type 0 where
  pub version : ℕ
  pub headers : List HeaderTy
  pub globals : List Global
  pub callables : List Callable
  pub tables : List Table
  pub states : List ParserState
  pub body : Stmt

-- the place that an expression names, if it names one
unfoldable pub place_in : Expr → Option Place
place_in (bool_literal at n) = none
place_in (bits_literal at width n) = none
place_in (read_of at p) = some p
place_in (valid_of at g) = none
place_in (negation at a) = none
place_in (complement at a) = none
place_in (binary at o a b) = none
place_in (cast at width a) = none
place_in (slice at high low a) = none
place_in (concatenation at a b) = none
place_in (call_expr at f xs) = none
