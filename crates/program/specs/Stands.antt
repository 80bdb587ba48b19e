-- Where a tree stands in the numbers: each construct's numbers stand from its index on, its operands behind them, one
-- after the other, and the ends tell where the next begins. `depth` is how many levels are left. The passes that come
-- after the scan look at the numbers through this and read nothing again.
use Rattle.std.proofs.Math.Option.{Option, none, some}
use Rattle.std.specs.Prelude.{◌≡◌, List, [], ◌∷◌, ℕ, zero, suc, ◌+◌, ◌-◌, ◌*◌, ◌≤◌, ◌<◌, length, get_or}
use Rattle.std.proofs.Math.ListN.{get_elem?}
use Rattle.rules.specs.Numbers.{most_bytes}
use Rattle.rules.specs.Words.{widest}
use Rattle.rules.specs.Syntax.{Ty, GlobalTy, variable, header, Operator, Place, local, parameter, global, field}
use Rattle.rules.specs.Syntax.{Expr, bool_literal, bits_literal, read_of, valid_of, negation, complement, binary, cast, slice, concatenation, call_expr, Args, no_args, arg}
use Rattle.rules.specs.Syntax.{Stmt, empty, assign, if_else, block, call_stmt, apply, return_value, return, exit, set_valid, set_invalid, extract, verify, Stmts, no_stmts, stmt}
use Rattle.rules.specs.Syntax.{HeaderTy, Global, Parameter, Callable, Numeral, Key, Table, Pair, Transition, no_transition, accept, reject, lead_to, select, ParserState, Program}
use Rattle.rules.specs.Reading.{deepest, highest_bound, most_error, most_pairs, most_states, most_headers, most_fields, most_globals, most_callables, most_parameters, most_locals, most_tables, most_keys, most_actions, most_arguments, most_members}
use Rattle.shape.specs.Directory.{headers_slot, globals_slot, callables_slot, tables_slot, states_slot, body_slot, end_slot, slot_count}
use Rattle.program.specs.Codes.{ty_of, header_number, direction_number, key_kind_number, callable_kind_number, operator_number, place_tag, arg_count, member_count}

-- a number at an index
pub record Holds (nums : List ℕ) (at n : ℕ) : Type 0 where
  pub inside : at < length nums
  pub is : get_or nums at 0 ≡ n

-- one from a least to a most
pub record HoldsWithin (least most : ℕ) (nums : List ℕ) (at n : ℕ) : Type 0 where
  pub holds : Holds nums at n
  pub at_least : least ≤ n
  pub at_most : n ≤ most

-- a type of a value
pub record HoldsTy (nums : List ℕ) (at : ℕ) (t : Ty) : Type 0 where
  pub inside : at < length nums
  pub most : get_or nums at 0 ≤ widest
  pub is : ty_of (get_or nums at 0) ≡ t

-- a tag, with a level left for it
pub record HoldsTag (nums : List ℕ) (depth at tag : ℕ) : Type 0 where
  pub levels : 0 < depth
  pub holds : Holds nums at tag

-- the numbers behind a place's tag
unfoldable pub StandsPlace : List ℕ → ℕ → Place → Type 0
StandsPlace nums at (local i) = Holds nums (at + 1) i
StandsPlace nums at (parameter i) = Holds nums (at + 1) i
StandsPlace nums at (global g) = Holds nums (at + 1) g
StandsPlace nums at (field g f) = Holds nums (at + 1) g × Holds nums (at + 2) f

mutual
  pub data StandsExpr (nums ends : List ℕ) : ℕ → ℕ → Expr → Type 0 where
    on_bool : {depth at n : ℕ} → HoldsTag nums depth at 0 → Holds nums (at + 1) n
        → StandsExpr nums ends depth at (bool_literal at n)
    on-bits : {depth at width n : ℕ} → HoldsTag nums depth at 1 → HoldsWithin 1 widest nums (at + 1) width
        → Holds nums (at + 2) n → StandsExpr nums ends depth at (bits_literal at width n)
    on-place : {depth at : ℕ} {p : Place} → HoldsTag nums depth at (place_tag p) → StandsPlace nums at p
        → StandsExpr nums ends depth at (read_of at p)
    on-valid : {depth at g : ℕ} → HoldsTag nums depth at 6 → Holds nums (at + 1) g
        → StandsExpr nums ends depth at (valid_of at g)
    on-not : {depth at : ℕ} {a : Expr} → HoldsTag nums depth at 7 → StandsExpr nums ends (depth - 1) (at + 1) a
        → StandsExpr nums ends depth at (negation at a)
    on-complement : {depth at : ℕ} {a : Expr} → HoldsTag nums depth at 8 → StandsExpr nums ends (depth - 1) (at + 1) a
        → StandsExpr nums ends depth at (complement at a)
    on-binary : {depth at : ℕ} {o : Operator} {a b : Expr} → HoldsTag nums depth at 9
        → Holds nums (at + 1) (operator_number o) → StandsExpr nums ends (depth - 1) (at + 2) a
        → StandsExpr nums ends (depth - 1) (get_or ends (at + 2) 0) b
        → StandsExpr nums ends depth at (binary at o a b)
    on-cast : {depth at width : ℕ} {a : Expr} → HoldsTag nums depth at 10 → HoldsWithin 1 widest nums (at + 1) width
        → StandsExpr nums ends (depth - 1) (at + 2) a → StandsExpr nums ends depth at (cast at width a)
    on-slice : {depth at high low : ℕ} {a : Expr} → HoldsTag nums depth at 11
        → HoldsWithin 0 highest_bound nums (at + 1) high → HoldsWithin 0 highest_bound nums (at + 2) low
        → StandsExpr nums ends (depth - 1) (at + 3) a → StandsExpr nums ends depth at (slice at high low a)
    on-concatenation : {depth at : ℕ} {a b : Expr} → HoldsTag nums depth at 12
        → StandsExpr nums ends (depth - 1) (at + 1) a
        → StandsExpr nums ends (depth - 1) (get_or ends (at + 1) 0) b
        → StandsExpr nums ends depth at (concatenation at a b)
    on_call : {depth at f : ℕ} {xs : Args} → HoldsTag nums depth at 13 → Holds nums (at + 1) f
        → HoldsWithin 0 most_arguments nums (at + 2) (arg_count xs) → StandsArgs nums ends (depth - 1) (at + 3) xs
        → StandsExpr nums ends depth at (call_expr at f xs)

  pub data StandsArgs (nums ends : List ℕ) : ℕ → ℕ → Args → Type 0 where
    on_none : {depth at : ℕ} → StandsArgs nums ends depth at no_args
    on-arg : {depth at : ℕ} {e : Expr} {xs : Args} → StandsExpr nums ends depth at e
        → StandsArgs nums ends depth (get_or ends at 0) xs → StandsArgs nums ends depth at (arg e xs)

-- statements; a target is one level down, and its end is laid too
mutual
  pub data StandsStmt (nums ends : List ℕ) : ℕ → ℕ → Stmt → Type 0 where
    on-empty : {depth at : ℕ} → HoldsTag nums depth at 0 → StandsStmt nums ends depth at (empty at)
    on-assign : {depth at : ℕ} {p : Place} {e : Expr} → HoldsTag nums depth at 1
        → HoldsTag nums (depth - 1) (at + 1) (place_tag p) → StandsPlace nums (at + 1) p
        → StandsExpr nums ends (depth - 1) (get_or ends (at + 1) 0) e
        → StandsStmt nums ends depth at (assign at (at + 1) p e)
    on-if : {depth at : ℕ} {c : Expr} {a b : Stmt} → HoldsTag nums depth at 2
        → StandsExpr nums ends (depth - 1) (at + 1) c
        → StandsStmt nums ends (depth - 1) (get_or ends (at + 1) 0) a
        → StandsStmt nums ends (depth - 1) (get_or ends (get_or ends (at + 1) 0) 0) b
        → StandsStmt nums ends depth at (if_else at c a b)
    on-block : {depth at : ℕ} {ss : Stmts} → HoldsTag nums depth at 3
        → HoldsWithin 0 most_members nums (at + 1) (member_count ss) → StandsStmts nums ends (depth - 1) (at + 2) ss
        → StandsStmt nums ends depth at (block at ss)
    on-call-stmt : {depth at f : ℕ} {xs : Args} → HoldsTag nums depth at 4 → Holds nums (at + 1) f
        → HoldsWithin 0 most_arguments nums (at + 2) (arg_count xs) → StandsArgs nums ends (depth - 1) (at + 3) xs
        → StandsStmt nums ends depth at (call_stmt at f xs)
    on-apply : {depth at t : ℕ} → HoldsTag nums depth at 5 → Holds nums (at + 1) t
        → StandsStmt nums ends depth at (apply at t)
    on-return-value : {depth at : ℕ} {e : Expr} → HoldsTag nums depth at 6
        → StandsExpr nums ends (depth - 1) (at + 1) e → StandsStmt nums ends depth at (return_value at e)
    on_return : {depth at : ℕ} → HoldsTag nums depth at 7 → StandsStmt nums ends depth at (return at)
    on-exit : {depth at : ℕ} → HoldsTag nums depth at 8 → StandsStmt nums ends depth at (exit at)
    on-set-valid : {depth at g : ℕ} → HoldsTag nums depth at 9 → Holds nums (at + 1) g
        → StandsStmt nums ends depth at (set_valid at g)
    on-set-invalid : {depth at g : ℕ} → HoldsTag nums depth at 10 → Holds nums (at + 1) g
        → StandsStmt nums ends depth at (set_invalid at g)
    on-extract : {depth at g : ℕ} → HoldsTag nums depth at 11 → Holds nums (at + 1) g
        → StandsStmt nums ends depth at (extract at g)
    on-verify : {depth at e : ℕ} {c : Expr} → HoldsTag nums depth at 12
        → StandsExpr nums ends (depth - 1) (at + 1) c → HoldsWithin 0 most_error nums (get_or ends (at + 1) 0) e
        → StandsStmt nums ends depth at (verify at c e)

  pub data StandsStmts (nums ends : List ℕ) : ℕ → ℕ → Stmts → Type 0 where
    on-no-member : {depth at : ℕ} → StandsStmts nums ends depth at no_stmts
    on-member : {depth at : ℕ} {s : Stmt} {ss : Stmts} → StandsStmt nums ends depth at s
        → StandsStmts nums ends depth (get_or ends at 0) ss → StandsStmts nums ends depth at (stmt s ss)

-- lists of numbers: a header type's widths, a callable's parameters and locals, a table's actions and arguments
unfoldable pub StandsWidths : List ℕ → ℕ → List ℕ → Type 0
StandsWidths nums at [] = Unit
StandsWidths nums at (width ∷ widths) = HoldsWithin 1 widest nums at width × StandsWidths nums (at + 1) widths

unfoldable pub StandsTypes : List ℕ → ℕ → List Ty → Type 0
StandsTypes nums at [] = Unit
StandsTypes nums at (t ∷ ts) = HoldsTy nums at t × StandsTypes nums (at + 1) ts

unfoldable pub StandsParameters : List ℕ → ℕ → List Parameter → Type 0
StandsParameters nums at [] = Unit
StandsParameters nums at (p ∷ ps) =
    Holds nums at (direction_number p.direction)
    × (HoldsTy nums (at + 1) p.ty × StandsParameters nums (at + 2) ps)

pub record StandsNumeral (nums : List ℕ) (at : ℕ) (n : Numeral) : Type 0 where
  pub index : n.at ≡ at
  pub holds : Holds nums at n.number

unfoldable pub StandsNumerals : List ℕ → ℕ → List Numeral → Type 0
StandsNumerals nums at [] = Unit
StandsNumerals nums at (n ∷ ns) = StandsNumeral nums at n × StandsNumerals nums (at + 1) ns

-- header types and globals
pub record StandsHeader (nums : List ℕ) (at : ℕ) (h : HeaderTy) : Type 0 where
  pub index : h.at ≡ at
  pub count : HoldsWithin 1 most_fields nums at (length h.widths)
  pub widths : StandsWidths nums (at + 1) h.widths

unfoldable pub HoldsGlobalTy : List ℕ → ℕ → GlobalTy → Type 0
HoldsGlobalTy nums at (variable t) = HoldsTy nums at t
HoldsGlobalTy nums at (header h) = Holds nums at (header_number h) × (h < most_headers)

pub record StandsGlobal (nums : List ℕ) (at : ℕ) (g : Global) : Type 0 where
  pub index : g.at ≡ at
  pub ty : HoldsGlobalTy nums at g.ty

-- a callable: its kind, a function's return type, parameters, locals, body
unfoldable pub HoldsReturns : List ℕ → ℕ → Option Ty → Type 0
HoldsReturns nums at none = Unit
HoldsReturns nums at (some t) = HoldsTy nums at t

-- where the count of its parameters stands, that of its locals, and its body
unfoldable pub parameters_at : ℕ → Callable → ℕ
parameters_at at c = at + 1 + callable_kind_number c.returns

unfoldable pub locals_at : ℕ → Callable → ℕ
locals_at at c = parameters_at at c + 1 + 2 * length c.parameters

unfoldable pub body_at : ℕ → Callable → ℕ
body_at at c = locals_at at c + 1 + length c.locals

pub record StandsCallable (nums ends : List ℕ) (at : ℕ) (c : Callable) : Type 0 where
  pub index : c.at ≡ at
  pub kind : Holds nums at (callable_kind_number c.returns)
  pub returns : HoldsReturns nums (at + 1) c.returns
  pub parameter_count : HoldsWithin 0 most_parameters nums (parameters_at at c) (length c.parameters)
  pub parameters : StandsParameters nums (parameters_at at c + 1) c.parameters
  pub local_count : HoldsWithin 0 most_locals nums (locals_at at c) (length c.locals)
  pub locals : StandsTypes nums (locals_at at c + 1) c.locals
  pub body : StandsStmt nums ends deepest (body_at at c) c.body

-- a table: its keys, each of which ends where the next begins, its actions, its default and the default's arguments
unfoldable pub StandsKeys : List ℕ → List ℕ → ℕ → List Key → Type 0
StandsKeys nums ends at [] = Unit
StandsKeys nums ends at (k ∷ ks) =
    (k.at ≡ at)
    × (Holds nums at (key_kind_number k.kind)
    × (StandsExpr nums ends deepest (at + 1) k.expr × StandsKeys nums ends (get_or ends (at + 1) 0) ks))

unfoldable pub keys_end : List ℕ → ℕ → ℕ → ℕ
keys_end ends at zero = at
keys_end ends at (suc count) = keys_end ends (get_or ends (at + 1) 0) count

-- where the count of its actions stands, its default, and the count of the default's arguments
unfoldable pub actions_at : List ℕ → ℕ → Table → ℕ
actions_at ends at T = keys_end ends (at + 1) (length T.keys)

unfoldable pub default_at : List ℕ → ℕ → Table → ℕ
default_at ends at T = actions_at ends at T + 1 + length T.actions

pub record StandsTable (nums ends : List ℕ) (at : ℕ) (T : Table) : Type 0 where
  pub index : T.at ≡ at
  pub key_count : HoldsWithin 1 most_keys nums at (length T.keys)
  pub keys : StandsKeys nums ends (at + 1) T.keys
  pub action_count : HoldsWithin 1 most_actions nums (actions_at ends at T) (length T.actions)
  pub actions : StandsNumerals nums (actions_at ends at T + 1) T.actions
  pub default : StandsNumeral nums (default_at ends at T) T.default
  pub count_index : T.count_at ≡ default_at ends at T + 1
  pub argument_count : HoldsWithin 0 most_arguments nums (default_at ends at T + 1) (length T.arguments)
  pub arguments : StandsNumerals nums (default_at ends at T + 2) T.arguments

-- a state: its statement, and behind it its transition
unfoldable pub StandsPairs : List ℕ → ℕ → List Pair → Type 0
StandsPairs nums at [] = Unit
StandsPairs nums at (p ∷ ps) =
    StandsNumeral nums at p.value
    × (StandsNumeral nums (at + 1) p.state × StandsPairs nums (at + 2) ps)

pub data StandsTransition (nums ends : List ℕ) : ℕ → Transition → Type 0 where
  on-no-transition : {at : ℕ} → Holds nums at 0 → StandsTransition nums ends at no_transition
  on-accept : {at : ℕ} → Holds nums at 1 → StandsTransition nums ends at accept
  on-reject : {at e : ℕ} → Holds nums at 2 → HoldsWithin 0 most_error nums (at + 1) e
      → StandsTransition nums ends at (reject e)
  on-lead-to : {at : ℕ} {s : Numeral} → Holds nums at 3 → StandsNumeral nums (at + 1) s
      → StandsTransition nums ends at (lead_to s)
  on-select : {at : ℕ} {e : Expr} {ps : List Pair} → Holds nums at 4 → StandsExpr nums ends deepest (at + 1) e
      → HoldsWithin 0 most_pairs nums (get_or ends (at + 1) 0) (length ps)
      → StandsPairs nums (get_or ends (at + 1) 0 + 1) ps → StandsTransition nums ends at (select at e ps)

pub record StandsState (nums ends : List ℕ) (at : ℕ) (s : ParserState) : Type 0 where
  pub index : s.at ≡ at
  pub body : StandsStmt nums ends deepest at s.body
  pub transition : StandsTransition nums ends (get_or ends at 0) s.transition

-- a list of parts: its count in a slot of the directory, where each member stands in those behind it
pub record StandsList {A : Type 0} (Stands : ℕ → A → Type 0) (directory : List ℕ) (slot most : ℕ) (xs : List A)
    : Type 0 where
  pub count : get_or directory slot 0 ≡ length xs
  pub few : length xs ≤ most
  pub member : (i : ℕ) (x : A) → get_elem? xs i ≡ some x → Stands (get_or directory (slot + 1 + i) 0) x

-- a program that ends before an index
pub record StandsProgram (nums directory ends : List ℕ) (P : Program) (end : ℕ) : Type 0 where
  pub numbers : length nums ≤ most_bytes
  pub version : Holds nums 0 P.version
  pub room : length nums ≤ length ends
  pub slots : length directory ≡ slot_count
  pub headers : StandsList (StandsHeader nums) directory headers_slot most_headers P.headers
  pub globals : StandsList (StandsGlobal nums) directory globals_slot most_globals P.globals
  pub callables : StandsList (StandsCallable nums ends) directory callables_slot most_callables P.callables
  pub tables : StandsList (StandsTable nums ends) directory tables_slot most_tables P.tables
  pub states : StandsList (StandsState nums ends) directory states_slot most_states P.states
  pub body : StandsStmt nums ends deepest (get_or directory body_slot 0) P.body
  pub ending : get_or directory end_slot 0 ≡ end

-- some program stands there
pub record SomeProgram (nums directory ends : List ℕ) : Type 0 where
  pub program : Program
  pub end : ℕ
  pub stands : StandsProgram nums directory ends program end
