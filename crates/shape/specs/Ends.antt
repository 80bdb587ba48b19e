-- The ends: for each expression and each statement of a program the slot with its tag's index holds the index after it,
-- so that later passes step over what they do not look at. A target is one such too. A construct ends where the next
-- one begins; the last of those inside another ends where that one does, a verify's condition one number before. Slots
-- of other numbers are left as found.
use Rattle.std.specs.Prelude.{◌≡◌, List, [], ◌∷◌, ℕ, ◌-◌, get_or, set, replicate}
use Rattle.rules.specs.Numbers.{most_bytes}
use Rattle.rules.specs.Syntax.{Expr, bool_literal, bits_literal, read_of, valid_of, negation, complement, binary, cast, slice, concatenation, call_expr, Args, no_args, arg}
use Rattle.rules.specs.Syntax.{Stmt, empty, assign, if_else, block, call_stmt, apply, return_value, return, exit, set_valid, set_invalid, extract, verify, Stmts, no_stmts, stmt}
use Rattle.rules.specs.Syntax.{Callable, Key, Numeral, Table, Pair, Transition, no_transition, accept, reject, lead_to, select, ParserState, Program}
use Rattle.rules.specs.Reading.{Got, got, bad, read_program}
use Rattle.shape.specs.Directory.{stmt_at, directory_left}
use Rattle.shape.specs.Scans.{scan_of, Scan}

-- how many slots there are: one for each number that a file may have
abbrev pub most_numbers : ℕ
most_numbers = most_bytes

-- an expression's own tag
unfoldable pub expr_at : Expr → ℕ
expr_at (bool_literal at n) = at
expr_at (bits_literal at width n) = at
expr_at (read_of at p) = at
expr_at (valid_of at g) = at
expr_at (negation at a) = at
expr_at (complement at a) = at
expr_at (binary at o a b) = at
expr_at (cast at width a) = at
expr_at (slice at high low a) = at
expr_at (concatenation at a b) = at
expr_at (call_expr at f xs) = at

-- where arguments and members that end at an index begin
unfoldable pub args_at : Args → ℕ → ℕ
args_at no_args end = end
args_at (arg e es) end = expr_at e

unfoldable pub stmts_at : Stmts → ℕ → ℕ
stmts_at no_stmts end = end
stmts_at (stmt s ss) end = stmt_at s

-- what the slots hold once an expression that ends at an index is read
unfoldable mutual
  pub lay_expr : Expr → ℕ → List ℕ → List ℕ
  lay_expr (bool_literal at n) end slots = set slots at end
  lay_expr (bits_literal at width n) end slots = set slots at end
  lay_expr (read_of at p) end slots = set slots at end
  lay_expr (valid_of at g) end slots = set slots at end
  lay_expr (negation at a) end slots = set (lay_expr a end slots) at end
  lay_expr (complement at a) end slots = set (lay_expr a end slots) at end
  lay_expr (binary at o a b) end slots = set (lay_expr b end (lay_expr a (expr_at b) slots)) at end
  lay_expr (cast at width a) end slots = set (lay_expr a end slots) at end
  lay_expr (slice at high low a) end slots = set (lay_expr a end slots) at end
  lay_expr (concatenation at a b) end slots = set (lay_expr b end (lay_expr a (expr_at b) slots)) at end
  lay_expr (call_expr at f xs) end slots = set (lay_args xs end slots) at end

  pub lay_args : Args → ℕ → List ℕ → List ℕ
  lay_args no_args end slots = slots
  lay_args (arg e es) end slots = lay_args es end (lay_expr e (args_at es end) slots)

-- and a statement
unfoldable mutual
  pub lay_stmt : Stmt → ℕ → List ℕ → List ℕ
  lay_stmt (empty at) end slots = set slots at end
  lay_stmt (assign at target place value) end slots =
      set (lay_expr value end (set slots target (expr_at value))) at end
  lay_stmt (if_else at c a b) end slots =
      set (lay_stmt b end (lay_stmt a (stmt_at b) (lay_expr c (stmt_at a) slots))) at end
  lay_stmt (block at ss) end slots = set (lay_stmts ss end slots) at end
  lay_stmt (call_stmt at f xs) end slots = set (lay_args xs end slots) at end
  lay_stmt (apply at t) end slots = set slots at end
  lay_stmt (return_value at e) end slots = set (lay_expr e end slots) at end
  lay_stmt (return at) end slots = set slots at end
  lay_stmt (exit at) end slots = set slots at end
  lay_stmt (set_valid at g) end slots = set slots at end
  lay_stmt (set_invalid at g) end slots = set slots at end
  lay_stmt (extract at g) end slots = set slots at end
  lay_stmt (verify at c e) end slots = set (lay_expr c (end - 1) slots) at end

  pub lay_stmts : Stmts → ℕ → List ℕ → List ℕ
  lay_stmts no_stmts end slots = slots
  lay_stmts (stmt s ss) end slots = lay_stmts ss end (lay_stmt s (stmts_at ss end) slots)

-- where the first of a list begins, or what follows where there is none
unfoldable pub first_at : {A : Type 0} → (A → ℕ) → List A → ℕ → ℕ
first_at start [] end = end
first_at start (x ∷ xs) end = start x

-- a list, each member of which ends where the next begins
unfoldable pub lay_all : {A : Type 0} → (A → ℕ) → (A → ℕ → List ℕ → List ℕ) → List A → ℕ → List ℕ → List ℕ
lay_all start lay [] end slots = slots
lay_all start lay (x ∷ xs) end slots = lay_all start lay xs end (lay x (first_at start xs end) slots)

unfoldable pub key_at : Key → ℕ
key_at k = k.at

unfoldable pub lay_key : Key → ℕ → List ℕ → List ℕ
lay_key k end slots = lay_expr k.expr end slots

unfoldable pub callable_at : Callable → ℕ
callable_at c = c.at

unfoldable pub lay_callable : Callable → ℕ → List ℕ → List ℕ
lay_callable c end slots = lay_stmt c.body end slots

unfoldable pub numeral_at : Numeral → ℕ
numeral_at n = n.at

-- the keys end at the count of the actions, which stands before the first action
unfoldable pub lay_table : Table → ℕ → List ℕ → List ℕ
lay_table t end slots = lay_all key_at lay_key t.keys (first_at numeral_at t.actions t.default.at - 1) slots

unfoldable pub table_at : Table → ℕ
table_at t = t.at

-- a select's expression ends at the count of the pairs
unfoldable pub pair_at : Pair → ℕ
pair_at p = p.value.at

unfoldable pub lay_transition : Transition → ℕ → List ℕ → List ℕ
lay_transition no_transition end slots = slots
lay_transition accept end slots = slots
lay_transition (reject e) end slots = slots
lay_transition (lead_to s) end slots = slots
lay_transition (select at e ps) end slots = lay_expr e (first_at pair_at ps end - 1) slots

-- where a transition that ends at an index begins: there the state's statement ends
unfoldable pub transition_at : Transition → ℕ → ℕ
transition_at no_transition end = end - 1
transition_at accept end = end - 1
transition_at (reject e) end = end - 2
transition_at (lead_to s) end = s.at - 1
transition_at (select at e ps) end = at

unfoldable pub state_at : ParserState → ℕ
state_at s = s.at

unfoldable pub lay_state : ParserState → ℕ → List ℕ → List ℕ
lay_state s end slots =
    lay_transition s.transition end (lay_stmt s.body (transition_at s.transition end) slots)

-- where the states that end at an index begin: at their count, where there are any
unfoldable pub states_at : List ParserState → ℕ → ℕ
states_at [] end = end
states_at (s ∷ ss) end = state_at s - 1

-- where the states and the body begin
unfoldable pub blocks_at : Program → ℕ
blocks_at p = states_at p.states (stmt_at p.body)

-- the callables end at the count of the tables, which stands before the first table, or before what follows the tables
unfoldable pub ends_of : Program → ℕ → List ℕ → List ℕ
ends_of p end slots =
    lay_stmt p.body end
    (lay_all state_at lay_state p.states (stmt_at p.body)
    (lay_all table_at lay_table p.tables (blocks_at p)
    (lay_all callable_at lay_callable p.callables (first_at table_at p.tables (blocks_at p) - 1) slots)))

-- and what they are left with: a fault leaves zeros
unfoldable pub ends_left : Got Program → List ℕ → List ℕ
ends_left (got p left end) slots = ends_of p end slots
ends_left (bad number index) slots = replicate most_numbers 0

-- what scanning a program answers, and what it leaves in the directory and in the ends
pub record ScansProgram (nums directory directory' ends ends' : List ℕ) (r : Scan) : Type 0 where
  pub answer : r ≡ scan_of read_program nums 0
  pub parts : directory' ≡ directory_left (read_program nums 0) directory
  pub laid : ends' ≡ ends_left (read_program nums 0) ends

-- each construct's own slot holds its end, and so on down
unfoldable mutual
  pub EndedExpr : Expr → ℕ → List ℕ → Type 0
  EndedExpr (bool_literal at n) end slots = get_or slots at 0 ≡ end
  EndedExpr (bits_literal at width n) end slots = get_or slots at 0 ≡ end
  EndedExpr (read_of at p) end slots = get_or slots at 0 ≡ end
  EndedExpr (valid_of at g) end slots = get_or slots at 0 ≡ end
  EndedExpr (negation at a) end slots = (get_or slots at 0 ≡ end) × EndedExpr a end slots
  EndedExpr (complement at a) end slots = (get_or slots at 0 ≡ end) × EndedExpr a end slots
  EndedExpr (binary at o a b) end slots =
      (get_or slots at 0 ≡ end) × (EndedExpr a (expr_at b) slots × EndedExpr b end slots)
  EndedExpr (cast at width a) end slots = (get_or slots at 0 ≡ end) × EndedExpr a end slots
  EndedExpr (slice at high low a) end slots = (get_or slots at 0 ≡ end) × EndedExpr a end slots
  EndedExpr (concatenation at a b) end slots =
      (get_or slots at 0 ≡ end) × (EndedExpr a (expr_at b) slots × EndedExpr b end slots)
  EndedExpr (call_expr at f xs) end slots = (get_or slots at 0 ≡ end) × EndedArgs xs end slots

  pub EndedArgs : Args → ℕ → List ℕ → Type 0
  EndedArgs no_args end slots = Unit
  EndedArgs (arg e es) end slots = EndedExpr e (args_at es end) slots × EndedArgs es end slots

unfoldable mutual
  pub EndedStmt : Stmt → ℕ → List ℕ → Type 0
  EndedStmt (empty at) end slots = get_or slots at 0 ≡ end
  EndedStmt (assign at target place value) end slots =
      (get_or slots at 0 ≡ end) × ((get_or slots target 0 ≡ expr_at value) × EndedExpr value end slots)
  EndedStmt (if_else at c a b) end slots =
      (get_or slots at 0 ≡ end)
      × (EndedExpr c (stmt_at a) slots × (EndedStmt a (stmt_at b) slots × EndedStmt b end slots))
  EndedStmt (block at ss) end slots = (get_or slots at 0 ≡ end) × EndedStmts ss end slots
  EndedStmt (call_stmt at f xs) end slots = (get_or slots at 0 ≡ end) × EndedArgs xs end slots
  EndedStmt (apply at t) end slots = get_or slots at 0 ≡ end
  EndedStmt (return_value at e) end slots = (get_or slots at 0 ≡ end) × EndedExpr e end slots
  EndedStmt (return at) end slots = get_or slots at 0 ≡ end
  EndedStmt (exit at) end slots = get_or slots at 0 ≡ end
  EndedStmt (set_valid at g) end slots = get_or slots at 0 ≡ end
  EndedStmt (set_invalid at g) end slots = get_or slots at 0 ≡ end
  EndedStmt (extract at g) end slots = get_or slots at 0 ≡ end
  EndedStmt (verify at c e) end slots = (get_or slots at 0 ≡ end) × EndedExpr c (end - 1) slots

  pub EndedStmts : Stmts → ℕ → List ℕ → Type 0
  EndedStmts no_stmts end slots = Unit
  EndedStmts (stmt s ss) end slots = EndedStmt s (stmts_at ss end) slots × EndedStmts ss end slots

unfoldable pub EndedAll : {A : Type 0} → (A → ℕ) → (A → ℕ → List ℕ → Type 0) → List A → ℕ → List ℕ → Type 0
EndedAll start Ended [] end slots = Unit
EndedAll start Ended (x ∷ xs) end slots = Ended x (first_at start xs end) slots × EndedAll start Ended xs end slots

unfoldable pub EndedKey : Key → ℕ → List ℕ → Type 0
EndedKey k end slots = EndedExpr k.expr end slots

unfoldable pub EndedCallable : Callable → ℕ → List ℕ → Type 0
EndedCallable c end slots = EndedStmt c.body end slots

unfoldable pub EndedTable : Table → ℕ → List ℕ → Type 0
EndedTable t end slots = EndedAll key_at EndedKey t.keys (first_at numeral_at t.actions t.default.at - 1) slots

unfoldable pub EndedTransition : Transition → ℕ → List ℕ → Type 0
EndedTransition no_transition end slots = Unit
EndedTransition accept end slots = Unit
EndedTransition (reject e) end slots = Unit
EndedTransition (lead_to s) end slots = Unit
EndedTransition (select at e ps) end slots = EndedExpr e (first_at pair_at ps end - 1) slots

unfoldable pub EndedState : ParserState → ℕ → List ℕ → Type 0
EndedState s end slots =
    EndedStmt s.body (transition_at s.transition end) slots × EndedTransition s.transition end slots

pub record EndedProgram (p : Program) (end : ℕ) (slots : List ℕ) : Type 0 where
  pub callables : EndedAll callable_at EndedCallable p.callables (first_at table_at p.tables (blocks_at p) - 1) slots
  pub tables : EndedAll table_at EndedTable p.tables (blocks_at p) slots
  pub states : EndedAll state_at EndedState p.states (stmt_at p.body) slots
  pub body : EndedStmt p.body end slots
