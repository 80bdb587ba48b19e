-- What the functions of the count ask and promise one another. A callable's ceiling is worked out from those below it
-- and kept; a slot that holds 0 keeps nothing yet. `reach` is how many callables a body sees.
use Rattle.std.specs.Prelude.{true, false, Option, Some, None, ◌≡◌, List, ℕ, suc, ◌-◌, ◌≤◌, ◌<◌, max, eqb, length, get_or}
use Rattle.std.proofs.Math.ListN.{get_elem?}
use Rattle.rules.specs.Syntax.{Expr, bool_literal, bits_literal, read_of, valid_of, negation, complement, binary, cast, slice, concatenation, call_expr, Args, no_args, arg}
use Rattle.rules.specs.Syntax.{Stmt, empty, assign, if_else, block, call_stmt, apply, return_value, return, exit, set_valid, set_invalid, extract, verify, Stmts, Numeral, Key, Program}
use Rattle.rules.specs.Numbers.{most_bytes}
use Rattle.rules.specs.Reading.{deepest}
use Rattle.rules.specs.Ceiling.{most_steps, ceiling_expr, ceiling_args, ceiling_stmt, ceiling_stmts, callee_in, no_table, ceiling_at, ceilings_below, ceiling_keys, largest_of, ceiling_table, ceiling_of}
use Rattle.program.specs.Codes.{arg_count, member_count}
use Rattle.program.specs.Stands.{StandsExpr, StandsArgs, StandsStmt, StandsStmts, StandsKeys, StandsNumerals, StandsProgram}
use Rattle.ceiling.specs.declared.operands.Runs.{Runs}
use Rattle.ceiling.specs.declared.operands.Runs.TheVariants.{Branches, Members, Body, Applied, Nothing}
use Rattle.ceiling.specs.Cut.{cut}

-- the ceiling of each callable that a body sees; of one callable; of what an apply runs, which stands in no callable
abbrev pub callee_below : Program → ℕ → ℕ → ℕ
callee_below P reach = callee_in (ceilings_below P reach)

unfoldable pub ceiling_number : Program → ℕ → ℕ
ceiling_number P f = ceiling_at (ceilings_below P f) (get_elem? P.callables f)

unfoldable pub applied_in : Program → ℕ → (ℕ → ℕ) → ℕ → ℕ
applied_in P reach table = elim (eqb reach (length P.callables)) [ true ↦ table | false ↦ no_table ]

-- the kept ceilings
pub record Kept (P : Program) (kept : List ℕ) : Type 0 where
  pub slots : length kept ≡ 16
  pub slot : (f : ℕ) → f < length P.callables → (get_or kept f 0 ≡ 0 → ⊥) → get_or kept f 0 ≡ cut (ceiling_number P f)

-- `table` gives the ceiling of what an apply runs
pub record TablesKept (P : Program) (reach : ℕ) (tables : List ℕ) (table : ℕ → ℕ) : Type 0 where
  pub slot : reach ≡ length P.callables → (t : ℕ) → t < length P.tables → get_or tables t 0 ≡ cut (table t)
  pub beyond : (t : ℕ) → length P.tables ≤ t → table t ≡ 0

-- where a count begins: a program stands, and the ceilings kept are right
pub record Setting (nums directory ends kept : List ℕ) (reach : ℕ) (P : Program) : Type 0 where
  pub end : ℕ
  pub stands : StandsProgram nums directory ends P end
  pub reaches : reach ≤ length P.callables
  pub keeps : Kept P kept

-- a count, with the ceilings that are kept afterwards
pub record Counted (P : Program) (exact r : ℕ) (kept : List ℕ) : Type 0 where
  pub is : r ≡ cut exact
  pub keeps : Kept P kept

-- the operands of an expression, and what it calls
unfoldable pub operands_in : Expr → Args
operands_in (bool_literal at n) = no_args
operands_in (bits_literal at width n) = no_args
operands_in (read_of at p) = no_args
operands_in (valid_of at g) = no_args
operands_in (negation at a) = arg a no_args
operands_in (complement at a) = arg a no_args
operands_in (binary at o a b) = arg a (arg b no_args)
operands_in (cast at width a) = arg a no_args
operands_in (slice at high low a) = arg a no_args
operands_in (concatenation at a b) = arg a (arg b no_args)
operands_in (call_expr at f xs) = xs

unfoldable pub called_by : (ℕ → ℕ) → Expr → ℕ
called_by callee (bool_literal at n) = 0
called_by callee (bits_literal at width n) = 0
called_by callee (read_of at p) = 0
called_by callee (valid_of at g) = 0
called_by callee (negation at a) = 0
called_by callee (complement at a) = 0
called_by callee (binary at o a b) = 0
called_by callee (cast at width a) = 0
called_by callee (slice at high low a) = 0
called_by callee (concatenation at a b) = 0
called_by callee (call_expr at f xs) = callee f

-- the operands of a statement, and what it runs besides
unfoldable pub operands_of : Stmt → Args
operands_of (empty at) = no_args
operands_of (assign at target p e) = arg e no_args
operands_of (if_else at c a b) = arg c no_args
operands_of (block at ss) = no_args
operands_of (call_stmt at f xs) = xs
operands_of (apply at t) = no_args
operands_of (return_value at e) = arg e no_args
operands_of (return at) = no_args
operands_of (exit at) = no_args
operands_of (set_valid at g) = no_args
operands_of (set_invalid at g) = no_args
operands_of (extract at g) = no_args
operands_of (verify at c e) = arg c no_args

unfoldable pub run_by : (ℕ → ℕ) → (ℕ → ℕ) → Stmt → ℕ
run_by callee table (empty at) = 0
run_by callee table (assign at target p e) = 0
run_by callee table (if_else at c a b) = max (ceiling_stmt callee table a) (ceiling_stmt callee table b)
run_by callee table (block at ss) = ceiling_stmts callee table ss
run_by callee table (call_stmt at f xs) = callee f
run_by callee table (apply at t) = table t
run_by callee table (return_value at e) = 0
run_by callee table (return at) = 0
run_by callee table (exit at) = 0
run_by callee table (set_valid at g) = 0
run_by callee table (set_invalid at g) = 0
run_by callee table (extract at g) = 0
run_by callee table (verify at c e) = 0

-- a construct whose parts are looked for
pub record AsksHeld (nums ends : List ℕ) (depth at : ℕ) : Type 0 where
  pub numbers : length nums ≤ most_bytes
  pub room : length nums ≤ length ends
  pub expr : Expr
  pub stands : StandsExpr nums ends depth at expr

pub record AsksHeldStmt (nums ends : List ℕ) (depth at : ℕ) : Type 0 where
  pub numbers : length nums ≤ most_bytes
  pub room : length nums ≤ length ends
  pub stmt : Stmt
  pub stands : StandsStmt nums ends depth at stmt

-- its operands, a level down
pub record Operand (nums ends : List ℕ) (depth lower first count : ℕ) (xs : Args) : Type 0 where
  pub levels : lower < depth
  pub stand : StandsArgs nums ends lower first xs
  pub counts : count ≡ arg_count xs

-- and the call that an expression makes, if it makes one
unfoldable pub calling : Option ℕ → (ℕ → ℕ) → ℕ
calling (Some f) callee = callee f
calling None callee = 0

pub record HeldExpr (nums ends : List ℕ) (depth at lower first count : ℕ) (callable : Option ℕ) : Type 0 where
  pub operands : (e : Expr) → StandsExpr nums ends depth at e
      → Operand nums ends depth lower first count (operands_in e)
  pub called_is : (e : Expr) → StandsExpr nums ends depth at e → (callee : ℕ → ℕ)
      → called_by callee e ≡ calling callable callee

-- operands of an expression that calls nothing, as they are told
pub record Plain (depth first count lower first' count' : ℕ) (callable : Option ℕ) : Type 0 where
  pub lower_is : lower ≡ depth - 1
  pub first_is : first' ≡ first
  pub count_is : count' ≡ count
  pub callable_is : callable ≡ None

pub record HeldStmt (nums ends : List ℕ) (depth at lower first count : ℕ) : Type 0 where
  pub operands : (s : Stmt) → StandsStmt nums ends depth at s
      → Operand nums ends depth lower first count (operands_of s)

-- what a statement runs besides
pub data RunsIn (nums ends : List ℕ) (depth at : ℕ) (s : Stmt) : Runs → Type 0 where
  runs-branches : {lower first second : ℕ} {c : Expr} {a b : Stmt} → s ≡ if_else at c a b → lower < depth
      → StandsStmt nums ends lower first a → StandsStmt nums ends lower second b
      → RunsIn nums ends depth at s (Branches lower first second)
  runs-members : {lower first count : ℕ} {ss : Stmts} → s ≡ block at ss → lower < depth
      → StandsStmts nums ends lower first ss → count ≡ member_count ss
      → RunsIn nums ends depth at s (Members lower first count)
  runs-body : {f : ℕ} → ((callee table : ℕ → ℕ) → run_by callee table s ≡ callee f)
      → RunsIn nums ends depth at s (Body f)
  runs-table : {t : ℕ} → ((callee table : ℕ → ℕ) → run_by callee table s ≡ table t)
      → RunsIn nums ends depth at s (Applied t)
  runs-nothing : ((callee table : ℕ → ℕ) → run_by callee table s ≡ 0) → RunsIn nums ends depth at s Nothing

pub record HeldRuns (nums ends : List ℕ) (depth at : ℕ) (r : Runs) : Type 0 where
  pub runs : (s : Stmt) → StandsStmt nums ends depth at s → RunsIn nums ends depth at s r

-- expressions
pub record AsksExpr (nums directory ends kept : List ℕ) (reach depth at : ℕ) : Type 0 where
  pub program : Program
  pub expr : Expr
  pub setting : Setting nums directory ends kept reach program
  pub stands : StandsExpr nums ends depth at expr
  pub deep : depth ≤ deepest

pub record CountsExpr (nums directory ends kept kept' : List ℕ) (reach depth at r : ℕ) : Type 0 where
  pub low : r ≤ suc most_steps
  pub counted : (P : Program) (e : Expr) → Setting nums directory ends kept reach P → StandsExpr nums ends depth at e
      → Counted P (ceiling_expr (callee_below P reach) e) r kept'

pub record AsksExprs (nums directory ends kept : List ℕ) (reach depth at count : ℕ) : Type 0 where
  pub program : Program
  pub args : Args
  pub setting : Setting nums directory ends kept reach program
  pub stand : StandsArgs nums ends depth at args
  pub counts : count ≡ arg_count args
  pub deep : depth ≤ deepest

pub record CountsExprs (nums directory ends kept kept' : List ℕ) (reach depth at count r : ℕ) : Type 0 where
  pub low : r ≤ suc most_steps
  pub counted : (P : Program) (xs : Args) → Setting nums directory ends kept reach P → StandsArgs nums ends depth at xs
      → count ≡ arg_count xs → Counted P (ceiling_args (callee_below P reach) xs) r kept'

-- a call of callable f
pub record AsksCall (nums directory ends kept : List ℕ) (reach : ℕ) : Type 0 where
  pub program : Program
  pub setting : Setting nums directory ends kept reach program

pub record CountsCall (nums directory ends kept kept' : List ℕ) (reach f r : ℕ) : Type 0 where
  pub low : r ≤ suc most_steps
  pub counted : (P : Program) → Setting nums directory ends kept reach P → Counted P (callee_below P reach f) r kept'

-- statements
pub record AsksStmt (nums directory ends tables kept : List ℕ) (reach depth at : ℕ) : Type 0 where
  pub program : Program
  pub stmt : Stmt
  pub setting : Setting nums directory ends kept reach program
  pub table : ℕ → ℕ
  pub tabled : TablesKept program reach tables table
  pub stands : StandsStmt nums ends depth at stmt
  pub deep : depth ≤ deepest

pub record CountsStmt (nums directory ends tables kept kept' : List ℕ) (reach depth at r : ℕ) : Type 0 where
  pub low : r ≤ suc most_steps
  pub counted : (P : Program) (s : Stmt) → Setting nums directory ends kept reach P → (table : ℕ → ℕ)
      → TablesKept P reach tables table → StandsStmt nums ends depth at s
      → Counted P (ceiling_stmt (callee_below P reach) (applied_in P reach table) s) r kept'

-- what a statement runs besides its operands
pub record CountsRun (nums directory ends tables kept kept' : List ℕ) (reach depth at r : ℕ) : Type 0 where
  pub low : r ≤ suc most_steps
  pub counted : (P : Program) (s : Stmt) → Setting nums directory ends kept reach P → (table : ℕ → ℕ)
      → TablesKept P reach tables table → StandsStmt nums ends depth at s
      → Counted P (run_by (callee_below P reach) (applied_in P reach table) s) r kept'

pub record AsksStmts (nums directory ends tables kept : List ℕ) (reach depth at count : ℕ) : Type 0 where
  pub program : Program
  pub stmts : Stmts
  pub setting : Setting nums directory ends kept reach program
  pub table : ℕ → ℕ
  pub tabled : TablesKept program reach tables table
  pub stand : StandsStmts nums ends depth at stmts
  pub counts : count ≡ member_count stmts
  pub deep : depth ≤ deepest

pub record CountsStmts (nums directory ends tables kept kept' : List ℕ) (reach depth at count r : ℕ) : Type 0 where
  pub low : r ≤ suc most_steps
  pub counted : (P : Program) (ss : Stmts) → Setting nums directory ends kept reach P → (table : ℕ → ℕ)
      → TablesKept P reach tables table → StandsStmts nums ends depth at ss → count ≡ member_count ss
      → Counted P (ceiling_stmts (callee_below P reach) (applied_in P reach table) ss) r kept'

-- both branches of an if, from where they stand
pub record AsksBranches (nums directory ends tables kept : List ℕ) (reach lower first second : ℕ) : Type 0 where
  pub program : Program
  pub setting : Setting nums directory ends kept reach program
  pub table : ℕ → ℕ
  pub tabled : TablesKept program reach tables table
  pub one : Stmt
  pub other : Stmt
  pub one_stands : StandsStmt nums ends lower first one
  pub other_stands : StandsStmt nums ends lower second other
  pub deep : lower ≤ deepest

pub record CountsBranches (nums directory ends tables kept kept' : List ℕ)
    (reach lower first second r : ℕ) : Type 0 where
  pub low : r ≤ suc most_steps
  pub counted : (P : Program) (a b : Stmt) → Setting nums directory ends kept reach P → (table : ℕ → ℕ)
      → TablesKept P reach tables table → StandsStmt nums ends lower first a → StandsStmt nums ends lower second b
      → Counted P (max (ceiling_stmt (callee_below P reach) (applied_in P reach table) a)
      (ceiling_stmt (callee_below P reach) (applied_in P reach table) b)) r kept'

-- what an apply of table t runs
pub record AsksApplied (directory : List ℕ) : Type 0 where
  pub nums : List ℕ
  pub ends : List ℕ
  pub program : Program
  pub end : ℕ
  pub stands : StandsProgram nums directory ends program end

pub record CountsApplied (directory tables : List ℕ) (reach t r : ℕ) : Type 0 where
  pub counted : (nums ends : List ℕ) (P : Program) (end : ℕ) → StandsProgram nums directory ends P end
      → (table : ℕ → ℕ) → TablesKept P reach tables table → r ≡ cut (applied_in P reach table t)

-- the keys of a table, and the largest of its actions
pub record AsksKeys (nums directory ends kept : List ℕ) (reach at count : ℕ) : Type 0 where
  pub program : Program
  pub keys : List Key
  pub setting : Setting nums directory ends kept reach program
  pub stand : StandsKeys nums ends at keys
  pub counts : count ≡ length keys

pub record CountsKeys (nums directory ends kept kept' : List ℕ) (reach at count r : ℕ) : Type 0 where
  pub low : r ≤ suc most_steps
  pub counted : (P : Program) (ks : List Key) → Setting nums directory ends kept reach P → StandsKeys nums ends at ks
      → count ≡ length ks → Counted P (ceiling_keys (callee_below P reach) ks) r kept'

pub record AsksLargest (nums directory ends kept : List ℕ) (reach at count : ℕ) : Type 0 where
  pub program : Program
  pub actions : List Numeral
  pub setting : Setting nums directory ends kept reach program
  pub stand : StandsNumerals nums at actions
  pub counts : count ≡ length actions

pub record CountsLargest (nums directory ends kept kept' : List ℕ) (reach at count r : ℕ) : Type 0 where
  pub low : r ≤ suc most_steps
  pub counted : (P : Program) (ns : List Numeral) → Setting nums directory ends kept reach P → StandsNumerals nums at ns
      → count ≡ length ns → Counted P (largest_of (callee_below P reach) ns) r kept'

-- a table
pub record AsksTable (nums directory ends kept : List ℕ) (reach t : ℕ) : Type 0 where
  pub program : Program
  pub setting : Setting nums directory ends kept reach program
  pub inside : t < length program.tables

pub record CountsTable (nums directory ends kept kept' : List ℕ) (reach t r : ℕ) : Type 0 where
  pub low : r ≤ suc most_steps
  pub counted : (P : Program) → Setting nums directory ends kept reach P → t < length P.tables
      → Counted P (ceiling_table (callee_below P reach) (get_elem? P.tables t)) r kept'

-- the tables below a number are worked out
pub record FilledTo (P : Program) (reach : ℕ) (filled : List ℕ) (t : ℕ) : Type 0 where
  pub slots : length filled ≡ 8
  pub slot : (u : ℕ) → u < t → u < length P.tables
      → get_or filled u 0 ≡ cut (ceiling_table (callee_below P reach) (get_elem? P.tables u))

pub record AsksTables (nums directory ends kept filled : List ℕ) (reach t : ℕ) : Type 0 where
  pub program : Program
  pub setting : Setting nums directory ends kept reach program
  pub fills : FilledTo program reach filled t

pub record Filled (P : Program) (reach : ℕ) (filled kept : List ℕ) : Type 0 where
  pub fills : FilledTo P reach filled (length P.tables)
  pub keeps : Kept P kept

pub record CountsTables (nums directory ends kept kept' filled filled' : List ℕ) (reach t : ℕ) : Type 0 where
  pub counted : (P : Program) → Setting nums directory ends kept reach P → FilledTo P reach filled t
      → Filled P reach filled' kept'

-- what the whole count tells
pub record TellsCeiling (nums directory ends : List ℕ) (r : ℕ) : Type 0 where
  pub told : (P : Program) (end : ℕ) → StandsProgram nums directory ends P end → r ≡ cut (ceiling_of P)
