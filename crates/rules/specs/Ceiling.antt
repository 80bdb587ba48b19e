-- The ceiling (document 01, "How it runs", last paragraph; refusal 9; document 02, E2): at least the steps of every
-- run, from the program alone. Each construct counts 1 and its operands; both branches of an if their larger; a call
-- and an apply add what they run.
use Rattle.std.specs.Prelude.{true, false, ℕ, zero, suc, ◌+◌, max, List, [], ◌∷◌, ◌++◌, map, eqb, get_or, length}
use Rattle.std.proofs.Math.Option.{Option, none, some}
use Rattle.std.proofs.Math.ListN.{get_elem?}
use Rattle.rules.specs.Syntax.{Expr, bool_literal, bits_literal, read_of, valid_of, negation, complement, binary, cast, slice, concatenation, call_expr, Args, no_args, arg}
use Rattle.rules.specs.Syntax.{Stmt, empty, assign, if_else, block, call_stmt, apply, return_value, return, exit, set_valid, set_invalid, extract, verify, Stmts, no_stmts, stmt}
use Rattle.rules.specs.Syntax.{Callable, Numeral, Key, Table, Transition, no_transition, accept, reject, lead_to, select, ParserState, Program}

-- the most that a judged program may take
abbrev pub most_steps : ℕ
most_steps = 1000000

-- `callee` gives the ceiling of a callable's body
module _ (callee : ℕ → ℕ) where
  unfoldable mutual
    pub ceiling_expr : Expr → ℕ
    ceiling_expr (bool_literal at n) = 1
    ceiling_expr (bits_literal at width n) = 1
    ceiling_expr (read_of at p) = 1
    ceiling_expr (valid_of at g) = 1
    ceiling_expr (negation at a) = 1 + ceiling_expr a
    ceiling_expr (complement at a) = 1 + ceiling_expr a
    ceiling_expr (binary at o a b) = 1 + (ceiling_expr a + ceiling_expr b)
    ceiling_expr (cast at width a) = 1 + ceiling_expr a
    ceiling_expr (slice at high low a) = 1 + ceiling_expr a
    ceiling_expr (concatenation at a b) = 1 + (ceiling_expr a + ceiling_expr b)
    ceiling_expr (call_expr at f xs) = 1 + (ceiling_args xs + callee f)

    pub ceiling_args : Args → ℕ
    ceiling_args no_args = 0
    ceiling_args (arg e xs) = ceiling_expr e + ceiling_args xs

-- `table` gives the ceiling of what an apply runs
module _ (callee table : ℕ → ℕ) where
  unfoldable mutual
    pub ceiling_stmt : Stmt → ℕ
    ceiling_stmt (empty at) = 1
    ceiling_stmt (assign at target p e) = 1 + ceiling_expr callee e
    ceiling_stmt (if_else at c a b) = 1 + (ceiling_expr callee c + max (ceiling_stmt a) (ceiling_stmt b))
    ceiling_stmt (block at ss) = 1 + ceiling_stmts ss
    ceiling_stmt (call_stmt at f xs) = 1 + (ceiling_args callee xs + callee f)
    ceiling_stmt (apply at t) = 1 + table t
    ceiling_stmt (return_value at e) = 1 + ceiling_expr callee e
    ceiling_stmt (return at) = 1
    ceiling_stmt (exit at) = 1
    ceiling_stmt (set_valid at g) = 1
    ceiling_stmt (set_invalid at g) = 1
    ceiling_stmt (extract at g) = 1
    ceiling_stmt (verify at c e) = 1 + ceiling_expr callee c

    pub ceiling_stmts : Stmts → ℕ
    ceiling_stmts no_stmts = 0
    ceiling_stmts (stmt s ss) = ceiling_stmt s + ceiling_stmts ss

-- what a list of ceilings gives for a callable
unfoldable pub callee_in : List ℕ → ℕ → ℕ
callee_in ceilings f = get_or ceilings f 0

-- no apply stands in a callable or a state
abbrev pub no_table : ℕ → ℕ
no_table t = 0

unfoldable pub ceiling_at : List ℕ → Option Callable → ℕ
ceiling_at ceilings none = 0
ceiling_at ceilings (some c) = ceiling_stmt (callee_in ceilings) no_table c.body

-- the ceilings of the callables below n, each from those before it
unfoldable pub ceilings_below : Program → ℕ → List ℕ
ceilings_below P zero = []
ceilings_below P (suc n) = let lower = ceilings_below P n in lower ++ (ceiling_at lower (get_elem? P.callables n) ∷ [])

-- a table: its keys, and the largest of its listed actions
unfoldable pub ceiling_keys : (ℕ → ℕ) → List Key → ℕ
ceiling_keys callee [] = 0
ceiling_keys callee (k ∷ ks) = ceiling_expr callee k.expr + ceiling_keys callee ks

unfoldable pub largest_of : (ℕ → ℕ) → List Numeral → ℕ
largest_of callee [] = 0
largest_of callee (a ∷ rest) = max (callee a.number) (largest_of callee rest)

unfoldable pub ceiling_table : (ℕ → ℕ) → Option Table → ℕ
ceiling_table callee none = 0
ceiling_table callee (some T) = ceiling_keys callee T.keys + largest_of callee T.actions

-- a transition: its expression, and the dearest of the states that it names
unfoldable pub ceiling_transition : (ℕ → ℕ) → (ℕ → ℕ) → Transition → ℕ
ceiling_transition callee later no_transition = 0
ceiling_transition callee later accept = 0
ceiling_transition callee later (reject e) = 0
ceiling_transition callee later (lead_to s) = later s.number
ceiling_transition callee later (select at e ps) = ceiling_expr callee e + largest_of later (map (λ p. p.state) ps)

-- a state with what it leads to; the first of the list has number n
unfoldable pub ceiling_from : (ℕ → ℕ) → ℕ → List ParserState → ℕ → ℕ
ceiling_from callee n [] m = 0
ceiling_from callee n (s ∷ ss) m = elim (eqb m n) [
  | true ↦ 1 + (ceiling_stmt callee no_table s.body
      + ceiling_transition callee (ceiling_from callee (suc n) ss) s.transition)
  | false ↦ ceiling_from callee (suc n) ss m
]

unfoldable pub ceiling_parser : (ℕ → ℕ) → Program → ℕ
ceiling_parser callee P = ceiling_from callee 0 P.states 0

-- the program's: its parser's and its apply body's
unfoldable pub ceiling_with : List ℕ → Program → ℕ
ceiling_with ceilings P =
    ceiling_parser (callee_in ceilings) P
    + ceiling_stmt (callee_in ceilings) (λ t. ceiling_table (callee_in ceilings) (get_elem? P.tables t)) P.body

unfoldable pub ceiling_of : Program → ℕ
ceiling_of P = ceiling_with (ceilings_below P (length P.callables)) P
