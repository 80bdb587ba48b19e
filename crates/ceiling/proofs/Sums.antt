-- Sums that are cut, and what a list of ceilings holds.
use mathlib.Core.Bool.{Bool, true, false}
use mathlib.Core.Option.{some}
use mathlib.Core.Path.{◌≡◌, refl, ◌∙◌}
use mathlib.Core.List.{[]}
use Prim.Native.Nat.{ℕ, zero, suc, ◌+◌, ◌≤◌, ◌<◌, max}
use native.Mathlib.Omega.{arith}
use lib.Dec.{eqb, ltb}
use lib.ListN.{length, get_or, get_elem?, get_or-append, get_or-eq_default}
use lib.Seq.{get_or_at}
use borrow.Author.Tests.{ne_eqb, eqb-true, eqb-false, ltb-true, ltb-false}
use Rattle.rules.specs.Syntax.{Expr, bool_literal, bits_literal, read_of, valid_of, negation, complement, binary, cast, slice, concatenation, call_expr, Stmt, empty, assign, if_else, block, call_stmt, apply, return_value, return, exit, set_valid, set_invalid, extract, verify, Callable, Program}
use Rattle.rules.specs.Ceiling.{most_steps, ceiling_expr, ceiling_args, ceiling_stmt, callee_in, no_table, ceiling_at, ceilings_below}
use Rattle.rules.proofs.Callables.{ceilings-length}
use Rattle.ceiling.specs.Cut.{cut}
use Rattle.ceiling.specs.Claims.{callee_below, ceiling_number, applied_in, operands_in, called_by, operands_of, run_by}

pub one-low : 1 ≤ suc most_steps
one-low = omega arith

pub cut_low : (r n : ℕ) → r ≡ cut n → r ≤ suc most_steps
unfolding cut
cut_low r n e = omega (arith, e)

pub cut-zero : 0 ≡ cut 0
unfolding cut
cut-zero = refl

-- sums of what is cut already
pub cut-own : (inside own exact : ℕ) → inside ≡ cut exact → own ≡ cut (1 + inside) → own ≡ cut (1 + exact)
unfolding cut
cut-own inside own exact e f = omega (arith, e, f)

pub cut-both : (own more r exact other : ℕ) → own ≡ cut exact → more ≡ cut other → r ≡ cut (own + more)
    → r ≡ cut (exact + other)
unfolding cut
cut-both own more r exact other e f g = omega (arith, e, f, g)

pub cut-max : (one other exact second : ℕ) → one ≡ cut exact → other ≡ cut second
    → max one other ≡ cut (max exact second)
unfolding cut
cut-max one other exact second e f = omega (arith, e, f)

pub cut-again : (total one total' rest r : ℕ) → total' ≡ cut (total + one) → r ≡ cut (total' + rest)
    → r ≡ cut (total + cut (one + rest))
unfolding cut
cut-again total one total' rest r e f = omega (arith, e, f)

pub cut-only : (total : ℕ) → total ≤ suc most_steps → cut (0 + total) ≡ total
unfolding cut
cut-only total h = omega (arith, h)

pub cut-alone : (total : ℕ) → total ≤ suc most_steps → total ≡ cut (total + 0)
unfolding cut
cut-alone total h = omega (arith, h)

pub cut-more : (total one total' exact rest all : ℕ) → one ≡ cut exact → total' ≡ cut (total + one)
    → cut all ≡ cut (total + (exact + rest)) → cut all ≡ cut (total' + rest)
unfolding cut
cut-more total one total' exact rest all e f g = omega (arith, e, f, g)

pub cut-begin : (all : ℕ) → cut all ≡ cut (0 + all)
unfolding cut
cut-begin all = omega arith

pub cut-done : (total all : ℕ) → total ≤ suc most_steps → cut all ≡ cut (total + 0) → total ≡ cut all
unfolding cut
cut-done total all h e = omega (arith, e)

pub ceil-expr : (callee : ℕ → ℕ) (e : Expr)
    → 1 + ceiling_args callee (operands_in e) + called_by callee e ≡ ceiling_expr callee e
unfolding ceiling_expr operands_in called_by
ceil-expr callee (bool_literal at n) = refl
ceil-expr callee (bits_literal at width n) = refl
ceil-expr callee (read_of at p) = refl
ceil-expr callee (valid_of at g) = refl
ceil-expr callee (negation at a) = omega arith
ceil-expr callee (complement at a) = omega arith
ceil-expr callee (binary at o a b) = omega arith
ceil-expr callee (cast at width a) = omega arith
ceil-expr callee (slice at high low a) = omega arith
ceil-expr callee (concatenation at a b) = omega arith
ceil-expr callee (call_expr at f xs) = omega arith

pub ceil-stmt : (callee table : ℕ → ℕ) (s : Stmt)
    → 1 + ceiling_args callee (operands_of s) + run_by callee table s ≡ ceiling_stmt callee table s
unfolding ceiling_expr ceiling_stmt operands_of run_by
ceil-stmt callee table (empty at) = refl
ceil-stmt callee table (assign at target p e) = omega arith
ceil-stmt callee table (if_else at c a b) = omega arith
ceil-stmt callee table (block at ss) = omega arith
ceil-stmt callee table (call_stmt at f xs) = omega arith
ceil-stmt callee table (apply at t) = omega arith
ceil-stmt callee table (return_value at e) = omega arith
ceil-stmt callee table (return at) = refl
ceil-stmt callee table (exit at) = refl
ceil-stmt callee table (set_valid at g) = refl
ceil-stmt callee table (set_invalid at g) = refl
ceil-stmt callee table (extract at g) = refl
ceil-stmt callee table (verify at c e) = omega arith

-- the ceilings of the callables below a number, by position
earlier-at : (P : Program) (n f : ℕ) → f < n
    → get_or (ceilings_below P (suc n)) f 0 ≡ get_or (ceilings_below P n) f 0
unfolding ceilings_below
earlier-at P n f h = get_or-append (ceilings_below P n) _ 0 f (rw (ceilings-length P n) h)

latest-at : (P : Program) (n : ℕ) → get_or (ceilings_below P (suc n)) n 0 ≡ ceiling_number P n
unfolding ceilings_below ceiling_number
latest-at P n = get_or_at (ceilings_below P n) _ [] 0 n (ceilings-length P n)

pub below : (f n : ℕ) → f < suc n → (f ≡ n → ⊥) → f < n
below f n h other = by (ltb f n) refl
  where
    by : (b : Bool) → ltb f n ≡ b → f < n
    by true e = ltb-true f n e
    by false e = absurd (other (omega (arith, ltb-false f n e, h)))

pub callee_at : (P : Program) (n f : ℕ) → f < n → callee_below P n f ≡ ceiling_number P f
unfolding callee_in
callee_at P zero f h = absurd (omega arith)
callee_at P (suc n) f h = go (eqb f n) refl (callee_at P n f)
  where
    go : (b : Bool) → eqb f n ≡ b → (f < n → get_or (ceilings_below P n) f 0 ≡ ceiling_number P f)
        → get_or (ceilings_below P (suc n)) f 0 ≡ ceiling_number P f
    go true e ih = let same : f ≡ n = eqb-true f n e in rw same (latest-at P n)
    go false e ih =
        let other : f ≡ n → ⊥ = eqb-false f n e in
        let lower : f < n = below f n h other in
        earlier-at P n f lower ∙ ih lower

pub callee-none : (P : Program) (n f : ℕ) → n ≤ f → callee_below P n f ≡ 0
unfolding callee_in
callee-none P n f h = get_or-eq_default (ceilings_below P n) 0 (rw (ceilings-length P n) h)

-- no apply in a callable
pub applied-none : (P : Program) (f : ℕ) (table : ℕ → ℕ) → f < length P.callables → applied_in P f table ≡ no_table
unfolding applied_in
applied-none P f table h = rw (applied_in, ne_eqb f (length P.callables) (λ e. absurd (omega (arith, e))))

-- a callable's ceiling is its body's
pub number-is : (P : Program) (f : ℕ) (table : ℕ → ℕ) (c : Callable) → get_elem? P.callables f ≡ some c
    → f < length P.callables → ceiling_number P f ≡ ceiling_stmt (callee_below P f) (applied_in P f table) c.body
unfolding ceiling_number ceiling_at
number-is P f table c e h = rw (e, applied-none P f table h)
