-- What is laid stays: each construct writes only inside itself, from inside out. So once an expression, a statement or
-- a program is laid, every slot of a construct in it holds that construct's end.
use mathlib.Core.Path.{◌≡◌, refl, ◌∙◌}
use mathlib.Core.List.{List}
use Prim.Native.Nat.{ℕ, ◌-◌, ◌≤◌, ◌<◌}
use native.Mathlib.Omega.{arith}
use lib.ListN.{length, get_or, set, length-set}
use lib.Seq.{get_or-set_same, get_or-set_other}
use Rattle.rules.specs.Syntax.{Expr, bool_literal, bits_literal, read_of, valid_of, negation, complement, binary, cast, slice, concatenation, call_expr, Args, no_args, arg}
use Rattle.rules.specs.Syntax.{Stmt, empty, assign, if_else, block, call_stmt, apply, return_value, return, exit, set_valid, set_invalid, extract, verify, Stmts, no_stmts, stmt}
use Rattle.shape.specs.Directory.{stmt_at}
use Rattle.shape.specs.Ends.{expr_at, args_at, stmts_at, lay_expr, lay_args, lay_stmt, lay_stmts}
use Rattle.shape.specs.Ends.{EndedExpr, EndedArgs, EndedStmt, EndedStmts}

-- a slot that is not of a range
pub data Outside (k from end : ℕ) : Type 0 where
  before : k < from → Outside k from end
  after : end ≤ k → Outside k from end

-- the slots of a range are written, and what is told of them holds of all slots that agree with them there
pub record Layer (from end : ℕ) (lay : List ℕ → List ℕ) (Ended : List ℕ → Type 0) : Type 0 where
  pub order : from ≤ end
  pub long : (slots : List ℕ) → length (lay slots) ≡ length slots
  pub others : (slots : List ℕ) (k : ℕ) → Outside k from end → get_or (lay slots) k 0 ≡ get_or slots k 0
  pub ended : (slots last : List ℕ) → end ≤ length slots
      → ((k : ℕ) → from ≤ k → k < end → get_or last k 0 ≡ get_or (lay slots) k 0) → Ended last

pub layer-none : (end : ℕ) → Layer end end (λ slots. slots) (λ slots. Unit)
layer-none end = record {
  order = omega arith;
  long = λ slots. refl;
  others = λ slots k h. refl;
  ended = λ slots last h e. tt;
}

apart : (k at end : ℕ) → at < end → Outside k at end → k ≡ at → ⊥
apart k at end h (before l) e = omega arith
apart k at end h (after l) e = omega arith

pub layer-slot : (at end : ℕ) → at < end → Layer at end (λ slots. set slots at end) (λ slots. get_or slots at 0 ≡ end)
layer-slot at end h = record {
  order = omega arith;
  long = λ slots. length-set slots at end;
  others = λ slots k o. get_or-set_other slots at k end 0 (apart k at end h o);
  ended = λ slots last l e. e at (omega arith) h ∙ get_or-set_same slots at end 0 (omega arith);
}

narrow-first : (k from mid end : ℕ) → from ≤ mid → mid ≤ end → Outside k from end → Outside k from mid
narrow-first k from mid end h l (before o) = before o
narrow-first k from mid end h l (after o) = after (omega arith)

narrow-second : (k from mid end : ℕ) → from ≤ mid → mid ≤ end → Outside k from end → Outside k mid end
narrow-second k from mid end h l (before o) = before (omega arith)
narrow-second k from mid end h l (after o) = after o

pub layer-both : {from mid end : ℕ} {lay lay₂ : List ℕ → List ℕ} {E E₂ : List ℕ → Type 0} → Layer from mid lay E
    → Layer mid end lay₂ E₂
    → Layer from end (λ slots. lay₂ (lay slots)) (λ slots. E slots × E₂ slots)
layer-both {from} {mid} {end} {lay} {lay₂} a b = record {
  order = omega (arith, a.order, b.order);
  long = λ slots. b.long (lay slots) ∙ a.long slots;
  others = λ slots k o. b.others (lay slots) k (narrow-second k from mid end a.order b.order o)
      ∙ a.others slots k (narrow-first k from mid end a.order b.order o);
  ended = λ slots last h e. (
    a.ended slots last (omega (arith, b.order)) (λ k l m. e k l (omega (arith, b.order)) ∙ b.others (lay slots) k
        (before m)),
    b.ended (lay slots) last (rw (a.long slots) h) (λ k l m. e k (omega (arith, a.order)) m),
  );
}

wider : (k at from end : ℕ) → at ≤ from → Outside k at end → Outside k from end
wider k at from end h (before l) = before (omega arith)
wider k at from end h (after l) = after l

pub layer-own : {from end : ℕ} {lay : List ℕ → List ℕ} {E : List ℕ → Type 0} (at : ℕ) → at < from → Layer from end lay E
    → Layer at end (λ slots. set (lay slots) at end) (λ slots. (get_or slots at 0 ≡ end) × E slots)
layer-own {from} {end} {lay} at h a = record {
  order = omega (arith, a.order);
  long = λ slots. length-set (lay slots) at end ∙ a.long slots;
  others = λ slots k o. get_or-set_other (lay slots) at k end 0 (apart k at end (omega (arith, a.order)) o)
      ∙ a.others slots k (wider k at from end (omega arith) o);
  ended = λ slots last l e. (
    e at (omega arith) (omega (arith, a.order)) ∙ get_or-set_same (lay slots) at end 0
        (rw (a.long slots) (omega (arith, a.order))),
    a.ended slots last l
        (λ k m n. e k (omega arith) n ∙ get_or-set_other (lay slots) at k end 0 (λ q. omega arith)),
  );
}

pub layer-wide : {from end : ℕ} {lay : List ℕ → List ℕ} {E : List ℕ → Type 0} (at : ℕ) → at ≤ from
    → Layer from end lay E
    → Layer at end lay E
layer-wide {from} {end} {lay} at h a = record {
  order = omega (arith, a.order);
  long = a.long;
  others = λ slots k o. a.others slots k (wider k at from end h o);
  ended = λ slots last l e. a.ended slots last l (λ k m n. e k (omega arith) n);
}

pub layer-long : {from mid : ℕ} {lay : List ℕ → List ℕ} {E : List ℕ → Type 0} (end : ℕ) → mid ≤ end
    → Layer from mid lay E
    → Layer from end lay E
layer-long {from} {mid} {lay} end h a = record {
  order = omega (arith, a.order);
  long = a.long;
  others = λ slots k o. a.others slots k (narrow-first k from mid end a.order h o);
  ended = λ slots last l e. a.ended slots last (omega arith) (λ k m n. e k m (omega arith));
}

-- constructs stand in order: each begins behind the tag of the one around it, and where the one before it ends
unfoldable mutual
  pub OrderedExpr : Expr → ℕ → Type 0
  OrderedExpr (bool_literal at n) end = at < end
  OrderedExpr (bits_literal at width n) end = at < end
  OrderedExpr (read_of at p) end = at < end
  OrderedExpr (valid_of at g) end = at < end
  OrderedExpr (negation at a) end = (at < expr_at a) × OrderedExpr a end
  OrderedExpr (complement at a) end = (at < expr_at a) × OrderedExpr a end
  OrderedExpr (binary at o a b) end = (at < expr_at a) × (OrderedExpr a (expr_at b) × OrderedExpr b end)
  OrderedExpr (cast at width a) end = (at < expr_at a) × OrderedExpr a end
  OrderedExpr (slice at high low a) end = (at < expr_at a) × OrderedExpr a end
  OrderedExpr (concatenation at a b) end = (at < expr_at a) × (OrderedExpr a (expr_at b) × OrderedExpr b end)
  OrderedExpr (call_expr at f xs) end = (at < args_at xs end) × OrderedArgs xs end

  pub OrderedArgs : Args → ℕ → Type 0
  OrderedArgs no_args end = Unit
  OrderedArgs (arg e es) end = OrderedExpr e (args_at es end) × OrderedArgs es end

unfoldable mutual
  pub OrderedStmt : Stmt → ℕ → Type 0
  OrderedStmt (empty at) end = at < end
  OrderedStmt (assign at target place value) end =
      (at < target) × ((target < expr_at value) × OrderedExpr value end)
  OrderedStmt (if_else at c a b) end =
      (at < expr_at c) × (OrderedExpr c (stmt_at a) × (OrderedStmt a (stmt_at b) × OrderedStmt b end))
  OrderedStmt (block at ss) end = (at < stmts_at ss end) × OrderedStmts ss end
  OrderedStmt (call_stmt at f xs) end = (at < args_at xs end) × OrderedArgs xs end
  OrderedStmt (apply at t) end = at < end
  OrderedStmt (return_value at e) end = (at < expr_at e) × OrderedExpr e end
  OrderedStmt (return at) end = at < end
  OrderedStmt (exit at) end = at < end
  OrderedStmt (set_valid at g) end = at < end
  OrderedStmt (set_invalid at g) end = at < end
  OrderedStmt (extract at g) end = at < end
  OrderedStmt (verify at c e) end = (at < expr_at c) × OrderedExpr c (end - 1)

  pub OrderedStmts : Stmts → ℕ → Type 0
  OrderedStmts no_stmts end = Unit
  OrderedStmts (stmt s ss) end = OrderedStmt s (stmts_at ss end) × OrderedStmts ss end

mutual
  unfolding lay_expr lay_args EndedExpr EndedArgs OrderedExpr OrderedArgs expr_at args_at

  pub layer-expr : (e : Expr) (end : ℕ) → OrderedExpr e end → Layer (expr_at e) end (lay_expr e end) (EndedExpr e end)
  layer-expr (bool_literal at n) end h = layer-slot at end h
  layer-expr (bits_literal at width n) end h = layer-slot at end h
  layer-expr (read_of at p) end h = layer-slot at end h
  layer-expr (valid_of at g) end h = layer-slot at end h
  layer-expr (negation at a) end h = layer-own at h.0 (layer-expr a end h.1)
  layer-expr (complement at a) end h = layer-own at h.0 (layer-expr a end h.1)
  layer-expr (binary at o a b) end h =
      layer-own at h.0 (layer-both (layer-expr a (expr_at b) h.1.0) (layer-expr b end h.1.1))
  layer-expr (cast at width a) end h = layer-own at h.0 (layer-expr a end h.1)
  layer-expr (slice at high low a) end h = layer-own at h.0 (layer-expr a end h.1)
  layer-expr (concatenation at a b) end h =
      layer-own at h.0 (layer-both (layer-expr a (expr_at b) h.1.0) (layer-expr b end h.1.1))
  layer-expr (call_expr at f xs) end h = layer-own at h.0 (layer-args xs end h.1)

  pub layer-args : (xs : Args) (end : ℕ) → OrderedArgs xs end
      → Layer (args_at xs end) end (lay_args xs end) (EndedArgs xs end)
  layer-args no_args end h = layer-none end
  layer-args (arg e es) end h = layer-both (layer-expr e (args_at es end) h.0) (layer-args es end h.1)

mutual
  unfolding lay_stmt lay_stmts EndedStmt EndedStmts OrderedStmt OrderedStmts stmt_at stmts_at

  pub layer-stmt : (s : Stmt) (end : ℕ) → OrderedStmt s end → Layer (stmt_at s) end (lay_stmt s end) (EndedStmt s end)
  layer-stmt (empty at) end h = layer-slot at end h
  layer-stmt (assign at target place value) end h =
      layer-own at h.0 (layer-both (layer-slot target (expr_at value) h.1.0) (layer-expr value end h.1.1))
  layer-stmt (if_else at c a b) end h =
      layer-own at h.0 (layer-both (layer-expr c (stmt_at a) h.1.0)
      (layer-both (layer-stmt a (stmt_at b) h.1.1.0) (layer-stmt b end h.1.1.1)))
  layer-stmt (block at ss) end h = layer-own at h.0 (layer-stmts ss end h.1)
  layer-stmt (call_stmt at f xs) end h = layer-own at h.0 (layer-args xs end h.1)
  layer-stmt (apply at t) end h = layer-slot at end h
  layer-stmt (return_value at e) end h = layer-own at h.0 (layer-expr e end h.1)
  layer-stmt (return at) end h = layer-slot at end h
  layer-stmt (exit at) end h = layer-slot at end h
  layer-stmt (set_valid at g) end h = layer-slot at end h
  layer-stmt (set_invalid at g) end h = layer-slot at end h
  layer-stmt (extract at g) end h = layer-slot at end h
  layer-stmt (verify at c e) end h =
      layer-own at h.0 (layer-long end (omega arith) (layer-expr c (end - 1) h.1))

  pub layer-stmts : (ss : Stmts) (end : ℕ) → OrderedStmts ss end
      → Layer (stmts_at ss end) end (lay_stmts ss end) (EndedStmts ss end)
  layer-stmts no_stmts end h = layer-none end
  layer-stmts (stmt s ss) end h = layer-both (layer-stmt s (stmts_at ss end) h.0) (layer-stmts ss end h.1)

-- a construct's own slot
pub own-expr : (e : Expr) (end : ℕ) (slots : List ℕ) → EndedExpr e end slots → get_or slots (expr_at e) 0 ≡ end
unfolding EndedExpr expr_at
own-expr (bool_literal at n) end slots h = h
own-expr (bits_literal at width n) end slots h = h
own-expr (read_of at p) end slots h = h
own-expr (valid_of at g) end slots h = h
own-expr (negation at a) end slots h = h.0
own-expr (complement at a) end slots h = h.0
own-expr (binary at o a b) end slots h = h.0
own-expr (cast at width a) end slots h = h.0
own-expr (slice at high low a) end slots h = h.0
own-expr (concatenation at a b) end slots h = h.0
own-expr (call_expr at f xs) end slots h = h.0

pub own-stmt : (s : Stmt) (end : ℕ) (slots : List ℕ) → EndedStmt s end slots → get_or slots (stmt_at s) 0 ≡ end
unfolding EndedStmt stmt_at
own-stmt (empty at) end slots h = h
own-stmt (assign at target place value) end slots h = h.0
own-stmt (if_else at c a b) end slots h = h.0
own-stmt (block at ss) end slots h = h.0
own-stmt (call_stmt at f xs) end slots h = h.0
own-stmt (apply at t) end slots h = h
own-stmt (return_value at e) end slots h = h.0
own-stmt (return at) end slots h = h
own-stmt (exit at) end slots h = h
own-stmt (set_valid at g) end slots h = h
own-stmt (set_invalid at g) end slots h = h
own-stmt (extract at g) end slots h = h
own-stmt (verify at c e) end slots h = h.0
