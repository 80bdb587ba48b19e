-- The form of the construct at an index, by its tag.
use mathlib.Core.Path.{◌≡◌, refl}
use mathlib.Core.List.{List}
use Prim.Native.Nat.{ℕ, ◌+◌, ◌-◌}
use lib.ListN.{get_or}
use Rattle.rules.specs.Syntax.{Expr, negation, complement, binary, cast, slice, concatenation, Stmt}
use Rattle.rules.specs.Form.{Scope}
use Rattle.rules.specs.Running as rules
use Rattle.rules.specs.Running.{State, Ending, M, tick, or_stuck, Calls, run_expr, run_stmt}
use Rattle.program.specs.Stands.{StandsExpr, on_bool, on-bits, on-place, on-valid, on-not, on-complement, on-binary, on-cast, on-slice, on-concatenation, on_call}
use Rattle.program.specs.Stands.{StandsStmt, on-empty, on-assign, on-if, on-block, on-call-stmt, on-apply, on-return-value, on_return, on-exit, on-set-valid, on-set-invalid, on-extract, on-verify}
use Rattle.program.proofs.Views.{OneView, TwoView, BinaryView, CastView, SliceView, ExprView, expr-view}
use Rattle.steps.specs.Operands.{leaf_in, on_one}
use Rattle.steps.specs.Singles.{single_in}
use Rattle.runner.specs.Forms.{LeafAt, OneIn, OneAt, pair_with, TwoIn, TwoAt, SingleAt}

-- one operand
one-as : {nums ends : List ℕ} {depth first : ℕ} {e : Expr} (make : Expr → Expr) (a : Expr) → e ≡ make a
    → StandsExpr nums ends (depth - 1) first a
    → ((Γ : Scope) (used : ℕ) (calls : Calls) → run_expr Γ used calls (make a)
    ≡ tick (rules.◌>>=◌ (run_expr Γ used calls a) λ v. or_stuck (on_one (make a) v)))
    → OneIn nums ends depth first e
one-as make a same w is = record { operand = a; stands = w; is = λ Γ used calls. rw same (is Γ used calls) }

module _ (nums ends : List ℕ) (depth at : ℕ) where
  pub not-form : get_or nums at 0 ≡ 7 → OneAt nums ends depth at (at + 1)
  unfolding ExprView run_expr on_one
  not-form q = record {
    one = λ e w.
        let v : OneView nums ends depth at e (negation at) (at + 1) = rw q at (expr-view w) in
        one-as (negation at) v.operand v.same v.stands λ Γ used calls. refl;
  }

  pub complement-form : get_or nums at 0 ≡ 8 → OneAt nums ends depth at (at + 1)
  unfolding ExprView run_expr on_one
  complement-form q = record {
    one = λ e w.
        let v : OneView nums ends depth at e (complement at) (at + 1) = rw q at (expr-view w) in
        one-as (complement at) v.operand v.same v.stands λ Γ used calls. refl;
  }

  pub cast-form : get_or nums at 0 ≡ 10 → OneAt nums ends depth at (at + 2)
  unfolding ExprView run_expr on_one
  cast-form q = record {
    one = λ e w.
        let v : CastView nums ends depth at e = rw q at (expr-view w) in
        one-as (cast at v.width) v.operand.operand v.operand.same v.operand.stands λ Γ used calls. refl;
  }

  pub slice-form : get_or nums at 0 ≡ 11 → OneAt nums ends depth at (at + 3)
  unfolding ExprView run_expr on_one
  slice-form q = record {
    one = λ e w.
        let v : SliceView nums ends depth at e = rw q at (expr-view w) in
        one-as (slice at v.high v.low) v.operand.operand v.operand.same v.operand.stands
        λ Γ used calls. refl;
  }

-- two
two-as : {nums ends : List ℕ} {depth first : ℕ} {e : Expr} (make : Expr → Expr → Expr) (a b : Expr) → e ≡ make a b
    → StandsExpr nums ends (depth - 1) first a → StandsExpr nums ends (depth - 1) (get_or ends first 0) b
    → ((Γ : Scope) (used : ℕ) (calls : Calls) → run_expr Γ used calls (make a b)
    ≡ tick (pair_with (make a b) (run_expr Γ used calls a) (run_expr Γ used calls b)))
    → TwoIn nums ends depth first e
two-as make a b same w u is =
    record { left = a; right = b; left_stands = w; right_stands = u; is = λ Γ used calls. rw same (is Γ used calls) }

module _ (nums ends : List ℕ) (depth at : ℕ) where
  pub binary-form : get_or nums at 0 ≡ 9 → TwoAt nums ends depth at (at + 2)
  unfolding ExprView run_expr pair_with
  binary-form q = record {
    two = λ e w.
        let v : BinaryView nums ends depth at e = rw q at (expr-view w) in
        let o = v.operands in
        two-as (binary at v.operator) o.left o.right o.same o.left_stands o.right_stands
        λ Γ used calls. refl;
  }

  pub joined-form : get_or nums at 0 ≡ 12 → TwoAt nums ends depth at (at + 1)
  unfolding ExprView run_expr pair_with
  joined-form q = record {
    two = λ e w.
        let v : TwoView nums ends depth at e (concatenation at) (at + 1) = rw q at (expr-view w) in
        two-as (concatenation at) v.left v.right v.same v.left_stands v.right_stands λ Γ used calls. refl;
  }

-- none
module _ {nums ends : List ℕ} {depth at : ℕ} where
  leaf-as : {e : Expr} → StandsExpr nums ends depth at e → (get_or nums at 0 ≡ 7 → ⊥) → (get_or nums at 0 ≡ 8 → ⊥)
      → (get_or nums at 0 ≡ 9 → ⊥) → (get_or nums at 0 ≡ 10 → ⊥) → (get_or nums at 0 ≡ 11 → ⊥) → (get_or nums at 0 ≡ 12 → ⊥)
      → (get_or nums at 0 ≡ 13 → ⊥) → (Γ : Scope) (used : ℕ) (calls : Calls) → run_expr Γ used calls e ≡ tick (leaf_in Γ e)
  unfolding run_expr leaf_in
  leaf-as (on_bool t n) a b c d e f g Γ used calls = refl
  leaf-as (on-bits t w n) a b c d e f g Γ used calls = refl
  leaf-as (on-place t p) a b c d e f g Γ used calls = refl
  leaf-as (on-valid t n) a b c d e f g Γ used calls = refl
  leaf-as (on-not t x) a b c d e f g Γ used calls = absurd (a t.holds.is)
  leaf-as (on-complement t x) a b c d e f g Γ used calls = absurd (b t.holds.is)
  leaf-as (on-binary t o x y) a b c d e f g Γ used calls = absurd (c t.holds.is)
  leaf-as (on-cast t w x) a b c d e f g Γ used calls = absurd (d t.holds.is)
  leaf-as (on-slice t h l x) a b c d e f g Γ used calls = absurd (e t.holds.is)
  leaf-as (on-concatenation t x y) a b c d e f g Γ used calls = absurd (f t.holds.is)
  leaf-as (on_call t n k xs) a b c d e f g Γ used calls = absurd (g t.holds.is)

  single-as : {st : Stmt} → StandsStmt nums ends depth at st → (get_or nums at 0 ≡ 1 → ⊥) → (get_or nums at 0 ≡ 2 → ⊥)
      → (get_or nums at 0 ≡ 3 → ⊥) → (get_or nums at 0 ≡ 4 → ⊥) → (get_or nums at 0 ≡ 5 → ⊥) → (get_or nums at 0 ≡ 6 → ⊥)
      → (get_or nums at 0 ≡ 12 → ⊥) → (Γ : Scope) (used : ℕ) (calls : Calls) (applied : ℕ → M State Ending)
      → run_stmt Γ used calls applied st ≡ tick (single_in Γ st)
  unfolding run_stmt single_in
  single-as (on-empty t) a b c d e f g Γ used calls applied = refl
  single-as (on-assign t p w x) a b c d e f g Γ used calls applied = absurd (a t.holds.is)
  single-as (on-if t x y z) a b c d e f g Γ used calls applied = absurd (b t.holds.is)
  single-as (on-block t n ss) a b c d e f g Γ used calls applied = absurd (c t.holds.is)
  single-as (on-call-stmt t n k xs) a b c d e f g Γ used calls applied = absurd (d t.holds.is)
  single-as (on-apply t n) a b c d e f g Γ used calls applied = absurd (e t.holds.is)
  single-as (on-return-value t x) a b c d e f g Γ used calls applied = absurd (f t.holds.is)
  single-as (on_return t) a b c d e f g Γ used calls applied = refl
  single-as (on-exit t) a b c d e f g Γ used calls applied = refl
  single-as (on-set-valid t n) a b c d e f g Γ used calls applied = refl
  single-as (on-set-invalid t n) a b c d e f g Γ used calls applied = refl
  single-as (on-extract t n) a b c d e f g Γ used calls applied = refl
  single-as (on-verify t x n) a b c d e f g Γ used calls applied = absurd (g t.holds.is)

pub leaf-form : (nums ends : List ℕ) (depth at : ℕ) → (get_or nums at 0 ≡ 7 → ⊥) → (get_or nums at 0 ≡ 8 → ⊥)
    → (get_or nums at 0 ≡ 9 → ⊥) → (get_or nums at 0 ≡ 10 → ⊥) → (get_or nums at 0 ≡ 11 → ⊥) → (get_or nums at 0 ≡ 12 → ⊥)
    → (get_or nums at 0 ≡ 13 → ⊥) → LeafAt nums ends depth at
leaf-form nums ends depth at a b c d e f g = record { is = λ x w. leaf-as w a b c d e f g }

pub single-form : (nums ends : List ℕ) (depth at : ℕ) → (get_or nums at 0 ≡ 1 → ⊥) → (get_or nums at 0 ≡ 2 → ⊥)
    → (get_or nums at 0 ≡ 3 → ⊥) → (get_or nums at 0 ≡ 4 → ⊥) → (get_or nums at 0 ≡ 5 → ⊥) → (get_or nums at 0 ≡ 6 → ⊥)
    → (get_or nums at 0 ≡ 12 → ⊥) → SingleAt nums ends depth at
single-form nums ends depth at a b c d e f g = record { is = λ st w. single-as w a b c d e f g }
