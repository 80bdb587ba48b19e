-- What a construct holds, from its tag: its operands, the callable that it calls, what a statement runs besides.
use Rattle.std.specs.Prelude.{Option, Some}
use mathlib.Core.Path.{◌≡◌, refl, ◌∙◌}
use mathlib.Core.List.{List}
use Prim.Native.Nat.{ℕ, ◌+◌, ◌-◌, ◌*◌, ◌≤◌, ◌<◌, ◌^◌}
use native.Mathlib.Omega.{arith}
use lib.ListN.{length, get_or}
use Rattle.rules.specs.Syntax.{Expr, negation, complement, binary, cast, slice, concatenation, Args, no_args, arg}
use Rattle.rules.specs.Syntax.{Stmt, apply}
use Rattle.program.specs.Codes.{arg_count}
use Rattle.program.specs.Stands.{StandsExpr, on_bool, on-bits, on-place, on-valid, on-not, on-complement, on-binary, on-cast, on-slice, on-concatenation, on_call}
use Rattle.program.specs.Stands.{StandsArgs, on_none, on-arg}
use Rattle.program.specs.Stands.{StandsStmt, on-empty, on-assign, on-if, on-block, on-call-stmt, on-apply, on-return-value, on_return, on-exit, on-set-valid, on-set-invalid, on-extract, on-verify}
use Rattle.program.proofs.Views.{ExprView, expr-view, OneView, TwoView, BinaryView, CastView, SliceView, CallView, Begins, expr-begins, StmtView, stmt-view, AssignView, IfView, BlockView, CallStmtView, NamedView, ReturnView, VerifyView, stmt-begins}
use Rattle.ceiling.specs.Claims.{operands_in, called_by, calling, operands_of, run_by, AsksHeld, AsksHeldStmt, Operand, HeldExpr, Plain, HeldStmt, RunsIn, runs-branches, runs-members, runs-body, runs-table, runs-nothing, HeldRuns}
use Rattle.ceiling.specs.declared.operands.Runs.TheVariants.{Branches, Members, Body, Applied, Nothing}

-- inside the numbers, with a level left
pub record Inside (nums : List ℕ) (depth at : ℕ) : Type 0 where
  pub inside : at < length nums
  pub levels : 0 < depth
  pub numbers : length nums ≤ 4096

pub expr-inside : (nums ends : List ℕ) (depth at : ℕ) → AsksHeld nums ends depth at → Inside nums depth at
expr-inside nums ends depth at a =
    record { inside = (expr-begins a.stands).inside; levels = (expr-begins a.stands).levels; numbers = a.numbers }

module _ (nums ends : List ℕ) (depth at : ℕ) (a : AsksHeld nums ends depth at) where
  pub level-left : 0 < depth
  level-left = (expr-begins a.stands).levels

  pub callable-inside : get_or nums at 0 ≡ 13 → at + 1 < length nums
  unfolding ExprView
  callable-inside k =
      let v : CallView nums ends depth at a.expr = rw k at (expr-view a.stands) in
      v.holds.inside

  pub count-inside : get_or nums at 0 ≡ 13 → at + 2 < length nums
  unfolding ExprView
  count-inside k =
      let v : CallView nums ends depth at a.expr = rw k at (expr-view a.stands) in
      v.count.holds.inside

-- so many operands stand there, and nothing is called
record Bare (nums ends : List ℕ) (depth first count : ℕ) (e : Expr) : Type 0 where
  pub stand : StandsArgs nums ends (depth - 1) first (operands_in e)
  pub counts : count ≡ arg_count (operands_in e)
  pub calls : (callee : ℕ → ℕ) → called_by callee e ≡ 0

held_plain : (nums ends : List ℕ) (depth at first count lower first' count' : ℕ) (callable : Option ℕ)
    → ((e : Expr) → StandsExpr nums ends depth at e → Bare nums ends depth first count e)
    → Plain depth first count lower first' count' callable
    → HeldExpr nums ends depth at lower first' count' callable
unfolding calling
held_plain nums ends depth at first count lower first' count' callable bare r = record {
  operands = λ e s. record {
    levels = omega (arith, r.lower_is, (expr-begins s).levels);
    stand = rw (r.lower_is, r.first_is) (bare e s).stand;
    counts = r.count_is ∙ (bare e s).counts;
  };
  called_is = λ e s callee. rw r.callable_is ((bare e s).calls callee);
}

one-bare : (nums ends : List ℕ) (depth at first : ℕ) (e : Expr) (make : Expr → Expr)
    → ((a : Expr) → operands_in (make a) ≡ arg a no_args) → ((a : Expr) (callee : ℕ → ℕ) → called_by callee (make a) ≡ 0)
    → OneView nums ends depth at e make first → Bare nums ends depth first 1 e
unfolding arg_count
one-bare nums ends depth at first e make is calls v = record {
  stand = rw (v.same, is v.operand) (on-arg v.stands on_none);
  counts = rw (v.same, is v.operand) refl;
  calls = λ callee. rw v.same (calls v.operand callee);
}

two-bare : (nums ends : List ℕ) (depth at first : ℕ) (e : Expr) (make : Expr → Expr → Expr)
    → ((a b : Expr) → operands_in (make a b) ≡ arg a (arg b no_args))
    → ((a b : Expr) (callee : ℕ → ℕ) → called_by callee (make a b) ≡ 0)
    → TwoView nums ends depth at e make first → Bare nums ends depth first 2 e
unfolding arg_count
two-bare nums ends depth at first e make is calls v = record {
  stand = rw (v.same, is v.left v.right) (on-arg v.left_stands (on-arg v.right_stands on_none));
  counts = rw (v.same, is v.left v.right) refl;
  calls = λ callee. rw v.same (calls v.left v.right callee);
}

module _ (nums ends : List ℕ) (depth at lower first count : ℕ) (callable : Option ℕ) where
  pub not-held : get_or nums at 0 ≡ 7 → Plain depth (at + 1) 1 lower first count callable
      → HeldExpr nums ends depth at lower first count callable
  unfolding ExprView operands_in called_by
  not-held k r = held_plain nums ends depth at (at + 1) 1 lower first count callable
      (λ e s. one-bare nums ends depth at (at + 1) e (negation at) (λ a. refl) (λ a callee. refl) (rw k at
      (expr-view s))) r

  pub complement-held : get_or nums at 0 ≡ 8 → Plain depth (at + 1) 1 lower first count callable
      → HeldExpr nums ends depth at lower first count callable
  unfolding ExprView operands_in called_by
  complement-held k r = held_plain nums ends depth at (at + 1) 1 lower first count callable
      (λ e s. one-bare nums ends depth at (at + 1) e (complement at) (λ a. refl) (λ a callee. refl)
      (rw k at (expr-view s))) r

  pub binary-held : get_or nums at 0 ≡ 9 → Plain depth (at + 2) 2 lower first count callable
      → HeldExpr nums ends depth at lower first count callable
  unfolding ExprView operands_in called_by
  binary-held k r = held_plain nums ends depth at (at + 2) 2 lower first count callable
      (λ e s. let v : BinaryView nums ends depth at e = rw k at (expr-view s) in
      two-bare nums ends depth at (at + 2) e (binary at v.operator) (λ a b. refl) (λ a b callee. refl)
      v.operands) r

  pub cast-held : get_or nums at 0 ≡ 10 → Plain depth (at + 2) 1 lower first count callable
      → HeldExpr nums ends depth at lower first count callable
  unfolding ExprView operands_in called_by
  cast-held k r = held_plain nums ends depth at (at + 2) 1 lower first count callable
      (λ e s. let v : CastView nums ends depth at e = rw k at (expr-view s) in
      one-bare nums ends depth at (at + 2) e (cast at v.width) (λ a. refl) (λ a callee. refl) v.operand) r

  pub slice-held : get_or nums at 0 ≡ 11 → Plain depth (at + 3) 1 lower first count callable
      → HeldExpr nums ends depth at lower first count callable
  unfolding ExprView operands_in called_by
  slice-held k r = held_plain nums ends depth at (at + 3) 1 lower first count callable
      (λ e s. let v : SliceView nums ends depth at e = rw k at (expr-view s) in
      one-bare nums ends depth at (at + 3) e (slice at v.high v.low) (λ a. refl) (λ a callee. refl)
      v.operand) r

  pub concatenation-held : get_or nums at 0 ≡ 12 → Plain depth (at + 1) 2 lower first count callable
      → HeldExpr nums ends depth at lower first count callable
  unfolding ExprView operands_in called_by
  concatenation-held k r = held_plain nums ends depth at (at + 1) 2 lower first count callable
      (λ e s. two-bare nums ends depth at (at + 1) e (concatenation at) (λ a b. refl) (λ a b callee. refl)
      (rw k at (expr-view s))) r

  pub leaf-held : (get_or nums at 0 ≡ 7 → ⊥) → (get_or nums at 0 ≡ 8 → ⊥) → (get_or nums at 0 ≡ 9 → ⊥)
      → (get_or nums at 0 ≡ 10 → ⊥) → (get_or nums at 0 ≡ 11 → ⊥) → (get_or nums at 0 ≡ 12 → ⊥)
      → (get_or nums at 0 ≡ 13 → ⊥) → Plain depth at 0 lower first count callable
      → HeldExpr nums ends depth at lower first count callable
  unfolding operands_in arg_count called_by
  leaf-held k₇ k₈ k₉ k₁₀ k₁₁ k₁₂ k₁₃ r =
      held_plain nums ends depth at at 0 lower first count callable (λ e s. go s) r
    where
      go : {e : Expr} → StandsExpr nums ends depth at e → Bare nums ends depth at 0 e
      go (on_bool t n) = record { stand = on_none; counts = refl; calls = λ callee. refl }
      go (on-bits t w n) = record { stand = on_none; counts = refl; calls = λ callee. refl }
      go (on-place t p) = record { stand = on_none; counts = refl; calls = λ callee. refl }
      go (on-valid t g) = record { stand = on_none; counts = refl; calls = λ callee. refl }
      go (on-not t a) = absurd (k₇ t.holds.is)
      go (on-complement t a) = absurd (k₈ t.holds.is)
      go (on-binary t o a b) = absurd (k₉ t.holds.is)
      go (on-cast t w a) = absurd (k₁₀ t.holds.is)
      go (on-slice t h l a) = absurd (k₁₁ t.holds.is)
      go (on-concatenation t a b) = absurd (k₁₂ t.holds.is)
      go (on_call t f n xs) = absurd (k₁₃ t.holds.is)

pub call-held : (nums ends : List ℕ) (depth at : ℕ) → AsksHeld nums ends depth at → get_or nums at 0 ≡ 13
    → HeldExpr nums ends depth at (depth - 1) (at + 3) (get_or nums (at + 2) 0) (Some (get_or nums (at + 1) 0))
unfolding ExprView operands_in called_by calling
call-held nums ends depth at asks k = record {
  operands = λ e s.
      let v : CallView nums ends depth at e = rw k at (expr-view s) in
      record {
        levels = omega (arith, (expr-begins s).levels);
        stand = rw v.same v.stand;
        counts = rw v.same v.count.holds.is;
      };
  called_is = λ e s callee.
      let v : CallView nums ends depth at e = rw k at (expr-view s) in
      rw (v.same, v.holds.is) refl;
}

pub ruleset expr_held = (
  level-left,
  not-held,
  complement-held,
  binary-held,
  cast-held,
  slice-held,
  concatenation-held,
  call-held,
  leaf-held,
)

-- statements
pub stmt-inside : (nums ends : List ℕ) (depth at : ℕ) → AsksHeldStmt nums ends depth at → Inside nums depth at
stmt-inside nums ends depth at a =
    record { inside = (stmt-begins a.stands).inside; levels = (stmt-begins a.stands).levels; numbers = a.numbers }

module _ (nums ends : List ℕ) (depth at : ℕ) (a : AsksHeldStmt nums ends depth at) where
  pub target-inside : get_or nums at 0 ≡ 1 → at + 1 < length ends
  unfolding StmtView
  target-inside k =
      let v : AssignView nums ends depth at a.stmt = rw k at (stmt-view a.stands) in
      omega (arith, v.tag.holds.inside, a.room)

  if-view : get_or nums at 0 ≡ 2 → IfView nums ends depth at a.stmt
  unfolding StmtView
  if-view k = rw k at (stmt-view a.stands)

  pub condition-inside : get_or nums at 0 ≡ 2 → at + 1 < length ends
  condition-inside k = omega (arith, (expr-begins (if-view k).condition_stands).inside, a.room)

  pub branch-inside : get_or nums at 0 ≡ 2 → get_or ends (at + 1) 0 < length ends
  branch-inside k = omega (arith, (stmt-begins (if-view k).first_stands).inside, a.room)

  pub branch-scaled : get_or nums at 0 ≡ 2 → get_or ends (at + 1) 0 * 8 < 2 ^ 64
  branch-scaled k = omega (arith, (stmt-begins (if-view k).first_stands).inside, a.numbers)

  pub call-count-inside : get_or nums at 0 ≡ 4 → at + 2 < length nums
  unfolding StmtView
  call-count-inside k =
      let v : CallStmtView nums ends depth at a.stmt = rw k at (stmt-view a.stands) in
      v.count.holds.inside

  pub call-name-inside : get_or nums at 0 ≡ 4 → at + 1 < length nums
  unfolding StmtView
  call-name-inside k =
      let v : CallStmtView nums ends depth at a.stmt = rw k at (stmt-view a.stands) in
      v.holds.inside

  pub members-inside : get_or nums at 0 ≡ 3 → at + 1 < length nums
  unfolding StmtView
  members-inside k =
      let v : BlockView nums ends depth at a.stmt = rw k at (stmt-view a.stands) in
      v.count.holds.inside

  pub table-inside : get_or nums at 0 ≡ 5 → at + 1 < length nums
  unfolding StmtView
  table-inside k =
      let v : NamedView nums ends depth at a.stmt (apply at) = rw k at (stmt-view a.stands) in
      v.holds.inside

pub ruleset stmt_inside = (
  target-inside,
  condition-inside,
  branch-inside,
  branch-scaled,
  call-count-inside,
  call-name-inside,
  members-inside,
  table-inside,
)

-- operands one level down
lowered : (nums ends : List ℕ) (depth at first count : ℕ) (xs : Args) → Begins nums depth at
    → StandsArgs nums ends (depth - 1) first xs → count ≡ arg_count xs
    → Operand nums ends depth (depth - 1) first count xs
lowered nums ends depth at first count xs b s e =
    record { levels = omega (arith, b.levels); stand = s; counts = e }

module _ (nums ends : List ℕ) (depth at : ℕ) where
  pub assign-held : get_or nums at 0 ≡ 1 → HeldStmt nums ends depth at (depth - 1) (get_or ends (at + 1) 0) 1
  unfolding StmtView operands_of arg_count
  assign-held k = record {
    operands = λ s w.
        let v : AssignView nums ends depth at s = rw k at (stmt-view w) in
        rw v.same (lowered nums ends depth at (get_or ends (at + 1) 0) 1 (arg v.value no_args) (stmt-begins w)
        (on-arg v.value_stands on_none) refl);
  }

  pub if-held : get_or nums at 0 ≡ 2 → HeldStmt nums ends depth at (depth - 1) (at + 1) 1
  unfolding StmtView operands_of arg_count
  if-held k = record {
    operands = λ s w.
        let v : IfView nums ends depth at s = rw k at (stmt-view w) in
        rw v.same (lowered nums ends depth at (at + 1) 1 (arg v.condition no_args) (stmt-begins w)
        (on-arg v.condition_stands on_none) refl);
  }

  pub call-stmt-held : get_or nums at 0 ≡ 4 → HeldStmt nums ends depth at (depth - 1) (at + 3) (get_or nums (at + 2) 0)
  unfolding StmtView operands_of
  call-stmt-held k = record {
    operands = λ s w.
        let v : CallStmtView nums ends depth at s = rw k at (stmt-view w) in
        rw v.same (lowered nums ends depth at (at + 3) (get_or nums (at + 2) 0) v.arguments (stmt-begins w)
        v.stand
        v.count.holds.is);
  }

  pub return_held : get_or nums at 0 ≡ 6 → HeldStmt nums ends depth at (depth - 1) (at + 1) 1
  unfolding StmtView operands_of arg_count
  return_held k = record {
    operands = λ s w.
        let v : ReturnView nums ends depth at s = rw k at (stmt-view w) in
        rw v.same (lowered nums ends depth at (at + 1) 1 (arg v.value no_args) (stmt-begins w)
        (on-arg v.stands on_none) refl);
  }

  pub verify-held : get_or nums at 0 ≡ 12 → HeldStmt nums ends depth at (depth - 1) (at + 1) 1
  unfolding StmtView operands_of arg_count
  verify-held k = record {
    operands = λ s w.
        let v : VerifyView nums ends depth at s = rw k at (stmt-view w) in
        rw v.same (lowered nums ends depth at (at + 1) 1 (arg v.condition no_args) (stmt-begins w)
        (on-arg v.stands on_none) refl);
  }

  pub bare-held : (get_or nums at 0 ≡ 1 → ⊥) → (get_or nums at 0 ≡ 2 → ⊥) → (get_or nums at 0 ≡ 4 → ⊥)
      → (get_or nums at 0 ≡ 6 → ⊥) → (get_or nums at 0 ≡ 12 → ⊥) → HeldStmt nums ends depth at (depth - 1) at 0
  unfolding operands_of arg_count
  bare-held k₁ k₂ k₄ k₆ k₁₂ = record { operands = λ s w. go w }
    where
      none : {s : Stmt} → StandsStmt nums ends depth at s → Operand nums ends depth (depth - 1) at 0 no_args
      none w = lowered nums ends depth at at 0 no_args (stmt-begins w) on_none refl

      go : {s : Stmt} → StandsStmt nums ends depth at s → Operand nums ends depth (depth - 1) at 0 (operands_of s)
      go (on-empty t) = none (on-empty t)
      go (on-assign t g p e) = absurd (k₁ t.holds.is)
      go (on-if t c a b) = absurd (k₂ t.holds.is)
      go (on-block t n s) = none (on-block t n s)
      go (on-call-stmt t f n xs) = absurd (k₄ t.holds.is)
      go (on-apply t n) = none (on-apply t n)
      go (on-return-value t e) = absurd (k₆ t.holds.is)
      go (on_return t) = none (on_return t)
      go (on-exit t) = none (on-exit t)
      go (on-set-valid t n) = none (on-set-valid t n)
      go (on-set-invalid t n) = none (on-set-invalid t n)
      go (on-extract t n) = none (on-extract t n)
      go (on-verify t c e) = absurd (k₁₂ t.holds.is)

pub ruleset stmt_held = (assign-held, if-held, call-stmt-held, return_held, verify-held, bare-held)

-- what a statement runs besides
module _ (nums ends : List ℕ) (depth at : ℕ) where
  pub if-runs : get_or nums at 0 ≡ 2
      → HeldRuns nums ends depth at (Branches (depth - 1) (get_or ends (at + 1) 0) (get_or ends (get_or ends (at + 1) 0) 0))
  unfolding StmtView
  if-runs k = record {
    runs = λ s w.
        let v : IfView nums ends depth at s = rw k at (stmt-view w) in
        runs-branches {lower = depth - 1} v.same (omega (arith, (stmt-begins w).levels)) v.first_stands
        v.second_stands;
  }

  pub block_runs : get_or nums at 0 ≡ 3 → HeldRuns nums ends depth at (Members (depth - 1) (at + 2) (get_or nums
      (at + 1) 0))
  unfolding StmtView
  block_runs k = record {
    runs = λ s w.
        let v : BlockView nums ends depth at s = rw k at (stmt-view w) in
        runs-members {lower = depth - 1} v.same (omega (arith, (stmt-begins w).levels)) v.stand
        v.count.holds.is;
  }

  pub call-runs : get_or nums at 0 ≡ 4 → HeldRuns nums ends depth at (Body (get_or nums (at + 1) 0))
  unfolding StmtView run_by
  call-runs k = record {
    runs = λ s w.
        let v : CallStmtView nums ends depth at s = rw k at (stmt-view w) in
        runs-body {f = get_or nums (at + 1) 0} (λ callee table. rw (v.same, v.holds.is) refl);
  }

  pub apply-runs : get_or nums at 0 ≡ 5 → HeldRuns nums ends depth at (Applied (get_or nums (at + 1) 0))
  unfolding StmtView run_by
  apply-runs k = record {
    runs = λ s w.
        let v : NamedView nums ends depth at s (apply at) = rw k at (stmt-view w) in
        runs-table {t = get_or nums (at + 1) 0} (λ callee table. rw (v.same, v.holds.is) refl);
  }

  pub nothing-runs : (get_or nums at 0 ≡ 2 → ⊥) → (get_or nums at 0 ≡ 3 → ⊥) → (get_or nums at 0 ≡ 4 → ⊥)
      → (get_or nums at 0 ≡ 5 → ⊥) → HeldRuns nums ends depth at Nothing
  unfolding run_by
  nothing-runs k₂ k₃ k₄ k₅ = record { runs = λ s w. go w }
    where
      go : {s : Stmt} → StandsStmt nums ends depth at s → RunsIn nums ends depth at s Nothing
      go (on-empty t) = runs-nothing (λ callee table. refl)
      go (on-assign t g p e) = runs-nothing (λ callee table. refl)
      go (on-if t c a b) = absurd (k₂ t.holds.is)
      go (on-block t n s) = absurd (k₃ t.holds.is)
      go (on-call-stmt t f n xs) = absurd (k₄ t.holds.is)
      go (on-apply t n) = absurd (k₅ t.holds.is)
      go (on-return-value t e) = runs-nothing (λ callee table. refl)
      go (on_return t) = runs-nothing (λ callee table. refl)
      go (on-exit t) = runs-nothing (λ callee table. refl)
      go (on-set-valid t n) = runs-nothing (λ callee table. refl)
      go (on-set-invalid t n) = runs-nothing (λ callee table. refl)
      go (on-extract t n) = runs-nothing (λ callee table. refl)
      go (on-verify t c e) = runs-nothing (λ callee table. refl)

pub ruleset stmt_runs = (if-runs, block_runs, call-runs, apply-runs, nothing-runs)
