-- The two promises determine their answers: where some scope and some tree stand, two answers that a promise allows are
-- equal.
use Rattle.program.specs.declared.Scope as coded
use mathlib.Core.Path.{◌≡◌, refl, sym, ap, ◌∙◌}
use mathlib.Core.List.{List}
use Prim.Native.Nat.{ℕ, zero, suc}
use native.Mathlib.Omega.{arith}
use Rattle.std.specs.Prelude.{Ok, Err}
use Rattle.rules.specs.declared.Fault.{Fault}
use Rattle.rules.specs.Answers.{number_of}
use Rattle.rules.specs.Form.{Res, fault}
use Rattle.rules.proofs.Same.{reason-same}
use Rattle.program.specs.Codes.{ty_of}
use Rattle.bodies.specs.Claims.{Typed, Formed, told_ty, AsksExpr, JudgesExpr, told_stmt, AsksStmt, JudgesStmt}

-- no two answers tell the same
ty-once : (t u : ℕ) → ty_of t ≡ ty_of u → t ≡ u
unfolding ty_of
ty-once zero zero e = refl
ty-once zero (suc u) e = let z : ◌≡◌ {A = ℕ} 0 1 = cc in absurd (omega arith)
ty-once (suc t) zero e = let z : ◌≡◌ {A = ℕ} 0 1 = cc in absurd (omega arith)
ty-once (suc t) (suc u) e = cc

pub fault-once : {A : Type 0} (f g : Fault)
    → ◌≡◌ {A = Res A} (fault (number_of f.reason) f.index) (fault (number_of g.reason) g.index)
    → f ≡ g
fault-once f g e =
    let m : number_of f.reason ≡ number_of g.reason = cc in
    let r : f.reason ≡ g.reason = reason-same f.reason g.reason m in
    let n : f.index ≡ g.index = cc in
    λ i. record { reason = r i; index = n i }

told-ty-once : (a b : Typed) → told_ty a ≡ told_ty b → a ≡ b
unfolding told_ty
told-ty-once (Ok t) (Ok u) e =
    let f : ty_of t ≡ ty_of u = cc in
    ap Ok (ty-once t u f)
told-ty-once (Ok t) (Err f) e = let z : ◌≡◌ {A = ℕ} 0 1 = cc in absurd (omega arith)
told-ty-once (Err f) (Ok u) e = let z : ◌≡◌ {A = ℕ} 0 1 = cc in absurd (omega arith)
told-ty-once (Err f) (Err g) e = ap Err (fault-once f g e)

told-stmt-once : (a b : Formed) → told_stmt a ≡ told_stmt b → a ≡ b
unfolding told_stmt
told-stmt-once (Ok x) (Ok y) e = cc
told-stmt-once (Ok x) (Err f) e = let z : ◌≡◌ {A = ℕ} 0 1 = cc in absurd (omega arith)
told-stmt-once (Err f) (Ok y) e = let z : ◌≡◌ {A = ℕ} 0 1 = cc in absurd (omega arith)
told-stmt-once (Err f) (Err g) e = ap Err (fault-once f g e)

module _ (nums directory ends : List ℕ) (scope : coded.Scope) (depth at : ℕ) where
  pub expr-same : AsksExpr nums directory ends scope depth at → (a b : Typed)
      → JudgesExpr nums directory ends scope depth at a → JudgesExpr nums directory ends scope depth at b → a ≡ b
  expr-same asks a b j k =
      told-ty-once a b
      (j.judged asks.scope_of asks.expr asks.seen asks.stands
      ∙ sym (k.judged asks.scope_of asks.expr asks.seen asks.stands))

  pub stmt-same : AsksStmt nums directory ends scope depth at → (a b : Formed)
      → JudgesStmt nums directory ends scope depth at a → JudgesStmt nums directory ends scope depth at b → a ≡ b
  stmt-same asks a b j k =
      told-stmt-once a b
      (j.judged asks.scope_of asks.stmt asks.seen asks.stands
      ∙ sym (k.judged asks.scope_of asks.stmt asks.seen asks.stands))
