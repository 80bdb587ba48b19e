-- What the passes over expressions and statements ask and promise. An `Asks` says that some scope and some tree stand
-- there; a `Judges` says of all scopes and trees that stand there that the answer is the rules'.
use Rattle.program.specs.declared.Scope as coded
use Rattle.std.specs.Prelude.{Bool, ◌≡◌, List, ℕ, ◌≤◌, Result, Ok, Err}
use Rattle.rules.specs.declared.Reason.{Reason}
use Rattle.rules.specs.declared.Fault.{Fault}
use Rattle.rules.specs.Answers.{number_of}
use Rattle.rules.specs.Words.{widest}
use Rattle.rules.specs.Syntax.{Ty, Expr, Stmt}
use Rattle.rules.specs.Form.{Res, ok, fault, ◌>>=◌, Scope, judge_expr, judge_stmt, returns_on}
use Rattle.program.specs.Codes.{ty_of}
use Rattle.program.specs.Stands.{StandsExpr, StandsStmt}
use Rattle.program.specs.Scopes.{StandsScope}

-- a type, and whether a statement returns a value; or the first fault
abbrev pub Typed : Type 0
Typed = Result ℕ Fault

abbrev pub Formed : Type 0
Formed = Result Bool Fault

-- what is refused, and where
abbrev pub refused : {A : Type 0} → Reason → ℕ → Result A Fault
refused reason index = Err (record { reason = reason; index = index })

-- the answers in the rules' words
unfoldable pub told_ty : Typed → Res Ty
told_ty (Ok t) = ok (ty_of t)
told_ty (Err f) = fault (number_of f.reason) f.index

unfoldable pub told_stmt : Formed → Res Bool
told_stmt (Ok returns) = ok returns
told_stmt (Err f) = fault (number_of f.reason) f.index

-- a type that is told is one of a value
unfoldable pub TyMost : Typed → Type 0
TyMost (Ok t) = t ≤ widest
TyMost (Err f) = Unit

-- an expression
pub record AsksExpr (nums directory ends : List ℕ) (scope : coded.Scope) (depth at : ℕ) : Type 0 where
  pub scope_of : Scope
  pub expr : Expr
  pub seen : StandsScope nums directory ends scope scope_of
  pub stands : StandsExpr nums ends depth at expr

pub record JudgesExpr (nums directory ends : List ℕ) (scope : coded.Scope) (depth at : ℕ) (r : Typed) : Type 0 where
  pub judged : (Γ : Scope) (e : Expr) → StandsScope nums directory ends scope Γ → StandsExpr nums ends depth at e
      → told_ty r ≡ judge_expr Γ e
  pub most : TyMost r

-- a statement, and whether it returns a value on each path
pub record AsksStmt (nums directory ends : List ℕ) (scope : coded.Scope) (depth at : ℕ) : Type 0 where
  pub scope_of : Scope
  pub stmt : Stmt
  pub seen : StandsScope nums directory ends scope scope_of
  pub stands : StandsStmt nums ends depth at stmt

pub record JudgesStmt (nums directory ends : List ℕ) (scope : coded.Scope) (depth at : ℕ) (r : Formed) : Type 0 where
  pub judged : (Γ : Scope) (s : Stmt) → StandsScope nums directory ends scope Γ → StandsStmt nums ends depth at s
      → told_stmt r ≡ (judge_stmt Γ s >>= λ _. ok (returns_on s))
