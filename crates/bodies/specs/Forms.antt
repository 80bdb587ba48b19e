-- What the judgement of statements asks and promises, from part to part.
use Rattle.program.specs.declared.Scope as coded
use Rattle.std.specs.Prelude.{Bool, true, false, ◌&&◌, ◌≡◌, List, ℕ, suc, ◌+◌, eqb, get_or, Result, Ok, Err}
use Rattle.std.proofs.Math.ListN.{get_elem?}
use Rattle.rules.specs.declared.Fault.{Fault}
use Rattle.rules.specs.Syntax.{Stmt, Stmts}
use Rattle.rules.specs.Form.{Res, ok, ◌>>=◌, named, need, judge_extracted, judge_global, judge_header_at, Body, Scope, may_call, judge_returned, is_apply, is_state, may_leave, judge_stmt, judge_stmts, returns_on, some_returns}
use Rattle.program.specs.Codes.{ty_of, member_count}
use Rattle.program.specs.Stands.{StandsStmt, StandsStmts}
use Rattle.program.specs.Scopes.{body_numbered, StandsScope}
use Rattle.program.specs.Looks.{returns_of}
use Rattle.bodies.specs.Claims.{Formed, told_stmt, AsksStmt}

-- an answer is the rules'
pub record Forms (r : Formed) (is : Res Bool) : Type 0 where
  pub judged : told_stmt r ≡ is

-- a rule of a statement, with the number of its refusal; and whether the statement returns a value
unfoldable pub ruled : ℕ → ℕ → Bool → Bool → Res Bool
ruled number at holds returns = need number at holds >>= λ _. ok returns

unfoldable pub ruled_both : ℕ → Bool → Bool → Res Bool
ruled_both at first second = need 7 at first >>= λ _. ruled 8 at second false

-- a statement whose operands are judged, in a body of a kind
unfoldable pub chosen_as : ℕ → ℕ → Res Bool → Res Bool
chosen_as at t branches = branches >>= λ returns. ruled 7 at (eqb t 0) returns

-- an answer with faults of any type, where one of ours is made one of that type: it is the rules'
unfoldable pub Makes : {E : Type 0} → (Fault → E → Type 0) → Res Bool → Result Bool E → Type 0
Makes gives is (Ok returns) = Forms (Ok returns) is
Makes gives is (Err wrong) = (f : Fault) × Forms (Err f) is × gives f wrong

-- a fault of the branches is handed on as it is; where they are fine, the if's own rule answers
pub record Chooses {E : Type 0} (gives : Fault → E → Type 0) (at t : ℕ) (branches r : Result Bool E) : Type 0 where
  pub handed : (wrong : E) → branches ≡ Err wrong → r ≡ Err wrong
  pub own : (returns : Bool) → branches ≡ Ok returns → Makes gives (ruled 7 at (eqb t 0) returns) r

pub record FormsIn (scope : coded.Scope) (judge : Body → Res Bool) (r : Formed) : Type 0 where
  pub judged : (b : Body) → body_numbered scope.kind scope.returns ≡ b → told_stmt r ≡ judge b

unfoldable pub called_in : ℕ → ℕ → ℕ → Body → Res Bool
called_in at kind returns b = ruled 8 at (may_call b (returns_of kind returns)) false

unfoldable pub returned_in : ℕ → ℕ → Body → Res Bool
returned_in at t b = judge_returned at b (ty_of t) >>= λ _. ok true

unfoldable pub applied_in : ℕ → Body → Res Bool
applied_in at b = ruled 8 at (is_apply b) false

pub record Applies (nums directory : List ℕ) (scope : coded.Scope) (at : ℕ) (r : Formed) : Type 0 where
  pub judged : (ends : List ℕ) (Γ : Scope) → StandsScope nums directory ends scope Γ
      → told_stmt r ≡ (named (suc at) (get_elem? Γ.program.tables (get_or nums (at + 1) 0)) >>= λ _. applied_in at
      Γ.body)

unfoldable pub left_in : ℕ → Body → Res Bool
left_in at b = ruled 8 at (may_leave b) false

unfoldable pub parsed_in : ℕ → Bool → Body → Res Bool
parsed_in at holds b = ruled_both at holds (is_state b)

pub record MarksIn (nums directory ends : List ℕ) (scope : coded.Scope) (at : ℕ) (r : Formed) : Type 0 where
  pub judged : (Γ : Scope) → StandsScope nums directory ends scope Γ
      → told_stmt r ≡ (judge_header_at Γ at (get_or nums (at + 1) 0) >>= λ _. ok false)

pub record ExtractsIn (nums directory ends : List ℕ) (scope : coded.Scope) (at : ℕ) (r : Formed) : Type 0 where
  pub judged : (Γ : Scope) → StandsScope nums directory ends scope Γ
      → told_stmt r ≡ (judge_global Γ at (get_or nums (at + 1) 0) (judge_extracted at) >>= λ _. ruled 8 at
      (is_state Γ.body) false)

-- a statement of a tag; one that holds no statement
pub record AsksTagged (tag : ℕ) (nums directory ends : List ℕ) (scope : coded.Scope) (depth at : ℕ) : Type 0 where
  pub asks : AsksStmt nums directory ends scope depth at
  pub is : get_or nums at 0 ≡ tag

pub record AsksSingle (nums directory ends : List ℕ) (scope : coded.Scope) (depth at : ℕ) : Type 0 where
  pub asks : AsksStmt nums directory ends scope depth at
  pub no_if : get_or nums at 0 ≡ 2 → ⊥
  pub no_block : get_or nums at 0 ≡ 3 → ⊥

-- the two branches of an if, one behind the other
pub record AsksBranches (nums directory ends : List ℕ) (scope : coded.Scope) (depth at : ℕ) : Type 0 where
  pub scope_of : Scope
  pub first : Stmt
  pub second : Stmt
  pub seen : StandsScope nums directory ends scope scope_of
  pub first_stands : StandsStmt nums ends depth at first
  pub second_stands : StandsStmt nums ends depth (get_or ends at 0) second

pub record JudgesBranches (nums directory ends : List ℕ) (scope : coded.Scope) (depth at : ℕ) (r : Formed) : Type 0 where
  pub judged : (Γ : Scope) (a b : Stmt) → StandsScope nums directory ends scope Γ → StandsStmt nums ends depth at a
      → StandsStmt nums ends depth (get_or ends at 0) b
      → told_stmt r ≡ (judge_stmt Γ a >>= λ _. judge_stmt Γ b >>= λ _. ok (returns_on a && returns_on b))

-- so many members of a block
pub record AsksStmts (nums directory ends : List ℕ) (scope : coded.Scope) (depth at count : ℕ) : Type 0 where
  pub scope_of : Scope
  pub members : Stmts
  pub seen : StandsScope nums directory ends scope scope_of
  pub stand : StandsStmts nums ends depth at members
  pub counted : count ≡ member_count members

pub record JudgesStmts (nums directory ends : List ℕ) (scope : coded.Scope) (depth at count : ℕ) (r : Formed) : Type 0 where
  pub judged : (Γ : Scope) (ss : Stmts) → StandsScope nums directory ends scope Γ → StandsStmts nums ends depth at ss
      → count ≡ member_count ss → told_stmt r ≡ (judge_stmts Γ ss >>= λ _. ok (some_returns ss))
