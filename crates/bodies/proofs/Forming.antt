-- Statements that hold no statement: what their tag and their operands say of the rules' judgement.
use Rattle.program.specs.declared.Kind.{Kind}
use Rattle.program.specs.declared.Kind.TheVariants as kinds
use Rattle.program.specs.declared.Scope as coded
use mathlib.Core.Bool.{Bool, true, false, not, ◌&&◌, ◌||◌}
use mathlib.Core.Path.{◌≡◌, refl, sym, ◌∙◌}
use mathlib.Core.List.{List}
use Prim.Native.Nat.{ℕ, suc, ◌+◌, ◌≤◌, ◌<◌}
use native.Mathlib.Omega.{arith}
use native.Mathlib.Numerals.{add-one}
use lib.ListN.{get_or}
use lib.Dec.{eqb}
use Rattle.std.specs.Prelude.{Result, Ok, Err}
use Rattle.rules.specs.declared.Reason.{Reason}
use Rattle.rules.specs.declared.Reason.TheVariants as reason
use Rattle.rules.specs.declared.Fault.{Fault}
use Rattle.rules.specs.Answers.{number_of}
use Rattle.rules.specs.Syntax.{Ty}
use Rattle.rules.specs.Form.{Res, ok, fault, ◌>>=◌, named, need, judge_header_at, need_ty, may_call, judge_returned, is_apply, is_function, is_state, may_leave}
use Rattle.rules.proofs.Predicates.{no_member}
use Rattle.program.specs.Codes.{ty_of}
use Rattle.program.specs.Scopes.{kind_number, kind_numbered, body_numbered}
use Rattle.program.proofs.Numbered.{kind-body, kind-returns}
use Rattle.program.specs.Looks.{returns_of}
use Rattle.program.proofs.Found.{At, member-at}
use Rattle.program.proofs.Seen.{is_kind, one_kind, two_kinds}
use Rattle.program.proofs.Members.{same-types}
use Rattle.bodies.specs.Claims.{Formed, refused, told_ty, told_stmt}
use Rattle.bodies.specs.Leaves.{TypedIn, header_ty}
use Rattle.bodies.specs.Forms.{Forms, ruled, ruled_both, chosen_as, Makes, Chooses, FormsIn, called_in, returned_in, applied_in, Applies, left_in, parsed_in, MarksIn}

-- a rule that holds, and one that does not
module _ (at : ℕ) (holds returns : Bool) where
  pub rule-holds : (number : ℕ) → holds ≡ true → Forms (Ok returns) (ruled number at holds returns)
  unfolding ruled told_stmt need ◌>>=◌
  rule-holds number e = record { judged = rw e }

  pub rule-not : (reason : Reason) → holds ≡ false
      → Forms (refused reason at) (ruled (number_of reason) at holds returns)
  unfolding ruled told_stmt need ◌>>=◌
  rule-not reason e = record { judged = rw e }

module _ (at : ℕ) (first second : Bool) where
  pub rules-second : (r : Formed) → first ≡ true → Forms r (ruled 8 at second false) → Forms r (ruled_both at first second)
  unfolding ruled_both need ◌>>=◌
  rules-second r e f = record { judged = rw e f.judged }

  pub rules-not : first ≡ false → Forms (refused reason.Type at) (ruled_both at first second)
  unfolding ruled_both told_stmt need ◌>>=◌
  rules-not e = record { judged = rw e }

-- the branches of an if are fine, or not
module _ (at t : ℕ) (branches : Formed) where
  pub chosen-fine : (x : Bool) → branches ≡ Ok x → (r : Formed) → Forms r (ruled 7 at (eqb t 0) x)
      → Forms r (chosen_as at t (told_stmt branches))
  unfolding chosen_as told_stmt ◌>>=◌
  chosen-fine x e r f = record { judged = rw e f.judged }

  pub chosen-fault : (wrong : Fault) → branches ≡ Err wrong
      → Forms (Err wrong) (chosen_as at t (told_stmt branches))
  unfolding chosen_as told_stmt ◌>>=◌
  chosen-fault wrong e = record { judged = rw e }

-- the same of faults of any type; the if's own is made one of them
module _ {E : Type 0} (gives : Fault → E → Type 0) (at t : ℕ) (branches : Result Bool E) where
  one-fine : (x y : Bool) → branches ≡ Ok x → branches ≡ Ok y → x ≡ y
  one-fine x y p q = cc

  not-both : (x : Bool) (wrong : E) → branches ≡ Ok x → branches ≡ Err wrong → ⊥
  not-both x wrong p q = cc

  pub chooses-fine : (x y : Bool) → branches ≡ Ok x → Forms (Ok y) (ruled 7 at (eqb t 0) x)
      → Chooses gives at t branches (Ok y)
  unfolding Makes
  chooses-fine x y e f = record {
    handed = λ wrong w. absurd (not-both x wrong e w);
    own = λ z q. rw (one-fine z x q e) f;
  }

  pub chooses-fault : (wrong : E) → branches ≡ Err wrong → Chooses gives at t branches (Err wrong)
  chooses-fault wrong e = record {
    handed = λ other w. sym e ∙ w;
    own = λ z q. absurd (not-both z wrong q e);
  }

  pub chooses-off : (x : Bool) (f : Fault) (wrong : E) → branches ≡ Ok x → Forms (Err f) (ruled 7 at (eqb t 0) x)
      → gives f wrong → Chooses gives at t branches (Err wrong)
  unfolding Makes
  chooses-off x f wrong e l g = record {
    handed = λ other w. absurd (not-both x other e w);
    own = λ z q. (f, rw (one-fine z x q e) l, g);
  }

-- what a body of a kind may hold
may-call : (k kind : Kind) (returned returns : ℕ)
    → may_call (body_numbered (kind_number k) returned) (returns_of (kind_number kind) returns)
    ≡ (not (is_kind k kinds.State) && (not (is_kind kind kinds.Action) || not (is_kind k kinds.Function)))
unfolding may_call body_numbered returns_of
may-call kinds.Action kinds.Action returned returns = refl
may-call kinds.Action kinds.Function returned returns = refl
may-call kinds.Action kinds.Apply returned returns = refl
may-call kinds.Action kinds.State returned returns = refl
may-call kinds.Function kinds.Action returned returns = refl
may-call kinds.Function kinds.Function returned returns = refl
may-call kinds.Function kinds.Apply returned returns = refl
may-call kinds.Function kinds.State returned returns = refl
may-call kinds.Apply kinds.Action returned returns = refl
may-call kinds.Apply kinds.Function returned returns = refl
may-call kinds.Apply kinds.Apply returned returns = refl
may-call kinds.Apply kinds.State returned returns = refl
may-call kinds.State kind returned returns = refl

is-apply : (k : Kind) (returned : ℕ) → is_apply (body_numbered (kind_number k) returned) ≡ is_kind k kinds.Apply
unfolding is_apply body_numbered
is-apply kinds.Action returned = refl
is-apply kinds.Function returned = refl
is-apply kinds.Apply returned = refl
is-apply kinds.State returned = refl

is-state : (k : Kind) (returned : ℕ) → is_state (body_numbered (kind_number k) returned) ≡ is_kind k kinds.State
unfolding is_state body_numbered
is-state kinds.Action returned = refl
is-state kinds.Function returned = refl
is-state kinds.Apply returned = refl
is-state kinds.State returned = refl

may-leave : (k : Kind) (returned : ℕ) → may_leave (body_numbered (kind_number k) returned)
    ≡ (not (is_kind k kinds.Function) && not (is_kind k kinds.State))
unfolding may_leave is_function is_state body_numbered
may-leave kinds.Action returned = refl
may-leave kinds.Function returned = refl
may-leave kinds.Apply returned = refl
may-leave kinds.State returned = refl

no-function : (at : ℕ) (k : Kind) (returned : ℕ) (u : Ty) → (k ≡ kinds.Function → ⊥)
    → judge_returned at (body_numbered (kind_number k) returned) u ≡ fault 8 at
unfolding judge_returned body_numbered
no-function at kinds.Action returned u x = refl
no-function at kinds.Function returned u x = absurd (x refl)
no-function at kinds.Apply returned u x = refl
no-function at kinds.State returned u x = refl

module _ (scope : coded.Scope) (at : ℕ) (k : Kind) (own : k ≡ kind_numbered scope.kind) where
  own-body : body_numbered (kind_number k) scope.returns ≡ body_numbered scope.kind scope.returns
  own-body = kind-body k scope.kind scope.returns own

  module _ (r : Formed) where
    pub called-in : (kind returns : ℕ) (j : Kind) → j ≡ kind_numbered kind → (a b : Bool)
        → a ≡ (not (is_kind j kinds.Action) || not (is_kind k kinds.Function))
        → b ≡ (not (is_kind k kinds.State) && a) → Forms r (ruled 8 at b false)
        → FormsIn scope (called_in at kind returns) r
    unfolding called_in
    called-in kind returns j c a b e g f = record {
      judged = λ body i.
          f.judged
          ∙ rw (g, e, ← i, ← own-body, ← kind-returns j kind returns c, may-call k j scope.returns returns);
    }

    pub returned-in : (t : ℕ) (b : Bool) → b ≡ is_kind k kinds.Function → b ≡ true
        → Forms r (ruled 7 at (eqb scope.returns t) true) → FormsIn scope (returned_in at t) r
    unfolding returned_in ruled judge_returned body_numbered need_ty
    returned-in t b h j f =
        let q : k ≡ kinds.Function = one_kind b _ _ h j in
        record { judged = λ body e. f.judged ∙ rw (← e, ← own-body, q, same-types scope.returns t) }

    pub applied-in : Forms r (ruled 8 at (is_kind k kinds.Apply) false) → FormsIn scope (applied_in at) r
    unfolding applied_in
    applied-in f = record { judged = λ body e. f.judged ∙ rw (← e, ← own-body, is-apply k scope.returns) }

    pub left-in : (b : Bool) → b ≡ (not (is_kind k kinds.Function) && not (is_kind k kinds.State))
        → Forms r (ruled 8 at b false) → FormsIn scope (left_in at) r
    unfolding left_in
    left-in b e f = record {
      judged = λ body i. f.judged ∙ rw (e, ← i, ← own-body, may-leave k scope.returns);
    }

    pub parsed-in : (holds : Bool) → Forms r (ruled_both at holds (is_kind k kinds.State))
        → FormsIn scope (parsed_in at holds) r
    unfolding parsed_in
    parsed-in holds f = record {
      judged = λ body i. f.judged ∙ rw (← i, ← own-body, is-state k scope.returns);
    }

  pub returned-out : (t : ℕ) (b : Bool) → b ≡ is_kind k kinds.Function → b ≡ false
      → FormsIn scope (returned_in at t) (refused reason.Form at)
  unfolding returned_in told_stmt ◌>>=◌
  returned-out t b h j = record {
    judged = λ body e. rw (← e, ← own-body, no-function at k scope.returns (ty_of t) (two_kinds b _ _ h j));
  }

pub ruleset ruling = (
  rule-holds,
  rule-not,
  rules-second,
  rules-not,
  chosen-fine,
  chosen-fault,
  chooses-fine,
  chooses-fault,
  chooses-off,
  called-in,
  returned-in,
  returned-out,
  applied-in,
  left-in,
  parsed-in,
)

-- names: a table, a header
pub unnamed : (at : ℕ) → told_stmt (refused reason.Unnamed (at + 1)) ≡ fault 6 (suc at)
unfolding told_stmt
unnamed at = rw (add-one at)

module _ (nums directory : List ℕ) (scope : coded.Scope) (at : ℕ) where
  pub table-applies : (r : Formed) → get_or nums (at + 1) 0 < get_or directory 59 0 → FormsIn scope (applied_in at) r
      → Applies nums directory scope at r
  unfolding named ◌>>=◌
  table-applies r h f = record {
    judged = λ ends Γ s.
        let m : At Γ.program.tables (get_or nums (at + 1) 0)
        = member-at Γ.program.tables (get_or nums (at + 1) 0) (omega (arith, h, s.program.tables.count)) in
        rw m.is (f.judged Γ.body s.body);
  }

  pub table_none : get_or directory 59 0 ≤ get_or nums (at + 1) 0
      → Applies nums directory scope at (refused reason.Unnamed (at + 1))
  unfolding named ◌>>=◌
  table_none h = record {
    judged = λ ends Γ s. unnamed at
        ∙ rw (no_member Γ.program.tables (get_or nums (at + 1) 0) (omega (arith, h, s.program.tables.count)));
  }

marked-fine : (x : Res (Unit {0})) (t u : Ty) → ok t ≡ (x >>= λ _. ok u) → ok false ≡ (x >>= λ _. ok false)
unfolding ◌>>=◌
marked-fine (ok a) t u e = refl
marked-fine (fault number index) t u e = let z : ◌≡◌ {A = ℕ} 0 1 = cc in absurd (omega arith)

marked-fault : (x : Res (Unit {0})) (number index : ℕ) (u : Ty) → fault number index ≡ (x >>= λ _. ok u)
    → fault number index ≡ (x >>= λ _. ok false)
unfolding ◌>>=◌
marked-fault (ok a) number index u e = let z : ◌≡◌ {A = ℕ} 0 1 = cc in absurd (omega arith)
marked-fault (fault m i) number index u e =
    let f : number ≡ m = cc in
    let g : index ≡ i = cc in
    rw (f, g)

module _ (nums directory ends : List ℕ) (scope : coded.Scope) (at : ℕ) where
  pub mark-fine : (t : ℕ) → TypedIn nums directory ends scope (header_ty nums at) (Ok t)
      → MarksIn nums directory ends scope at (Ok false)
  unfolding header_ty told_ty told_stmt
  mark-fine t j = record {
    judged = λ Γ s. marked-fine (judge_header_at Γ at (get_or nums (at + 1) 0)) (ty_of t) _ (j.judged Γ s);
  }

  pub mark-fault : (wrong : Fault) → TypedIn nums directory ends scope (header_ty nums at) (Err wrong)
      → MarksIn nums directory ends scope at (Err wrong)
  unfolding header_ty told_ty told_stmt
  mark-fault wrong j = record {
    judged = λ Γ s. marked-fault (judge_header_at Γ at (get_or nums (at + 1) 0)) _ _ _ (j.judged Γ s);
  }

pub ruleset marking = (table-applies, table_none, mark-fine, mark-fault)
