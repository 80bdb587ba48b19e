-- Statements that hold no statement, by their tag: what is asked of their operands, and what is judged.
use Rattle.program.specs.declared.Scope as coded
use mathlib.Core.Bool.{Bool, false}
use mathlib.Core.Path.{◌≡◌, refl, sym, ap, ◌∙◌}
use mathlib.Core.List.{List}
use Prim.Native.Nat.{ℕ, suc, ◌+◌, ◌-◌, ◌<◌}
use native.Mathlib.Omega.{arith}
use lib.ListN.{length, get_or, get_elem?}
use lib.Dec.{eqb}
use Rattle.std.specs.Prelude.{Ok, Err}
use Rattle.rules.specs.declared.Fault.{Fault}
use Rattle.rules.specs.Numbers.{most_bytes}
use Rattle.rules.specs.Syntax.{Place, Expr, read_of, Args, place_in, Stmt, empty, assign, call_stmt, apply, return, exit, extract, verify}
use Rattle.rules.specs.Form.{Res, ok, fault, ◌>>=◌, named, need, callable_below, Scope, writable_in, judge_extracted, judge_global, judge_header_at, need_ty, judge_given, may_call, judge_expr, judge_args, is_apply, is_state, judge_stmt, returns_on}
use Rattle.program.specs.Codes.{ty_of}
use Rattle.program.specs.Stands.{Holds, StandsExpr, on-place, StandsStmt, on-empty, on-assign, on-if, on-block, on-call-stmt, on-apply, on-return-value, on_return, on-exit, on-set-valid, on-set-invalid, on-extract, on-verify}
use Rattle.program.specs.Scopes.{StandsScope}
use Rattle.program.proofs.Views.{expr-begins, StmtView, BareView, AssignView, CallStmtView, NamedView, ReturnView, VerifyView, stmt-view, stmt-begins}
use Rattle.program.proofs.Members.{same-types}
use Rattle.bodies.specs.declared.Callee.{Callee}
use Rattle.bodies.specs.Claims.{Formed, AsksExpr, JudgesExpr, told_stmt, JudgesStmt}
use Rattle.bodies.specs.Leaves.{AsksName, AsksWritable, IsWritable, AsksLeaf, JudgesLeaf}
use Rattle.bodies.specs.Calls.{Called, StandsCall, judge_call, told_call, AsksCall, JudgesCall}
use Rattle.bodies.specs.Forms.{Forms, ruled, ruled_both, FormsIn, called_in, returned_in, applied_in, Applies, left_in, parsed_in, MarksIn, ExtractsIn, AsksTagged, AsksSingle}
use Rattle.bodies.proofs.Typing.{bool-rule}
use Rattle.bodies.proofs.Operating.{place-low, typed-is, fault-is}
use Rattle.bodies.proofs.Judging.{call-then}
use Rattle.bodies.proofs.Passing.{settled-as}

then-again : {A B : Type 0} (x : Res A) (y : Res (Unit {0})) (b : B)
    → (x >>= λ _. y >>= λ _. ok b) ≡ ((x >>= λ _. y) >>= λ _. ok b)
unfolding ◌>>=◌
then-again (ok a) y b = refl
then-again (fault number index) y b = refl

assign-is : (Γ : Scope) (at : ℕ) (p : Place) (e : Expr) (t u : ℕ) (writes : Bool) (s : Stmt)
    → s ≡ assign at (at + 1) p e → judge_expr Γ (read_of (at + 1) p) ≡ ok (ty_of t) → judge_expr Γ e ≡ ok (ty_of u)
    → writes ≡ writable_in Γ (place_in (read_of (at + 1) p))
    → ruled_both at (eqb t u) writes ≡ (judge_stmt Γ s >>= λ _. ok (returns_on s))
unfolding ruled_both ruled judge_stmt judge_expr returns_on need_ty writable_in place_in ◌>>=◌
assign-is Γ at p e t u writes s i j k l =
    settled-as at (eqb t u) writes false ∙ rw (i, j, k, same-types t u, l)

-- an assignment
module _ (nums directory ends : List ℕ) (scope : coded.Scope) (depth at : ℕ) where
  assign-of : (s : Stmt) → StandsStmt nums ends depth at s → get_or nums at 0 ≡ 1 → AssignView nums ends depth at s
  unfolding StmtView
  assign-of s h k = rw k at (stmt-view h)

  target-stands : (s : Stmt) (v : AssignView nums ends depth at s)
      → StandsExpr nums ends (depth - 1) (at + 1) (read_of (at + 1) v.place)
  target-stands s v = on-place v.tag v.stands

  module _ (asks : AsksTagged 1 nums directory ends scope depth at) where
    abbrev some_assign : AssignView nums ends depth at asks.asks.stmt
    some_assign = assign-of asks.asks.stmt asks.asks.stands asks.is

    target-asks : AsksExpr nums directory ends scope (depth - 1) (at + 1)
    target-asks = record {
      scope_of = asks.asks.scope_of;
      expr = read_of (at + 1) some_assign.place;
      seen = asks.asks.seen;
      stands = target-stands asks.asks.stmt some_assign;
    }

    pub target-leaf : AsksLeaf nums directory ends scope (at + 1)
    target-leaf = record {
      depth = depth - 1;
      asks = target-asks;
      leaf = omega (arith, some_assign.tag.holds.is, place-low some_assign.place);
    }

    pub target-writable : AsksWritable nums scope (at + 1)
    target-writable = record { directory = directory; ends = ends; depth = depth - 1; asks = target-asks }

    pub target_small : at + 1 < most_bytes
    target_small = omega (arith, some_assign.tag.holds.inside)

    pub target-ends : at + 1 < length ends
    target-ends = omega (arith, some_assign.tag.holds.inside, asks.asks.seen.program.room)

    pub assign-deep : 0 < depth
    assign-deep = (stmt-begins asks.asks.stands).levels

    pub value-asks : AsksExpr nums directory ends scope (depth - 1) (get_or ends (at + 1) 0)
    value-asks = record {
      scope_of = asks.asks.scope_of;
      expr = some_assign.value;
      seen = asks.asks.seen;
      stands = some_assign.value_stands;
    }

    pub target-fault : (wrong : Fault) → JudgesLeaf nums directory ends scope (at + 1) (Err wrong)
        → JudgesStmt nums directory ends scope depth at (Err wrong)
    unfolding told_stmt judge_stmt judge_expr ◌>>=◌
    target-fault wrong j = record {
      judged = λ Γ s z h.
          let v : AssignView nums ends depth at s = assign-of s h asks.is in
          rw (v.same, fault-is (j.judges (depth - 1)) Γ _ z (target-stands s v));
    }

    module _ (t : ℕ) (j : JudgesLeaf nums directory ends scope (at + 1) (Ok t)) where
      pub value-fault : (wrong : Fault)
          → JudgesExpr nums directory ends scope (depth - 1) (get_or ends (at + 1) 0) (Err wrong)
          → JudgesStmt nums directory ends scope depth at (Err wrong)
      unfolding told_stmt judge_stmt judge_expr ◌>>=◌
      value-fault wrong l = record {
        judged = λ Γ s z h.
            let v : AssignView nums ends depth at s = assign-of s h asks.is in
            rw (
              v.same,
              typed-is (j.judges (depth - 1)) Γ _ z (target-stands s v),
              fault-is l Γ v.value z v.value_stands,
            );
      }

      pub assign-told : (u : ℕ) → JudgesExpr nums directory ends scope (depth - 1) (get_or ends (at + 1) 0) (Ok u)
          → (writes : Bool) → IsWritable nums scope (at + 1) writes → (r : Formed)
          → Forms r (ruled_both at (eqb t u) writes) → JudgesStmt nums directory ends scope depth at r
      assign-told u l writes i r f = record {
        judged = λ Γ s z h.
            let v : AssignView nums ends depth at s = assign-of s h asks.is in
            f.judged
            ∙ assign-is Γ at v.place v.value t u writes s v.same
            (typed-is (j.judges (depth - 1)) Γ _ z (target-stands s v))
            (typed-is l Γ v.value z v.value_stands)
            (i.told directory ends (depth - 1) Γ (read_of (at + 1) v.place) z (target-stands s v));
      }

pub ruleset assigning = (
  target-leaf,
  target-writable,
  target_small,
  target-ends,
  assign-deep,
  value-asks,
  target-fault,
  value-fault,
  assign-told,
)

verify-is : (Γ : Scope) (at t : ℕ) (c : Expr) (e : ℕ) (s : Stmt) → s ≡ verify at c e → judge_expr Γ c ≡ ok (ty_of t)
    → parsed_in at (eqb t 0) Γ.body ≡ (judge_stmt Γ s >>= λ _. ok (returns_on s))
unfolding parsed_in ruled_both ruled judge_stmt returns_on ◌>>=◌
verify-is Γ at t c e s i j =
    then-again (need 7 at (eqb t 0)) (need 8 at (is_state Γ.body)) false ∙ rw (i, j, bool-rule at t)

-- a call
formed-call : (Γ : Scope) (at f : ℕ) (xs : Args)
    → (judge_call Γ at f xs >>= λ returns. need 8 at (may_call Γ.body returns)) ≡ judge_stmt Γ (call_stmt at f xs)
unfolding judge_stmt judge_call
formed-call Γ at f xs =
    call-then (named (suc at) (callable_below Γ.program Γ.reach f)) (judge_args Γ xs)
    (λ c given. judge_given at c.parameters given) (λ c. c.returns)
    (λ returns. need 8 at (may_call Γ.body returns))

module _ (nums directory ends : List ℕ) (scope : coded.Scope) (depth at : ℕ) where
  call-of : (s : Stmt) → StandsStmt nums ends depth at s → get_or nums at 0 ≡ 4 → CallStmtView nums ends depth at s
  unfolding StmtView
  call-of s h k = rw k at (stmt-view h)

  call-stands : (s : Stmt) (h : StandsStmt nums ends depth at s) (v : CallStmtView nums ends depth at s)
      → StandsCall nums ends depth at v.callable v.arguments
  call-stands s h v =
      record { levels = (stmt-begins h).levels; holds = v.holds; count = v.count; stand = v.stand }

  pub call-stmt-asks : AsksTagged 4 nums directory ends scope depth at → AsksCall nums directory ends scope depth at
  call-stmt-asks asks =
      let v : CallStmtView nums ends depth at asks.asks.stmt
      = call-of asks.asks.stmt asks.asks.stands asks.is in
      record {
        scope_of = asks.asks.scope_of;
        callable = v.callable;
        arguments = v.arguments;
        seen = asks.asks.seen;
        stands = call-stands asks.asks.stmt asks.asks.stands v;
      }

  module _ (asks : AsksTagged 4 nums directory ends scope depth at) where
    call-is : {c : Called} → JudgesCall nums directory ends scope depth at c → (Γ : Scope) (s : Stmt)
        → StandsScope nums directory ends scope Γ → StandsStmt nums ends depth at s
        → ((told_call c >>= λ returns. need 8 at (may_call Γ.body returns)) >>= λ _. ok false)
        ≡ (judge_stmt Γ s >>= λ _. ok (returns_on s))
    unfolding returns_on
    call-is j Γ s z h =
        let v : CallStmtView nums ends depth at s = call-of s h asks.is in
        ap (λ x. (x >>= λ returns. need 8 at (may_call Γ.body returns)) >>= λ _. ok false)
        (j.judged Γ v.callable v.arguments z (call-stands s h v))
        ∙ ap (λ x. x >>= λ _. ok false) (formed-call Γ at v.callable v.arguments)
        ∙ sym (ap (λ x. judge_stmt Γ x >>= λ _. ok (returns_on x)) v.same)

    pub call-stmt-told : (callee : Callee) → JudgesCall nums directory ends scope depth at (Ok callee) → (r : Formed)
        → FormsIn scope (called_in at callee.kind callee.returns) r → JudgesStmt nums directory ends scope depth at r
    unfolding called_in ruled told_call ◌>>=◌
    call-stmt-told callee j r f = record {
      judged = λ Γ s z h. f.judged Γ.body z.body ∙ call-is j Γ s z h;
    }

    pub call-stmt-fault : (wrong : Fault) → JudgesCall nums directory ends scope depth at (Err wrong)
        → JudgesStmt nums directory ends scope depth at (Err wrong)
    unfolding told_stmt told_call ◌>>=◌
    call-stmt-fault wrong j = record { judged = λ Γ s z h. call-is j Γ s z h }

  -- a return with a value
  return_of : (s : Stmt) → StandsStmt nums ends depth at s → get_or nums at 0 ≡ 6 → ReturnView nums ends depth at s
  unfolding StmtView
  return_of s h k = rw k at (stmt-view h)

  module _ (asks : AsksTagged 6 nums directory ends scope depth at) where
    pub returned-asks : AsksExpr nums directory ends scope (depth - 1) (at + 1)
    returned-asks =
        let v : ReturnView nums ends depth at asks.asks.stmt
        = return_of asks.asks.stmt asks.asks.stands asks.is in
        record { scope_of = asks.asks.scope_of; expr = v.value; seen = asks.asks.seen; stands = v.stands }

    pub returned-small : at + 1 < most_bytes
    returned-small = omega (arith, expr-begins returned-asks.stands)

    pub return-deep : 0 < depth
    return-deep = (stmt-begins asks.asks.stands).levels

    pub returned-told : (t : ℕ) → JudgesExpr nums directory ends scope (depth - 1) (at + 1) (Ok t) → (r : Formed)
        → FormsIn scope (returned_in at t) r
        → JudgesStmt nums directory ends scope depth at r
    unfolding returned_in judge_stmt returns_on ◌>>=◌
    returned-told t j r f = record {
      judged = λ Γ s z h.
          let v : ReturnView nums ends depth at s = return_of s h asks.is in
          f.judged Γ.body z.body ∙ rw (v.same, typed-is j Γ v.value z v.stands);
    }

    pub returned-fault : (wrong : Fault) → JudgesExpr nums directory ends scope (depth - 1) (at + 1) (Err wrong)
        → JudgesStmt nums directory ends scope depth at (Err wrong)
    unfolding told_stmt judge_stmt ◌>>=◌
    returned-fault wrong j = record {
      judged = λ Γ s z h.
          let v : ReturnView nums ends depth at s = return_of s h asks.is in
          rw (v.same, fault-is j Γ v.value z v.stands);
    }

  -- a verify
  verify-of : (s : Stmt) → StandsStmt nums ends depth at s → get_or nums at 0 ≡ 12 → VerifyView nums ends depth at s
  unfolding StmtView
  verify-of s h k = rw k at (stmt-view h)

  module _ (asks : AsksTagged 12 nums directory ends scope depth at) where
    pub verified-asks : AsksExpr nums directory ends scope (depth - 1) (at + 1)
    verified-asks =
        let v : VerifyView nums ends depth at asks.asks.stmt
        = verify-of asks.asks.stmt asks.asks.stands asks.is in
        record { scope_of = asks.asks.scope_of; expr = v.condition; seen = asks.asks.seen; stands = v.stands }

    pub verified-small : at + 1 < most_bytes
    verified-small = omega (arith, expr-begins verified-asks.stands)

    pub verify-deep : 0 < depth
    verify-deep = (stmt-begins asks.asks.stands).levels

    pub verified-told : (t : ℕ) → JudgesExpr nums directory ends scope (depth - 1) (at + 1) (Ok t) → (r : Formed)
        → FormsIn scope (parsed_in at (eqb t 0)) r
        → JudgesStmt nums directory ends scope depth at r
    verified-told t j r f = record {
      judged = λ Γ s z h.
          let v : VerifyView nums ends depth at s = verify-of s h asks.is in
          f.judged Γ.body z.body
          ∙ verify-is Γ at t v.condition v.error s v.same (typed-is j Γ v.condition z v.stands);
    }

    pub verified-fault : (wrong : Fault) → JudgesExpr nums directory ends scope (depth - 1) (at + 1) (Err wrong)
        → JudgesStmt nums directory ends scope depth at (Err wrong)
    unfolding told_stmt judge_stmt ◌>>=◌
    verified-fault wrong j = record {
      judged = λ Γ s z h.
          let v : VerifyView nums ends depth at s = verify-of s h asks.is in
          rw (v.same, fault-is j Γ v.condition z v.stands);
    }

pub ruleset holding = (
  call-stmt-asks,
  call-stmt-told,
  call-stmt-fault,
  returned-asks,
  returned-small,
  return-deep,
  returned-told,
  returned-fault,
  verified-asks,
  verified-small,
  verify-deep,
  verified-told,
  verified-fault,
)

-- an apply
apply-is : (Γ : Scope) (at t n : ℕ) (s : Stmt) → s ≡ apply at t → n ≡ t
    → (named (suc at) (get_elem? Γ.program.tables n) >>= λ _. applied_in at Γ.body)
    ≡ (judge_stmt Γ s >>= λ _. ok (returns_on s))
unfolding judge_stmt returns_on applied_in ruled
apply-is Γ at t n s e f =
    rw (e, f) (then-again (named (suc at) (get_elem? Γ.program.tables t)) (need 8 at (is_apply Γ.body)) false)

-- an extract
extract-is : (Γ : Scope) (at g n : ℕ) (s : Stmt) → s ≡ extract at g → n ≡ g
    → (judge_global Γ at n (judge_extracted at) >>= λ _. ruled 8 at (is_state Γ.body) false)
    ≡ (judge_stmt Γ s >>= λ _. ok (returns_on s))
unfolding judge_stmt returns_on ruled
extract-is Γ at g n s e f =
    rw (e, f) (then-again (judge_global Γ at g (judge_extracted at)) (need 8 at (is_state Γ.body)) false)

-- by the tag
record MarkOf (nums ends : List ℕ) (at : ℕ) (s : Stmt) : Type 0 where
  name : ℕ
  holds : Holds nums (at + 1) name
  judged : (Γ : Scope) → (judge_stmt Γ s >>= λ _. ok (returns_on s)) ≡ (judge_header_at Γ at name >>= λ _. ok false)

mark-of : {nums ends : List ℕ} {depth at : ℕ} {s : Stmt} → StandsStmt nums ends depth at s
    → (get_or nums at 0 ≡ 0 → ⊥) → (get_or nums at 0 ≡ 1 → ⊥) → (get_or nums at 0 ≡ 2 → ⊥) → (get_or nums at 0 ≡ 3 → ⊥)
    → (get_or nums at 0 ≡ 4 → ⊥) → (get_or nums at 0 ≡ 5 → ⊥) → (get_or nums at 0 ≡ 6 → ⊥) → (get_or nums at 0 ≡ 7 → ⊥)
    → (get_or nums at 0 ≡ 8 → ⊥) → (get_or nums at 0 ≡ 11 → ⊥) → (get_or nums at 0 ≡ 12 → ⊥) → MarkOf nums ends at s
unfolding judge_stmt returns_on
mark-of (on-empty t) x₀ x₁ x₂ x₃ x₄ x₅ x₆ x₇ x₈ x₁₁ x₁₂ = absurd (x₀ t.holds.is)
mark-of (on-assign t g p e) x₀ x₁ x₂ x₃ x₄ x₅ x₆ x₇ x₈ x₁₁ x₁₂ = absurd (x₁ t.holds.is)
mark-of (on-if t c a b) x₀ x₁ x₂ x₃ x₄ x₅ x₆ x₇ x₈ x₁₁ x₁₂ = absurd (x₂ t.holds.is)
mark-of (on-block t n s) x₀ x₁ x₂ x₃ x₄ x₅ x₆ x₇ x₈ x₁₁ x₁₂ = absurd (x₃ t.holds.is)
mark-of (on-call-stmt t f n xs) x₀ x₁ x₂ x₃ x₄ x₅ x₆ x₇ x₈ x₁₁ x₁₂ = absurd (x₄ t.holds.is)
mark-of (on-apply t n) x₀ x₁ x₂ x₃ x₄ x₅ x₆ x₇ x₈ x₁₁ x₁₂ = absurd (x₅ t.holds.is)
mark-of (on-return-value t e) x₀ x₁ x₂ x₃ x₄ x₅ x₆ x₇ x₈ x₁₁ x₁₂ = absurd (x₆ t.holds.is)
mark-of (on_return t) x₀ x₁ x₂ x₃ x₄ x₅ x₆ x₇ x₈ x₁₁ x₁₂ = absurd (x₇ t.holds.is)
mark-of (on-exit t) x₀ x₁ x₂ x₃ x₄ x₅ x₆ x₇ x₈ x₁₁ x₁₂ = absurd (x₈ t.holds.is)
mark-of (on-set-valid t n) x₀ x₁ x₂ x₃ x₄ x₅ x₆ x₇ x₈ x₁₁ x₁₂ = record { name = _; holds = n; judged = λ Γ. refl }
mark-of (on-set-invalid t n) x₀ x₁ x₂ x₃ x₄ x₅ x₆ x₇ x₈ x₁₁ x₁₂ = record { name = _; holds = n; judged = λ Γ. refl }
mark-of (on-extract t n) x₀ x₁ x₂ x₃ x₄ x₅ x₆ x₇ x₈ x₁₁ x₁₂ = absurd (x₁₁ t.holds.is)
mark-of (on-verify t c e) x₀ x₁ x₂ x₃ x₄ x₅ x₆ x₇ x₈ x₁₁ x₁₂ = absurd (x₁₂ t.holds.is)

module _ (nums directory ends : List ℕ) (scope : coded.Scope) (depth at : ℕ) where
  module _ (asks : AsksSingle nums directory ends scope depth at) where
    pub single-inside : at < length nums
    single-inside = (stmt-begins asks.asks.stands).inside

    pub single-tagged : (tag : ℕ) → get_or nums at 0 ≡ tag → AsksTagged tag nums directory ends scope depth at
    single-tagged tag k = record { asks = asks.asks; is = k }

    pub apply-inside : get_or nums at 0 ≡ 5 → at + 1 < length nums
    unfolding StmtView
    apply-inside k =
        let v : NamedView nums ends depth at asks.asks.stmt (apply at) = rw k at (stmt-view
        asks.asks.stands) in
        v.holds.inside

    pub extract-asks : get_or nums at 0 ≡ 11 → AsksName nums directory ends scope at
    unfolding StmtView
    extract-asks k =
        let v : NamedView nums ends depth at asks.asks.stmt (extract at) = rw k at (stmt-view
        asks.asks.stands) in
        record { scope_of = asks.asks.scope_of; seen = asks.asks.seen; inside = v.holds.inside }

    module _ (x₀ : get_or nums at 0 ≡ 0 → ⊥) (x₁ : get_or nums at 0 ≡ 1 → ⊥) (x₄ : get_or nums at 0 ≡ 4 → ⊥)
        (x₅ : get_or nums at 0 ≡ 5 → ⊥) (x₆ : get_or nums at 0 ≡ 6 → ⊥) (x₇ : get_or nums at 0 ≡ 7 → ⊥)
        (x₈ : get_or nums at 0 ≡ 8 → ⊥) (x₁₁ : get_or nums at 0 ≡ 11 → ⊥) (x₁₂ : get_or nums at 0 ≡ 12 → ⊥) where
      marks : (s : Stmt) → StandsStmt nums ends depth at s → MarkOf nums ends at s
      marks s h = mark-of h x₀ x₁ asks.no_if asks.no_block x₄ x₅ x₆ x₇ x₈ x₁₁ x₁₂

      pub mark-asks : AsksName nums directory ends scope at
      mark-asks = record {
        scope_of = asks.asks.scope_of;
        seen = asks.asks.seen;
        inside = (marks asks.asks.stmt asks.asks.stands).holds.inside;
      }

      pub mark-told : (r : Formed) → MarksIn nums directory ends scope at r
          → JudgesStmt nums directory ends scope depth at r
      mark-told r f = record {
        judged = λ Γ s z h. f.judged Γ z ∙ rw (marks s h).holds.is (sym ((marks s h).judged Γ));
      }

  pub empty-told : get_or nums at 0 ≡ 0 → JudgesStmt nums directory ends scope depth at (Ok false)
  unfolding StmtView told_stmt judge_stmt returns_on ◌>>=◌
  empty-told k = record {
    judged = λ Γ s z h.
        let v : BareView nums ends depth at s (empty at) = rw k at (stmt-view h) in
        rw v.same;
  }

  module _ (r : Formed) where
    pub apply-told : get_or nums at 0 ≡ 5 → Applies nums directory scope at r
        → JudgesStmt nums directory ends scope depth at r
    unfolding StmtView
    apply-told k f = record {
      judged = λ Γ s z h.
          let v : NamedView nums ends depth at s (apply at) = rw k at (stmt-view h) in
          f.judged ends Γ z ∙ apply-is Γ at v.name (get_or nums (at + 1) 0) s v.same v.holds.is;
    }

    pub extract-told : get_or nums at 0 ≡ 11 → ExtractsIn nums directory ends scope at r
        → JudgesStmt nums directory ends scope depth at r
    unfolding StmtView
    extract-told k f = record {
      judged = λ Γ s z h.
          let v : NamedView nums ends depth at s (extract at) = rw k at (stmt-view h) in
          f.judged Γ z ∙ extract-is Γ at v.name (get_or nums (at + 1) 0) s v.same v.holds.is;
    }

    pub return-told : get_or nums at 0 ≡ 7 → FormsIn scope (left_in at) r
        → JudgesStmt nums directory ends scope depth at r
    unfolding StmtView left_in ruled judge_stmt returns_on
    return-told k f = record {
      judged = λ Γ s z h.
          let v : BareView nums ends depth at s (return at) = rw k at (stmt-view h) in
          rw v.same (f.judged Γ.body z.body);
    }

    pub exit-told : get_or nums at 0 ≡ 8 → FormsIn scope (left_in at) r → JudgesStmt nums directory ends scope depth at r
    unfolding StmtView left_in ruled judge_stmt returns_on
    exit-told k f = record {
      judged = λ Γ s z h.
          let v : BareView nums ends depth at s (exit at) = rw k at (stmt-view h) in
          rw v.same (f.judged Γ.body z.body);
    }

pub ruleset singling = (
  single-inside,
  single-tagged,
  apply-inside,
  mark-asks,
  mark-told,
  empty-told,
  apply-told,
  extract-asks,
  extract-told,
  return-told,
  exit-told,
)
