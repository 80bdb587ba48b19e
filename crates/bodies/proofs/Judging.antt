-- The cycle of expressions, calls and arguments: that the measure falls, the depth and at one depth the count of
-- arguments; and what an expression asks and learns by its tag.
use Rattle.program.specs.declared.Scope as coded
use mathlib.Core.Path.{◌≡◌, refl, sym, ap, ◌∙◌}
use mathlib.Core.List.{List}
use Prim.Native.Nat.{ℕ, suc, ◌+◌, ◌-◌, ◌*◌, ◌≤◌, ◌<◌}
use native.Mathlib.Omega.{arith}
use lib.ListN.{length, get_or}
use Rattle.std.specs.Prelude.{Ok, Err}
use Rattle.rules.specs.declared.Fault.{Fault}
use Rattle.rules.specs.Words.{widest}
use Rattle.rules.specs.Syntax.{Expr, call_expr, Args}
use Rattle.rules.specs.Form.{Res, ok, fault, ◌>>=◌, named, callable_below, Scope, judge_given, judge_expr, judge_args}
use Rattle.program.specs.Stands.{StandsExpr}
use Rattle.program.specs.Scopes.{StandsScope}
use Rattle.program.proofs.Views.{ExprView, CallView, expr-view, expr-begins}
use Rattle.bodies.specs.declared.Callee.{Callee}
use Rattle.bodies.specs.Claims.{Typed, told_ty, TyMost, AsksExpr, JudgesExpr}
use Rattle.bodies.specs.Leaves.{TellsIn, value_in, value_ty, AsksLeaf, JudgesLeaf, AsksOperands}
use Rattle.bodies.specs.Calls.{Called, StandsCall, judge_call, told_call, CalledMost, AsksCall, JudgesCall}

-- the measure: levels, then what is left at one level
unfoldable pub rank : ℕ → ℕ → ℕ
rank depth extra = 12 * depth + extra

module _ (nums directory ends : List ℕ) (scope : coded.Scope) (depth at t : ℕ) where
  pub to-operands : rank depth 2 ≡ t → rank depth 1 < t
  unfolding rank
  to-operands e = omega arith

  pub to-operand : AsksOperands nums directory ends scope depth at → rank depth 1 ≡ t → rank (depth - 1) 2 < t
  unfolding rank
  to-operand asks e = omega (arith, expr-begins asks.asks.stands)

  pub to-args : AsksCall nums directory ends scope depth at → rank depth 1 ≡ t
      → rank (depth - 1) (get_or nums (at + 2) 0 + 3) < t
  unfolding rank
  to-args asks e = omega (arith, asks.stands.levels, asks.stands.count.holds.is, asks.stands.count.at_most)

  pub to-arg : (count : ℕ) → rank depth (count + 3) ≡ t → rank depth 2 < t
  unfolding rank
  to-arg count e = omega arith

  pub to-rest : (count : ℕ) → rank depth (count + 3) ≡ t → (count ≡ 0 → ⊥) → rank depth (count - 1 + 3) < t
  unfolding rank
  to-rest count e x = omega arith

pub ruleset descending = (to-operands, to-operand, to-args, to-arg, to-rest)

-- a call, and what follows on what it returns
pub call-then : {C G O T : Type 0} (x : Res C) (y : Res G) (z : C → G → Res (Unit {0})) (returns : C → O) (l : O
    → Res T)
    → ((x >>= λ c. y >>= λ g. z c g >>= λ _. ok (returns c)) >>= l)
    ≡ (x >>= λ c. y >>= λ g. z c g >>= λ _. l (returns c))
unfolding ◌>>=◌
call-then (fault number index) y z returns l = refl
call-then (ok c) (fault number index) z returns l = refl
call-then {C} {G} {O} {T} (ok c) (ok g) z returns l = go (z c g)
  where
    go : (u : Res (Unit {0})) → ((u >>= λ _. ok (returns c)) >>= l) ≡ (u >>= λ _. l (returns c))
    go (ok u) = refl
    go (fault number index) = refl

value-of-call : (Γ : Scope) (at f : ℕ) (xs : Args)
    → (judge_call Γ at f xs >>= value_in at Γ.body) ≡ judge_expr Γ (call_expr at f xs)
unfolding judge_expr judge_call value_in
value-of-call Γ at f xs =
    call-then (named (suc at) (callable_below Γ.program Γ.reach f)) (judge_args Γ xs)
    (λ c given. judge_given at c.parameters given) (λ c. c.returns) (value_in at Γ.body)

-- expressions
module _ (nums directory ends : List ℕ) (scope : coded.Scope) (depth at : ℕ) where
  pub expr-inside : AsksExpr nums directory ends scope depth at → at < length nums
  expr-inside asks = (expr-begins asks.stands).inside

  pub leaf-asks : AsksExpr nums directory ends scope depth at → get_or nums at 0 < 7
      → AsksLeaf nums directory ends scope at
  leaf-asks asks h = record { depth = depth; asks = asks; leaf = h }

  pub leaf-told : (r : Typed) → JudgesLeaf nums directory ends scope at r
      → JudgesExpr nums directory ends scope depth at r
  leaf-told r j = j.judges depth

  call-of : (e : Expr) → StandsExpr nums ends depth at e → get_or nums at 0 ≡ 13 → CallView nums ends depth at e
  unfolding ExprView
  call-of e h k = rw k at (expr-view h)

  call-stands : (e : Expr) (h : StandsExpr nums ends depth at e) (v : CallView nums ends depth at e)
      → StandsCall nums ends depth at v.callable v.arguments
  call-stands e h v = record {
    levels = (expr-begins h).levels;
    holds = v.holds;
    count = v.count;
    stand = v.stand;
  }

  pub call_asks : AsksExpr nums directory ends scope depth at → get_or nums at 0 ≡ 13
      → AsksCall nums directory ends scope depth at
  call_asks asks k =
      let v : CallView nums ends depth at asks.expr = call-of asks.expr asks.stands k in
      record {
        scope_of = asks.scope_of;
        callable = v.callable;
        arguments = v.arguments;
        seen = asks.seen;
        stands = call-stands asks.expr asks.stands v;
      }

  pub returns-most : (callee : Callee) → JudgesCall nums directory ends scope depth at (Ok callee)
      → callee.returns ≤ widest
  unfolding CalledMost
  returns-most callee j = j.most

  module _ (k : get_or nums at 0 ≡ 13) where
    call-is : {c : Called} → JudgesCall nums directory ends scope depth at c → (Γ : Scope) (e : Expr)
        → StandsScope nums directory ends scope Γ → (h : StandsExpr nums ends depth at e)
        → (told_call c >>= value_in at Γ.body) ≡ judge_expr Γ e
    call-is j Γ e s h =
        let v : CallView nums ends depth at e = call-of e h k in
        ap (λ x. x >>= value_in at Γ.body) (j.judged Γ v.callable v.arguments s (call-stands e h v))
        ∙ value-of-call Γ at v.callable v.arguments ∙ sym (ap (judge_expr Γ) v.same)

    pub call-told : (callee : Callee) → JudgesCall nums directory ends scope depth at (Ok callee) → (r : Typed)
        → TellsIn scope (value_ty at callee.kind callee.returns) r → JudgesExpr nums directory ends scope depth at r
    unfolding value_ty told_call ◌>>=◌
    call-told callee j r q = record {
      judged = λ Γ x s h. q.judged Γ.body s.body ∙ call-is j Γ x s h;
      most = q.most;
    }

    pub call-fault : (wrong : Fault) → JudgesCall nums directory ends scope depth at (Err wrong)
        → JudgesExpr nums directory ends scope depth at (Err wrong)
    unfolding told_ty TyMost told_call ◌>>=◌
    call-fault wrong j = record { judged = λ Γ x s h. call-is j Γ x s h; most = tt }

pub ruleset judging = (
  expr-inside,
  leaf-asks,
  leaf-told,
  call_asks,
  returns-most,
  call-told,
  call-fault,
)
