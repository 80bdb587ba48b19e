-- Callables: the body in its scope, then that a function returns on each path.
use Rattle.program.specs.declared.Kind.{Kind}
use Rattle.program.specs.declared.Kind.TheVariants as kinds
use Rattle.program.specs.declared.Scope as coded
use mathlib.Core.Bool.{Bool, not, ◌||◌}
use mathlib.Core.Option.{Option, none, some}
use mathlib.Core.Path.{◌≡◌, refl, ◌∙◌}
use mathlib.Core.List.{List}
use Prim.Native.Nat.{ℕ, ◌+◌, ◌<◌}
use native.Mathlib.Omega.{arith}
use lib.ListN.{get_or, get_elem?}
use Rattle.std.specs.Prelude.{Ok, Err}
use Rattle.rules.specs.declared.Fault.{Fault}
use Rattle.rules.specs.Syntax.{Ty, Callable, Program}
use Rattle.rules.specs.Form.{◌>>=◌, need, is_function, judge_stmt, returns_on, body_of, scope_of, judge_callable, judge_callables}
use Rattle.program.specs.Codes.{callable_kind_number}
use Rattle.program.specs.Stands.{StandsProgram}
use Rattle.program.specs.Looks.{Has, Finds, callables_of, FoundHead, FoundFrame}
use Rattle.program.specs.Scopes.{kind_numbered, StandsScope}
use Rattle.program.proofs.Found.{At, member-at}
use Rattle.bodies.specs.Claims.{AsksStmt, JudgesStmt}
use Rattle.bodies.proofs.Stating.{FineOf, fine-is, faulty-is}
use Rattle.form.specs.Claims.{Formal, told_form}
use Rattle.form.specs.Parts.{Says, JudgesPart}
use Rattle.program.proofs.Seen.{is_kind, callable_scope, callable-scope}
use Rattle.form.proofs.Walking.{Walk}

pub is-action : (k : Kind) (kind : ℕ) (x : Option Ty) → k ≡ kind_numbered kind → kind ≡ callable_kind_number x
    → not (is_function (body_of x)) ≡ is_kind k kinds.Action
unfolding kind_numbered callable_kind_number is_function body_of
is-action k kind none own e = rw (own, e) refl
is-action k kind (some t) own e = rw (own, e) refl

module _ (nums directory ends : List ℕ) (n : ℕ) where
  pub callable-slot : Has callables_of nums directory ends n → 43 + n < 217
  unfolding callables_of
  callable-slot h = omega (arith, h.inside, h.stands.callables.few)

  module _ (kind returns parameters count locals local_count body : ℕ)
      (h : Finds callables_of (FoundHead nums kind returns parameters count) nums directory ends n)
      (f : Finds callables_of (FoundFrame nums ends locals local_count body) nums directory ends n)
    where
      abbrev scope : coded.Scope
      scope = callable_scope n parameters count locals local_count kind returns

      seen : (P : Program) (end : ℕ) (c : Callable) → StandsProgram nums directory ends P end
          → get_elem? P.callables n ≡ some c → StandsScope nums directory ends scope (scope_of P n c)
      unfolding callables_of
      seen P end c s e =
          callable-scope nums directory ends n kind returns parameters count locals local_count body P end c s e
          (h.finds P end c s e) (f.finds P end c s e)

      pub callable-asks : Has callables_of nums directory ends n → AsksStmt nums directory ends scope 32 body
      unfolding callables_of
      callable-asks a =
          let m : At a.program.callables n = member-at a.program.callables n a.inside in
          record {
            scope_of = scope_of a.program n m.member;
            stmt = m.member.body;
            seen = seen a.program a.end m.member a.stands m.is;
            stands = (f.finds a.program a.end m.member a.stands m.is).body_stands;
          }

      pub callable-fault : (wrong : Fault) → JudgesStmt nums directory ends scope 32 body (Err wrong)
          → JudgesPart callables_of judge_callable nums directory ends n (Err wrong)
      unfolding callables_of judge_callable told_form ◌>>=◌
      callable-fault wrong j = record {
        judged = λ P end c s e.
            rw (faulty-is j (scope_of P n c) c.body (seen P end c s e) (f.finds P end c s e).body_stands);
      }

      pub callable-judged : (k : Kind) → k ≡ kind_numbered kind → (b action e : Bool) (r : Formal)
          → JudgesStmt nums directory ends scope 32 body (Ok b) → action ≡ is_kind k kinds.Action → e ≡ (action || b) → Says r (need 8 (get_or directory (43 + n) 0) e)
          → JudgesPart callables_of judge_callable nums directory ends n r
      unfolding callables_of judge_callable ◌>>=◌
      callable-judged k own b action e r j a q w = record {
        judged = λ P end c s i.
            let g : FineOf (judge_stmt (scope_of P n c) c.body) b (returns_on c.body)
            = fine-is j (scope_of P n c) c.body (seen P end c s i) (f.finds P end c s i).body_stands in
            w.judged
            ∙ rw (
              g.is,
              (s.callables.member n c i).index,
              is-action k kind c.returns own (h.finds P end c s i).kind_is,
              ← a,
              q,
              g.same,
            );
      }

pub ruleset callables = (callable-slot, callable-asks, callable-fault, callable-judged)

-- callables one after the other
pub callables-walk : Walk callables_of judge_callable judge_callables 42
unfolding callables_of judge_callables
callables-walk = record {
  none_left = λ P i. refl;
  next = λ P i x xs. refl;
  count = λ nums directory ends P end s. s.callables.count;
}
