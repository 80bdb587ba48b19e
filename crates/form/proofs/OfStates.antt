-- States: the statement of each in their scope, then its transition by its tag, and one state after the other.
use mathlib.Core.Bool.{Bool}
use mathlib.Core.Option.{some}
use mathlib.Core.Path.{◌≡◌, refl, ◌∙◌}
use mathlib.Core.List.{List}
use Prim.Native.Nat.{ℕ, zero, suc, ◌+◌, ◌^◌, ◌<◌}
use native.Mathlib.Omega.{arith}
use native.Mathlib.Numerals.{add-one}
use lib.ListN.{length, get_or, get_elem?}
use Rattle.std.specs.Prelude.{Ok, Err}
use Rattle.rules.specs.declared.Reason.TheVariants as reason
use Rattle.rules.specs.declared.Fault.{Fault}
use Rattle.rules.specs.Syntax.{Expr, Pair, Transition, ParserState, Program}
use Rattle.rules.specs.Form.{ok, ◌>>=◌, judge_expr, width_at, state_scope, judge_pairs, values_fit, judge_transition, judge_state, judge_states}
use Rattle.program.specs.Codes.{ty_of}
use Rattle.program.specs.Stands.{StandsTransition, on-no-transition, on-accept, on-reject, on-lead-to, on-select, StandsState, StandsProgram}
use Rattle.program.specs.Looks.{Has, Finds, states_of, FoundState}
use Rattle.program.proofs.Found.{At, member-at}
use Rattle.program.proofs.Views.{LeadView, lead-view, SelectView, select-view, transition-inside, expr-begins, stmt-begins}
use Rattle.program.proofs.Seen.{state_slots, state-scope}
use Rattle.bodies.specs.Claims.{refused, AsksExpr, JudgesExpr, AsksStmt, JudgesStmt}
use Rattle.bodies.proofs.Operating.{typed-is, fault-is, typed-most}
use Rattle.bodies.proofs.Stating.{fine-is, faulty-is}
use Rattle.form.specs.Claims.{Formal, told_form}
use Rattle.form.specs.Parts.{JudgesPart}
use Rattle.form.specs.States.{JudgesLater, PairsAt, AsksPairs, JudgesPairs, AsksValues, JudgesValues, SelectAt, AsksSelect, cases_are, JudgesCases, JudgesSelect, AsksTransition, JudgesTransition}
use Rattle.form.proofs.Steps.{well-is, ill-is}
use Rattle.form.proofs.Walking.{Walk}

of_width : (at t : ℕ) → (t ≡ 0 → ⊥) → (ps : List Pair)
    → values_fit t ps ≡ (width_at (suc at) (ty_of t) >>= λ width. values_fit width ps)
unfolding width_at ty_of ◌>>=◌
of_width at zero x ps = absurd (x refl)
of_width at (suc t) x ps = refl

-- a select: what its parts ask
module _ (nums directory ends : List ℕ) (at : ℕ) where
  abbrev pairs_at : ℕ
  pairs_at = get_or ends (at + 1) 0

  pairs_of : (P : Program) (e : Expr) (ps : List Pair) → SelectAt nums directory ends at P e ps
      → PairsAt nums (pairs_at + 1) (get_or nums pairs_at 0) ps
  pairs_of P e ps s = record { stand = s.pairs; counted = s.count.holds.is }

  module _ (h : AsksSelect nums directory ends at) where
    pub select-inside : at + 1 < length nums
    select-inside = (expr-begins h.stands.expr).inside

    pub select-small : at + 1 < 2 ^ 64
    select-small = omega (arith, select-inside, h.stands.stands.numbers)

    pub select-ends : at + 1 < length ends
    select-ends = omega (arith, select-inside, h.stands.stands.room)

    pub select-counted : pairs_at < length nums
    select-counted = h.stands.count.holds.inside

    pub select-behind : pairs_at + 1 < 2 ^ 64
    select-behind = omega (arith, select-counted, h.stands.stands.numbers)

    pub select-pairs : AsksPairs nums (pairs_at + 1) (get_or nums pairs_at 0)
    select-pairs = record {
      pairs = h.pairs;
      stand = pairs_of h.program h.expr h.pairs h.stands;
      numbers = h.stands.stands.numbers;
    }

    pub select-expr : AsksExpr nums directory ends (state_slots directory) 32 (at + 1)
    select-expr = record {
      scope_of = state_scope h.program;
      expr = h.expr;
      seen = state-scope nums directory ends h.program h.stands.end h.stands.stands;
      stands = h.stands.expr;
    }

    pub select-values : (t : ℕ) → JudgesExpr nums directory ends (state_slots directory) 32 (at + 1) (Ok t)
        → AsksValues nums t (pairs_at + 1) (get_or nums pairs_at 0)
    select-values t j = record { asks = select-pairs; most = typed-most j }

  -- its expression, and its values
  pub cases-fault : (wrong : Fault) → JudgesExpr nums directory ends (state_slots directory) 32 (at + 1) (Err wrong)
      → JudgesCases nums directory ends at (Err wrong)
  unfolding told_form cases_are ◌>>=◌
  cases-fault wrong j = record {
    judged = λ P e ps s.
        rw (fault-is j (state_scope P) e (state-scope nums directory ends P s.end s.stands) s.expr);
  }

  module _ (t : ℕ) (j : JudgesExpr nums directory ends (state_slots directory) 32 (at + 1) (Ok t)) where
    selected : (P : Program) (e : Expr) (ps : List Pair) → SelectAt nums directory ends at P e ps
        → judge_expr (state_scope P) e ≡ ok (ty_of t)
    selected P e ps s = typed-is j (state_scope P) e (state-scope nums directory ends P s.end s.stands) s.expr

    pub cases_bool : t ≡ 0 → JudgesCases nums directory ends at (refused reason.Type (at + 1))
    unfolding told_form cases_are ty_of width_at ◌>>=◌
    cases_bool z = record { judged = λ P e ps s. rw (selected P e ps s, z, add-one at) }

    pub cases_fit : (t ≡ 0 → ⊥) → (r : Formal) → JudgesValues nums t (pairs_at + 1) (get_or nums pairs_at 0) r
        → JudgesCases nums directory ends at r
    unfolding cases_are ◌>>=◌
    cases_fit x r m = record {
      judged = λ P e ps s.
          rw (selected P e ps s) (m.judged ps (pairs_of P e ps s) ∙ of_width at t x ps);
    }

  -- its names before them
  module _ (n : ℕ) where
    pub select-fault : (wrong : Fault)
        → JudgesPairs nums directory n (pairs_at + 1) (get_or nums pairs_at 0) (Err wrong)
        → JudgesSelect nums directory ends n at (Err wrong)
    unfolding told_form judge_transition ◌>>=◌
    select-fault wrong j = record {
      judged = λ P e ps s.
          rw (ill-is (judge_pairs P n ps) wrong (j.judged ends P s.end ps s.stands (pairs_of P e ps s)));
    }

    pub select-judged : (r : Formal) → JudgesPairs nums directory n (pairs_at + 1) (get_or nums pairs_at 0) (Ok tt)
        → JudgesCases nums directory ends at r → JudgesSelect nums directory ends n at r
    unfolding judge_transition cases_are ◌>>=◌
    select-judged r j m = record {
      judged = λ P e ps s.
          rw (well-is (judge_pairs P n ps) (j.judged ends P s.end ps s.stands (pairs_of P e ps s)))
          (m.judged P e ps s);
    }

pub ruleset selecting = (
  select-inside,
  select-small,
  select-ends,
  select-counted,
  select-behind,
  select-pairs,
  select-expr,
  select-values,
  cases-fault,
  cases_bool,
  cases_fit,
  select-fault,
  select-judged,
)

-- a transition, by its tag
module _ (nums directory ends : List ℕ) (at : ℕ) where
  select-at : (P : Program) (end : ℕ) → StandsProgram nums directory ends P end → {t : Transition}
      → (v : SelectView nums ends at t) → SelectAt nums directory ends at P v.expr v.pairs
  select-at P end p v = record { end = end; stands = p; expr = v.stands; count = v.count; pairs = v.stand }

  module _ (h : AsksTransition nums directory ends at) where
    pub transition-there : at < length nums
    transition-there = transition-inside h.transition_stands

    pub transition-small : at + 1 < 2 ^ 64
    transition-small = omega (arith, transition-there, h.stands.numbers)

    pub later-inside : get_or nums at 0 ≡ 3 → at + 1 < length nums
    later-inside k = (lead-view h.transition_stands k).stands.holds.inside

    pub transition-select : get_or nums at 0 ≡ 4 → AsksSelect nums directory ends at
    transition-select k =
        let v : SelectView nums ends at h.transition = select-view h.transition_stands k in
        record {
          program = h.program;
          expr = v.expr;
          pairs = v.pairs;
          stands = select-at h.program h.end h.stands v;
        }

  module _ (n : ℕ) where
    pub transition-none : (get_or nums at 0 ≡ 3 → ⊥) → (get_or nums at 0 ≡ 4 → ⊥)
        → JudgesTransition nums directory ends n at (Ok tt)
    unfolding told_form judge_transition
    transition-none x y = record { judged = λ P end t p s. go P t s }
      where
        go : (P : Program) (t : Transition) → StandsTransition nums ends at t
            → told_form (Ok tt) ≡ judge_transition P n t
        go P t (on-no-transition h) = refl
        go P t (on-accept h) = refl
        go P t (on-reject h e) = refl
        go P t (on-lead-to h s) = absurd (x h.is)
        go P t (on-select h e c ps) = absurd (y h.is)

    pub transition-later : (r : Formal) → get_or nums at 0 ≡ 3 → JudgesLater nums directory n (at + 1) r
        → JudgesTransition nums directory ends n at r
    unfolding judge_transition
    transition-later r k j = record {
      judged = λ P end t p s.
          let v : LeadView nums ends at t = lead-view s k in
          rw v.same (j.judged ends P end v.state p v.stands);
    }

    pub transition-selects : (r : Formal) → get_or nums at 0 ≡ 4 → JudgesSelect nums directory ends n at r
        → JudgesTransition nums directory ends n at r
    transition-selects r k j = record {
      judged = λ P end t p s.
          let v : SelectView nums ends at t = select-view s k in
          rw v.same (j.judged P v.expr v.pairs (select-at P end p v));
    }

pub ruleset transitions = (
  transition-there,
  transition-small,
  later-inside,
  transition-select,
  transition-none,
  transition-later,
  transition-selects,
)

-- a state
module _ (nums directory ends : List ℕ) (n at : ℕ)
    (f : Finds states_of (FoundState nums ends at) nums directory ends n) where
  found : (P : Program) (end : ℕ) (s : ParserState) → StandsProgram nums directory ends P end
      → get_elem? P.states n ≡ some s → StandsState nums ends at s
  unfolding states_of FoundState
  found P end s p e = f.finds P end s p e

  module _ (h : Has states_of nums directory ends n) where
    some_state : At h.program.states n
    unfolding states_of
    some_state = member-at h.program.states n h.inside

    stands-some : StandsState nums ends at some_state.member
    stands-some = found h.program h.end some_state.member h.stands some_state.is

    pub state-asks : AsksStmt nums directory ends (state_slots directory) 32 at
    state-asks = record {
      scope_of = state_scope h.program;
      stmt = some_state.member.body;
      seen = state-scope nums directory ends h.program h.end h.stands;
      stands = stands-some.body;
    }

    pub state-ends : at < length ends
    state-ends = omega (arith, stmt-begins stands-some.body, h.stands.room)

    pub state-transition : AsksTransition nums directory ends (get_or ends at 0)
    state-transition = record {
      program = h.program;
      end = h.end;
      transition = some_state.member.transition;
      stands = h.stands;
      transition_stands = stands-some.transition;
    }

  pub state-fault : (wrong : Fault) → JudgesStmt nums directory ends (state_slots directory) 32 at (Err wrong)
      → JudgesPart states_of judge_state nums directory ends n (Err wrong)
  unfolding states_of judge_state told_form ◌>>=◌
  state-fault wrong j = record {
    judged = λ P end s p e.
        rw (faulty-is j (state_scope P) s.body (state-scope nums directory ends P end p) (found P end s p e).body);
  }

  pub state-judged : (b : Bool) (r : Formal) → JudgesStmt nums directory ends (state_slots directory) 32 at (Ok b)
      → JudgesTransition nums directory ends n (get_or ends at 0) r
      → JudgesPart states_of judge_state nums directory ends n r
  unfolding states_of judge_state ◌>>=◌
  state-judged b r j m = record {
    judged = λ P end s p e.
        rw (fine-is j (state_scope P) s.body (state-scope nums directory ends P end p) (found P end s p e).body).is
        (m.judged P end s.transition p (found P end s p e).transition);
  }

pub ruleset states = (state-asks, state-ends, state-transition, state-fault, state-judged)

-- states one after the other
pub states-walk : Walk states_of judge_state judge_states 70
unfolding states_of judge_states
states-walk = record {
  none_left = λ P i. refl;
  next = λ P i x xs. refl;
  count = λ nums directory ends P end s. s.states.count;
}
