-- A transition, by its tag.
use Rattle.program.specs.declared.Scope as coded
use mathlib.Core.Path.{◌≡◌, refl, sym, ap}
use mathlib.Core.List.{List, []}
use Prim.Native.Nat.{ℕ, ◌+◌, ◌<◌, ◌^◌}
use native.Mathlib.Omega.{arith}
use lib.ListN.{length, get_or}
use Rattle.rules.specs.Syntax.{Numeral, Transition, no_transition, accept, reject, lead_to, Program}
use Rattle.rules.specs.Running.{State, onward, rejected, done, pure, no_way_on, run_transition}
use Rattle.program.specs.Stands.{StandsTransition, on-no-transition, on-accept, on-reject, on-lead-to, on-select}
use Rattle.program.proofs.Views.{lead-view, SelectView, select-view, transition-inside}
use Rattle.steps.specs.declared.Ended.{Ended}
use Rattle.steps.specs.declared.Ended.TheVariants.{Onward, Rejected}
use Rattle.steps.specs.Outcomes.{Goes, counter_of, ends-onward, ends-rejected}
use Rattle.steps.proofs.Going.{ran-here}
use Rattle.runner.specs.Parsing.{state_in, later_in, transition_in, AsksState, RunsState, AsksTransition, RunsTransition, AsksSelect}
use Rattle.runner.proofs.States.{later-is, left, left-on}

-- its cases
record RejectView (nums : List ℕ) (at : ℕ) (T : Transition) : Type 0 where
  inside : at + 1 < length nums
  is : T ≡ reject (get_or nums (at + 1) 0)

module _ {nums ends : List ℕ} {at : ℕ} where
  none_is : {T : Transition} → StandsTransition nums ends at T → get_or nums at 0 ≡ 0 → T ≡ no_transition
  none_is (on-no-transition h) q = refl
  none_is (on-accept h) q = absurd (omega (arith, h.is, q))
  none_is (on-reject h e) q = absurd (omega (arith, h.is, q))
  none_is (on-lead-to h s) q = absurd (omega (arith, h.is, q))
  none_is (on-select h e n ps) q = absurd (omega (arith, h.is, q))

  accept-is : {T : Transition} → StandsTransition nums ends at T → get_or nums at 0 ≡ 1 → T ≡ accept
  accept-is (on-no-transition h) q = absurd (omega (arith, h.is, q))
  accept-is (on-accept h) q = refl
  accept-is (on-reject h e) q = absurd (omega (arith, h.is, q))
  accept-is (on-lead-to h s) q = absurd (omega (arith, h.is, q))
  accept-is (on-select h e n ps) q = absurd (omega (arith, h.is, q))

  reject-is : {T : Transition} → StandsTransition nums ends at T → get_or nums at 0 ≡ 2 → RejectView nums at T
  reject-is (on-no-transition h) q = absurd (omega (arith, h.is, q))
  reject-is (on-accept h) q = absurd (omega (arith, h.is, q))
  reject-is (on-reject h e) q = record { inside = e.holds.inside; is = ap reject (sym e.holds.is) }
  reject-is (on-lead-to h s) q = absurd (omega (arith, h.is, q))
  reject-is (on-select h e n ps) q = absurd (omega (arith, h.is, q))

pub select-is : {nums directory ends : List ℕ} {scope : coded.Scope} {slots frame : List ℕ} {at : ℕ}
    → AsksSelect nums directory ends scope slots frame at → (T : Transition) → StandsTransition nums ends at T
    → SelectView nums ends at T
select-is a T (on-no-transition h) = absurd (a.none h.is)
select-is a T (on-accept h) = absurd (a.accept h.is)
select-is a T (on-reject h e) = absurd (a.reject h.is)
select-is a T (on-lead-to h s) = absurd (a.lead h.is)
select-is a T (on-select h e n ps) = select-view (on-select h e n ps) h.is

-- what they come to
module _ (P : Program) (used n : ℕ) (s : State) (T : Transition) where
  none-ran : T ≡ no_transition → transition_in P used n T s ≡ done (rejected no_way_on) s []
  unfolding transition_in run_transition pure
  none-ran e = rw e refl

  accept-ran : T ≡ accept → transition_in P used n T s ≡ done onward s []
  unfolding transition_in run_transition pure
  accept-ran e = rw e refl

  reject-ran : (error : ℕ) → T ≡ reject error → transition_in P used n T s ≡ done (rejected error) s []
  unfolding transition_in run_transition pure
  reject-ran error e = rw e refl

  lead-ran : (m : Numeral) → T ≡ lead_to m → transition_in P used n T s ≡ later_in P used n m.number s
  unfolding transition_in run_transition
  lead-ran m e = rw e refl

  lead-state : (m : Numeral) (counted : ℕ) → T ≡ lead_to m → Goes counted (transition_in P used n T s)
      → transition_in P used n T s ≡ state_in P used m.number s
  lead-state m counted e g =
      rw (lead-ran m e) (later-is P used n m.number counted s (rw (lead-ran m e) at g))

module _ (nums directory ends : List ℕ) (scope : coded.Scope) (slots frame : List ℕ) (at : ℕ) where
  module _ (a : AsksTransition nums directory ends scope slots frame at) where
    pub tag-inside : at < length nums
    tag-inside = transition-inside a.stands

    pub tag-next : at + 1 < 2 ^ 64
    tag-next = omega (arith, tag-inside, a.stage.scene.scopes.program.numbers)

    pub error-inside : get_or nums at 0 ≡ 2 → at + 1 < length nums
    error-inside q = (reject-is a.stands q).inside

    pub lead-inside : get_or nums at 0 ≡ 3 → at + 1 < length nums
    lead-inside q = (lead-view a.stands q).stands.holds.inside

    pub lead-asks : (later : ℕ) → get_or nums at 0 ≡ 3 → later ≡ get_or nums (at + 1) 0
        → AsksState nums directory ends scope slots frame later
    lead-asks later q e =
        let v = lead-view a.stands q in
        rw (e, v.stands.holds.is) (record {
          program = a.program;
          used = a.used;
          entry_list = a.entry_list;
          state = a.state;
          stage = a.stage;
          going = rw (lead-state a.program a.used a.from a.state a.transition v.state (counter_of slots)
              v.same a.going) at a.going;
        })

    pub select-asks : (get_or nums at 0 ≡ 0 → ⊥) → (get_or nums at 0 ≡ 1 → ⊥) → (get_or nums at 0 ≡ 2 → ⊥)
        → (get_or nums at 0 ≡ 3 → ⊥) → AsksSelect nums directory ends scope slots frame at
    select-asks x y z w = record { asks = a; none = x; accept = y; reject = z; lead = w }

  pub none_runs : get_or nums at 0 ≡ 0
      → RunsTransition nums directory ends scope slots slots frame frame at (Rejected no_way_on)
  none_runs q = record {
    runs = λ P used es s n T st w g. ran-here s (rejected no_way_on) st.scene
        (none-ran P used n s T (none_is w q)) ends-rejected;
  }

  pub accept-runs : get_or nums at 0 ≡ 1 → RunsTransition nums directory ends scope slots slots frame frame at Onward
  accept-runs q = record {
    runs = λ P used es s n T st w g. ran-here s onward st.scene
        (accept-ran P used n s T (accept-is w q)) ends-onward;
  }

  pub reject-runs : get_or nums at 0 ≡ 2
      → RunsTransition nums directory ends scope slots slots frame frame at (Rejected (get_or nums (at + 1) 0))
  reject-runs q = record {
    runs = λ P used es s n T st w g. ran-here s (rejected (get_or nums (at + 1) 0)) st.scene
        (reject-ran P used n s T (get_or nums (at + 1) 0) (reject-is w q).is) ends-rejected;
  }

  pub lead-runs : (slots₁ frame₁ : List ℕ) (later : ℕ) (r : Ended) → get_or nums at 0 ≡ 3 → later ≡ get_or nums (at + 1) 0
      → RunsState nums directory ends scope slots slots₁ frame frame₁ later r
      → RunsTransition nums directory ends scope slots slots₁ frame frame₁ at r
  lead-runs slots₁ frame₁ later r q e k = record {
    runs = λ P used es s n T st w g.
        let v = lead-view w q in
        let same = lead-state P used n s T v.state (counter_of slots) v.same g in
        let there : RunsState nums directory ends scope slots slots₁ frame frame₁ v.state.number r
        = rw (e, v.stands.holds.is) at k in
        rw same (there.runs P used es s st (rw same at g));
  }

pub lead-fall : (slots : List ℕ) (t : ℕ) → left slots 2 ≡ t → left slots 0 < t
lead-fall slots t e = left-on slots slots 2 0 t e (omega arith) (omega arith)

pub select-fall : (slots : List ℕ) (t : ℕ) → left slots 2 ≡ t → left slots 1 < t
select-fall slots t e = left-on slots slots 2 1 t e (omega arith) (omega arith)

pub ruleset lead_runs = (
  tag-inside,
  tag-next,
  error-inside,
  lead-inside,
  lead-asks,
  select-asks,
  none_runs,
  accept-runs,
  reject-runs,
  lead-runs,
  lead-fall,
  select-fall,
)
