-- A stage as a run goes on: a step is counted, a construct has run.
use Rattle.program.specs.declared.Scope as coded
use mathlib.Core.Path.{◌≡◌}
use mathlib.Core.List.{List}
use Prim.Native.Nat.{ℕ, ◌+◌}
use native.Mathlib.Omega.{arith}
use lib.ListN.{length}
use Rattle.rules.specs.Form.{Scope}
use Rattle.rules.specs.Lists.{Entry}
use Rattle.rules.specs.Running.{State, Out, M, tick}
use Rattle.store.specs.Mirrors.{store_slots}
use Rattle.store.proofs.Scenes.{scene-counted}
use Rattle.steps.specs.Outcomes.{Goes, counter_of, Ran, AsksCount, Counts}
use Rattle.steps.proofs.Going.{Begun, tick_goes, tick-below, rest_from, counter-ticked, ran-tick}
use Rattle.runner.specs.Runs.{Stage}

module _ {nums directory ends : List ℕ} {scope : coded.Scope} {slots frame : List ℕ} {Γ : Scope} {used : ℕ}
    {es : List Entry} {s : State}
    (st : Stage nums directory ends scope slots frame Γ used es s) where
  pub store-count : length slots ≡ store_slots
  store-count = st.scene.store.count

  -- a step is counted
  pub count-asks : {A : Type 0} (m : M State A) → Goes (counter_of slots) (tick m s) → AsksCount slots
  count-asks m g = record { count = store-count; below = omega (arith, tick-below m s g) }

  pub stage-counted : {slots₁ : List ℕ} → Counts slots slots₁
      → Stage nums directory ends scope slots₁ frame Γ used es s
  stage-counted {slots₁} c = rw c.is (record {
    scene = scene-counted nums directory ends scope slots frame Γ s (counter_of slots + 1) st.scene;
    tables = st.tables;
    few = st.few;
    room = st.room;
    apply = st.apply;
  })

  pub going-counted : {A : Type 0} {slots₁ : List ℕ} (m : M State A) → Counts slots slots₁
      → Goes (counter_of slots) (tick m s) → Goes (counter_of slots₁) (m s)
  going-counted {slots₁ = slots₁} m c g =
      let e : counter_of slots₁ ≡ counter_of slots + 1 = rw c.is (counter-ticked slots store-count) in
      rw e (tick_goes m s g)

  pub ran-counted : {A : Type 0} {Answers : A → Type 0} {slots₁ slots' frame' : List ℕ} (m : M State A)
      → Counts slots slots₁
      → Ran nums directory ends scope slots₁ slots' frame frame' Γ (m s) Answers
      → Ran nums directory ends scope slots slots' frame frame' Γ (tick m s) Answers
  ran-counted m c h = ran-tick m s store-count (rw c.is at h)

  -- a construct has run
  pub stage-ran : {A : Type 0} {Answers : A → Type 0} {slots₁ frame₁ : List ℕ} {o : Out State A}
      → (h : Ran nums directory ends scope slots slots₁ frame frame₁ Γ o Answers)
      → Stage nums directory ends scope slots₁ frame₁ Γ used es h.state
  stage-ran h = record {
    scene = h.scene;
    tables = st.tables;
    few = st.few;
    room = omega (arith, st.room, h.same);
    apply = st.apply;
  }

  pub going-rest : {A B : Type 0} {Answers : A → Type 0} {slots₁ frame₁ : List ℕ} (m : M State A) (k : A → M State B)
      → Begun (counter_of slots) m k s
      → (h : Ran nums directory ends scope slots slots₁ frame frame₁ Γ (m s) Answers)
      → Goes (counter_of slots₁) (k h.answer h.state)
  going-rest m k b h =
      rw h.counted (rest_from m k s h.answer h.state h.seen h.is b)
