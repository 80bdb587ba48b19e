-- A callable by its number: what its body does, and what stands when it begins and has ended.
use mathlib.Core.Bool.{Bool, true, false}
use mathlib.Core.Option.{some}
use mathlib.Core.Path.{◌≡◌, refl, ◌∙◌}
use mathlib.Core.List.{List}
use Prim.Native.Nat.{ℕ, zero, suc, ◌+◌, ◌≤◌, ◌<◌}
use native.Mathlib.Omega.{arith}
use lib.Dec.{ltb, leb, eqb}
use lib.ListN.{length, get_elem?}
use borrow.Author.Tests.{eqb-true, eqb-false, ltb-true, leb-true}
use Rattle.rules.specs.Syntax.{Callable, Program}
use Rattle.rules.specs.Form.{only_if, callable_below, Scope}
use Rattle.rules.specs.Lists.{Cell}
use Rattle.rules.specs.Running.{State, Seen, Out, done, stuck, full, M, with_store, enter, on_store, run_body, run_number, calls_below}
use Rattle.rules.specs.Answers.{working_slots}
use Rattle.steps.specs.Outcomes.{Goes, goes}
use Rattle.steps.proofs.Going.{gone, not_stuck, not_full}
use Rattle.runner.specs.Runs.{calls_of, body_in}

-- one that is reached
pub record Reached (P : Program) (reach f : ℕ) (c : Callable) : Type 0 where
  pub below : f < reach
  pub is : get_elem? P.callables f ≡ some c

pub reached : (P : Program) (reach f : ℕ) (c : Callable) → callable_below P reach f ≡ some c → Reached P reach f c
unfolding callable_below
reached P reach f c e = go (ltb f reach) refl e
  where
    go : (b : Bool) → ltb f reach ≡ b → only_if b (get_elem? P.callables f) ≡ some c → Reached P reach f c
    go true q k = unfold only_if in record { below = ltb-true f reach q; is = k }
    go false q k = unfold only_if in let z : ◌≡◌ {A = ℕ} 0 1 = cc in absurd (omega arith)

-- what a call of it does is what its body does
module _ (P : Program) (used : ℕ) (ns : List ℕ) (cells : List Cell) where
  called_at : (n f : ℕ) → f < n → calls_below working_slots P n used f ns cells
      ≡ run_number working_slots P f (calls_below working_slots P f) (get_elem? P.callables f) used ns cells
  unfolding calls_below
  called_at zero f h = absurd (omega arith)
  called_at (suc n) f h = go (eqb f n) refl λ l. called_at n f l
    where
      go : (b : Bool) → eqb f n ≡ b
          → (f < n → calls_below working_slots P n used f ns cells
          ≡ run_number working_slots P f (calls_below working_slots P f) (get_elem? P.callables f) used ns cells)
          → calls_below working_slots P (suc n) used f ns cells
          ≡ run_number working_slots P f (calls_below working_slots P f) (get_elem? P.callables f) used ns cells
      go true q k = let same : f ≡ n = eqb-true f n q in rw (q, calls_below) (rw same refl)
      go false q k =
          let ne : ¬ (f ≡ n) = eqb-false f n q in
          rw (q, calls_below) (k (omega (arith, ne)))

pub call-is : (Γ : Scope) (used f : ℕ) (c : Callable) (ns : List ℕ) (cells : List Cell)
    → Reached Γ.program Γ.reach f c
    → calls_of Γ used f ns cells ≡ body_in Γ.program f c used ns cells
unfolding calls_of body_in run_number
call-is Γ used f c ns cells r = called_at Γ.program used ns cells Γ.reach f r.below ∙ rw r.is refl

-- in a body, on its store
pub on-store-goes : {A : Type 0} {counted : ℕ} (m : M (List Cell) A) (s : State) → Goes counted (on_store m s)
    → Goes counted (m s.store)
unfolding on_store
on-store-goes {A} {counted} m s g = go (m s.store) g
  where
    go : (o : Out (List Cell) A) → Goes counted (enter s o) → Goes counted o
    go (done a cells seen) h = unfold enter in
        let w = gone h in
        let k = w.is in
        let same : w.seen ≡ seen = cc in
        goes {seen = seen} (rw same at w.steps)
    go stuck h = unfold enter in not_stuck h
    go full h = unfold enter in not_full h

pub on-store-is : {A : Type 0} (m : M (List Cell) A) (s : State) {a : A} {cells : List Cell} {seen : Seen}
    → m s.store ≡ done a cells seen → on_store m s ≡ done a (with_store s cells) seen
unfolding on_store enter
on-store-is m s e = rw e refl

-- a body that goes on has room
pub body-room : (P : Program) (f : ℕ) (c : Callable) (used : ℕ) (ns : List ℕ) (cells : List Cell) (counted : ℕ)
    → Goes counted (body_in P f c used ns cells)
    → used + (length c.parameters + length c.locals) ≤ working_slots
unfolding body_in run_body
body-room P f c used ns cells counted g =
    go (leb (used + (length c.parameters + length c.locals)) working_slots) refl g
  where
    go : (b : Bool) → leb (used + (length c.parameters + length c.locals)) working_slots ≡ b
        → Goes counted (body_in P f c used ns cells)
        → used + (length c.parameters + length c.locals) ≤ working_slots
    go true q h = leb-true _ working_slots q
    go false q h = not_full (rw (q, body_in, run_body) at h)
