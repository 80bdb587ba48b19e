-- States by their numbers: where a run of the rules comes to a state, it is found, and it leads to those behind it.
use mathlib.Core.Bool.{Bool, true, false}
use mathlib.Core.Option.{some}
use mathlib.Core.Path.{◌≡◌, refl, ◌∙◌, sym, ap}
use mathlib.Core.List.{List, [], ◌∷◌}
use Prim.Native.Nat.{ℕ, zero, suc, ◌+◌, ◌-◌, ◌*◌, ◌≤◌, ◌<◌}
use native.Mathlib.Omega.{arith}
use lib.Dec.{eqb}
use lib.ListN.{get_elem?, drop}
use lib.Seq.{drop-drop}
use borrow.Author.Tests.{eqb-true, eqb-false}
use Rattle.rules.specs.Syntax.{ParserState, Program}
use Rattle.rules.specs.Form.{is_apply, state_scope}
use Rattle.rules.specs.Ceiling.{most_steps}
use Rattle.rules.specs.Lists.{Entry}
use Rattle.rules.specs.Running.{State, Ending, M, ◌>>=◌, tick, Calls, and_then_run, run_state, run_from}
use Rattle.steps.specs.Outcomes.{Goes, counter_of}
use Rattle.steps.proofs.Going.{not-nowhere}
use Rattle.runner.specs.Runs.{calls_of, applied_in, stmt_in}
use Rattle.runner.specs.Parsing.{state_in, later_in, transition_in}

-- a state of a list whose first has number n
record FoundState (n : ℕ) (ss : List ParserState) (m : ℕ) : Type 0 where
  low : n ≤ m
  state : ParserState
  is : get_elem? ss (m - n) ≡ some state

module _ (P : Program) (used : ℕ) (calls : Calls) where
  from_goes : (counted n : ℕ) (ss : List ParserState) (m : ℕ) (s : State) → Goes counted (run_from P used calls n ss m s)
      → FoundState n ss m
  from_goes counted n [] m s g = unfold run_from in not-nowhere s g
  from_goes counted n (x ∷ ss) m s g = go (eqb m n) refl (from_goes counted (suc n) ss m s)
    where
      go : (b : Bool) → eqb m n ≡ b → (Goes counted (run_from P used calls (suc n) ss m s) → FoundState (suc n) ss m)
          → FoundState n (x ∷ ss) m
      go true q rest =
          let e : m - n ≡ 0 = omega (arith, eqb-true m n q) in
          record { low = omega (arith, eqb-true m n q); state = x; is = rw e refl }
      go false q rest = unfold run_from in
          let f : FoundState (suc n) ss m = rest (rw (q, run_from) at g) in
          let e : m - n ≡ suc (m - suc n) = omega (arith, f.low) in
          record { low = omega (arith, f.low); state = f.state; is = rw e f.is }

  from_is : (n : ℕ) (ss : List ParserState) (m : ℕ) (s : State) (x : ParserState) → n ≤ m → get_elem? ss (m - n) ≡ some x
      → run_from P used calls n ss m s ≡ run_state P used calls (run_from P used calls (suc m) (drop (suc (m - n)) ss)) x s
  from_is n [] m s x h e = let z : ◌≡◌ {A = ℕ} 0 1 = cc in absurd (omega arith)
  from_is n (y ∷ ss) m s x h e = go (eqb m n) refl (from_is (suc n) ss m s x)
    where
      go : (b : Bool) → eqb m n ≡ b
          → (suc n ≤ m → get_elem? ss (m - suc n) ≡ some x → run_from P used calls (suc n) ss m s
          ≡ run_state P used calls (run_from P used calls (suc m) (drop (suc (m - suc n)) ss)) x s)
          → run_from P used calls n (y ∷ ss) m s
          ≡ run_state P used calls (run_from P used calls (suc m) (drop (suc (m - n)) (y ∷ ss))) x s
      go true q rest = unfold run_from in
          let same : n ≡ m = sym (eqb-true m n q) in
          let first : m - n ≡ 0 = omega (arith, same) in
          let is : y ≡ x = cc (rw first at e) in
          rw (q, run_from, first, ← same, is) refl
      go false q rest = unfold run_from in
          let more : suc n ≤ m = omega (arith, h, eqb-false m n q) in
          let next : m - n ≡ suc (m - suc n) = omega (arith, more) in
          rw (q, run_from, next) (rest more (rw next at e))

-- of a program
pub record AtState (P : Program) (n : ℕ) : Type 0 where
  pub state : ParserState
  pub is : get_elem? P.states n ≡ some state

abbrev pub then_leave : Program → ℕ → ℕ → ParserState → Ending → M State Ending
then_leave P used n x ending = and_then_run ending (transition_in P used n x.transition)

module _ (P : Program) (used : ℕ) where
  pub state-found : (n counted : ℕ) (s : State) → Goes counted (state_in P used n s) → AtState P n
  unfolding state_in
  state-found n counted s g =
      let f = from_goes P used (calls_of (state_scope P)) counted 0 P.states n s g in
      let e : n - 0 ≡ n = omega arith in
      record { state = f.state; is = rw e at f.is }

  state-is : (n : ℕ) (s : State) (x : ParserState) → get_elem? P.states n ≡ some x
      → state_in P used n s ≡ run_state P used (calls_of (state_scope P)) (later_in P used n) x s
  unfolding state_in later_in
  state-is n s x e =
      let first : n - 0 ≡ n = omega arith in
      rw first at (from_is P used (calls_of (state_scope P)) 0 P.states n s x (omega arith) (rw first e))

  pub entered-is : (es : List Entry) (n : ℕ) (s : State) (x : ParserState) → get_elem? P.states n ≡ some x
      → state_in P used n s ≡ tick (stmt_in (state_scope P) used es x.body >>= then_leave P used n x) s
  unfolding run_state stmt_in applied_in state_scope is_apply transition_in
  entered-is es n s x e = state-is n s x e

  -- where a state leads
  pub later-is : (n m counted : ℕ) (s : State) → Goes counted (later_in P used n m s)
      → later_in P used n m s ≡ state_in P used m s
  unfolding later_in
  later-is n m counted s g =
      let f = from_goes P used (calls_of (state_scope P)) counted (suc n) (drop (suc n) P.states) m s g in
      let behind : suc n + (m - suc n) ≡ m = omega (arith, f.low) in
      let is : get_elem? P.states m ≡ some f.state
      = rw behind at (sym (get_drop (suc n) (m - suc n) P.states) ∙ f.is) in
      let next : suc n + suc (m - suc n) ≡ suc m = omega (arith, f.low) in
      let rest : drop (suc (m - suc n)) (drop (suc n) P.states) ≡ drop (suc m) P.states
      = rw next at (drop-drop (suc (m - suc n)) (suc n) P.states) in
      from_is P used (calls_of (state_scope P)) (suc n) (drop (suc n) P.states) m s f.state f.low f.is
      ∙ (ap (λ ss. run_state P used (calls_of (state_scope P)) (run_from P used (calls_of (state_scope P)) (suc m) ss)
      f.state s) rest
      ∙ sym (state-is m s f.state is))
    where
      get_drop : (i j : ℕ) (ss : List ParserState) → get_elem? (drop i ss) j ≡ get_elem? ss (i + j)
      get_drop zero j ss = ap (λ k. get_elem? ss k) (let e : j ≡ 0 + j = omega arith in e)
      get_drop (suc i) j [] = refl
      get_drop (suc i) j (x ∷ ss) =
          get_drop i j ss ∙ ap (λ k. get_elem? (x ∷ ss) k) (let e : suc (i + j) ≡ suc i + j = omega arith in e)

-- what falls: a state entered is a step
unfoldable pub left : List ℕ → ℕ → ℕ
left slots level = 3 * (most_steps - counter_of slots) + level

pub left-counted : (slots slots₁ : List ℕ) (level t : ℕ) → left slots 0 ≡ t → counter_of slots < counter_of slots₁
    → counter_of slots < most_steps → level < 3 → left slots₁ level < t
unfolding left
left-counted slots slots₁ level t e h k l = omega (arith, e)

pub left-on : (slots slots₁ : List ℕ) (level other t : ℕ) → left slots level ≡ t → counter_of slots ≤ counter_of slots₁
    → other < level → left slots₁ other < t
unfolding left
left-on slots slots₁ level other t e h l = omega (arith, e)
