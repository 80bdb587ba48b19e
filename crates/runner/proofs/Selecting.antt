-- A select: its expression runs, and the first equal value leads on.
use Rattle.program.specs.declared.Scope as coded
use mathlib.Core.Bool.{Bool, true, false}
use Rattle.std.specs.Prelude.{Some, None}
use mathlib.Core.Path.{◌≡◌, refl, ◌∙◌, sym, ap, subst}
use mathlib.Core.List.{List, [], ◌∷◌}
use Prim.Native.Nat.{ℕ, zero, suc, ◌+◌, ◌*◌, ◌≤◌, ◌<◌}
use native.Mathlib.Omega.{arith}
use lib.Dec.{eqb}
use lib.ListN.{length, get_or}
use borrow.Author.Tests.{eqb-true, eqb-false, eq-eqb, ne_eqb}
use Rattle.rules.specs.Numbers.{most_bytes}
use Rattle.rules.specs.Syntax.{Value, Pair, Transition, Program}
use Rattle.rules.specs.Form.{state_scope, values_fit}
use Rattle.rules.specs.Lists.{Entry}
use Rattle.rules.specs.Running.{State, Ending, rejected, done, M, ◌>>=◌, pure, must, or_stuck, Worked, worked, is_fine, no_match, selected, run_transition}
use Rattle.program.specs.Stands.{StandsPairs}
use Rattle.program.proofs.Views.{SelectView, expr-begins}
use Rattle.values.specs.declared.Value as values
use Rattle.steps.specs.declared.Ended.{Ended}
use Rattle.steps.specs.declared.Ended.TheVariants.{Rejected}
use Rattle.steps.specs.Outcomes.{Goes, counter_of, Ran, Gave, Ends, ends-rejected}
use Rattle.steps.proofs.Going.{Begun, then-goes, some-then-goes, some-then-is, must-then-goes, must-then-is, ran-here, ran_then}
use Rattle.runner.specs.Runs.{expr_in, Stage}
use Rattle.runner.specs.Claims.{AsksExpr, RunsExpr}
use Rattle.runner.specs.Parsing.{state_in, later_in, transition_in, AsksState, RunsState, RunsTransition, AsksSelect, AsksEqual, FirstEqual, TellsEqual, equal_at, none_equal}
use Rattle.runner.proofs.Stages.{stage-ran, going-rest}
use Rattle.runner.proofs.Keying.{worked-number}
use Rattle.runner.proofs.States.{later-is, left, left-on}
use Rattle.runner.proofs.Leading.{select-is}

-- the loop over the pairs: those so far are of other values
pub record Unequal (nums : List ℕ) (at count number i : ℕ) : Type 0 where
  pub asks : AsksEqual nums at count
  pub up : i ≤ count
  pub before : (j : ℕ) → j < i → number ≡ get_or nums (at + 2 * j) 0 → ⊥

pub equal-start : (nums : List ℕ) (at count number : ℕ) → AsksEqual nums at count → Unequal nums at count number 0
equal-start nums at count number a = record { asks = a; up = omega arith; before = λ j h. absurd (omega arith) }

module _ (nums : List ℕ) (at count number i : ℕ) (r : Unequal nums at count number i) where
  module _ (h : i < count) where
    pub equal-more : (number ≡ get_or nums (at + 2 * i) 0 → ⊥) → Unequal nums at count number (i + 1)
    equal-more x = record { asks = r.asks; up = omega arith; before = before }
      where
        before : (j : ℕ) → j < i + 1 → number ≡ get_or nums (at + 2 * j) 0 → ⊥
        before j l q = go (eqb j i) refl
          where
            go : (b : Bool) → eqb j i ≡ b → ⊥
            go true e = x (rw (eqb-true j i e) at q)
            go false e = r.before j (omega (arith, l, eqb-false j i e)) q

    pub equal-found : number ≡ get_or nums (at + 2 * i) 0 → TellsEqual nums at count number (Some i)
    equal-found q = equal_at h (record { most = omega arith; before = r.before; is = λ _. q })

  pub equal-none : count ≤ i → TellsEqual nums at count number None
  equal-none h = none_equal (record {
    most = omega arith;
    before = λ j l. r.before j (omega arith);
    is = λ l. absurd (omega arith);
  })

pub ruleset equals = (equal-start, equal-more, equal-found, equal-none)

-- what the cases tell
found_within : {nums : List ℕ} {at count number r : ℕ} → TellsEqual nums at count number (Some r) → r < count
found_within (equal_at l f) = l

found_first : {nums : List ℕ} {at count number r : ℕ} → TellsEqual nums at count number (Some r)
    → FirstEqual nums at count number r
found_first (equal_at l f) = f

found_none : {nums : List ℕ} {at count number : ℕ} → TellsEqual nums at count number None
    → FirstEqual nums at count number count
found_none (none_equal f) = f

-- the first equal value of some pairs
pub pairs-inside : (nums : List ℕ) (at : ℕ) (ps : List Pair) → StandsPairs nums at ps → (i : ℕ) → i < length ps
    → at + 2 * i + 1 < length nums
unfolding StandsPairs
pairs-inside nums at [] w i h = absurd (omega arith)
pairs-inside nums at (p ∷ ps) w zero h = omega (arith, w.1.0.holds.inside)
pairs-inside nums at (p ∷ ps) w (suc i) h = omega (arith, pairs-inside nums (at + 2) ps w.1.1 i (omega arith))

module _ (nums : List ℕ) (later : ℕ → M State Ending) (number : ℕ) (s : State) where
  record Others (at r : ℕ) (ps : List Pair) : Type 0 where
    before : (i : ℕ) → i < r → number ≡ get_or nums (at + 2 * i) 0 → ⊥

  others-next : (at r : ℕ) (p : Pair) (ps : List Pair) → Others at (suc r) (p ∷ ps) → Others (at + 2) r ps
  others-next at r p ps o = record {
    before = λ i h q.
        let e : at + 2 + 2 * i ≡ at + 2 * suc i = omega arith in
        o.before (suc i) (omega arith) (rw e at q);
  }

  passed : (at r : ℕ) (p : Pair) (ps : List Pair) → StandsPairs nums at (p ∷ ps) → Others at (suc r) (p ∷ ps)
      → selected later number (p ∷ ps) s ≡ selected later number ps s
  unfolding selected StandsPairs
  passed at r p ps w o =
      let first : at + 2 * 0 ≡ at = omega arith in
      let x : number ≡ p.value.number → ⊥
      = λ q. o.before 0 (omega arith) (rw first (q ∙ sym w.0.holds.is)) in
      rw (ne_eqb number p.value.number x, selected) refl

  selected-at : (at r : ℕ) (ps : List Pair) → StandsPairs nums at ps → Others at r ps → r < length ps
      → number ≡ get_or nums (at + 2 * r) 0 → selected later number ps s ≡ later (get_or nums (at + 2 * r + 1) 0) s
  selected-at at r [] w o h q = absurd (omega arith)
  selected-at at zero (p ∷ ps) w o h q = unfold selected StandsPairs in
      let first : at + 2 * 0 ≡ at = omega arith in
      let equal : number ≡ p.value.number = rw first at q ∙ w.0.holds.is in
      rw (eq-eqb number p.value.number equal, selected, first, w.1.0.holds.is) refl
  selected-at at (suc r) (p ∷ ps) w o h q =
      let e : at + 2 * suc r ≡ at + 2 + 2 * r = omega arith in
      passed at r p ps w o
      ∙ rw e (selected-at (at + 2) r ps (unfold StandsPairs in w.1.1) (others-next at r p ps o) (omega arith)
      (rw e at q))

  unmatched : (at : ℕ) (ps : List Pair) → StandsPairs nums at ps → Others at (length ps) ps
      → selected later number ps s ≡ done (rejected no_match) s []
  unmatched at [] w o = unfold selected pure in refl
  unmatched at (p ∷ ps) w o =
      passed at (length ps) p ps w o
      ∙ unmatched (at + 2) ps (unfold StandsPairs in w.1.1) (others-next at (length ps) p ps o)

-- at any stage
abbrev then_pair : Program → ℕ → ℕ → List Pair → Worked → M State Ending
then_pair P used n ps k = must (is_fine (values_fit k.width ps)) >>= λ _. selected (later_in P used n) k.number ps

abbrev then_select : Program → ℕ → ℕ → List Pair → Value → M State Ending
then_select P used n ps v = or_stuck (worked v) >>= then_pair P used n ps

module _ (P : Program) (n : ℕ) {nums directory ends : List ℕ} {scope : coded.Scope} {slots frame : List ℕ} {at : ℕ} {used : ℕ} {es : List Entry}
    {s : State} {T : Transition} (v : SelectView nums ends at T)
    (st : Stage nums directory ends scope slots frame (state_scope P) used es s)
    (g : Goes (counter_of slots) (transition_in P used n T s)) where
  select-same : transition_in P used n T s
      ≡ (expr_in (state_scope P) used v.expr >>= then_select P used n v.pairs) s
  unfolding transition_in run_transition expr_in
  select-same = rw v.same refl

  select-begun : Begun (counter_of slots) (expr_in (state_scope P) used v.expr) (then_select P used n v.pairs) s
  select-begun = then-goes _ _ s (rw select-same at g)

  module _ {slots₁ frame₁ : List ℕ} {y : values.Value}
      (h : Ran nums directory ends scope slots slots₁ frame frame₁ (state_scope P)
      (expr_in (state_scope P) used v.expr s) (Gave y.ty y.number)) where
    record Chosen : Type 0 where
      is : then_select P used n v.pairs h.answer h.state
          ≡ selected (later_in P used n) y.number v.pairs h.state
      going : Goes (counter_of slots₁) (selected (later_in P used n) y.number v.pairs h.state)

    chosen : Chosen
    chosen =
        let w = some-then-goes (worked h.answer) (then_pair P used n v.pairs) h.state
        (going-rest st (expr_in (state_scope P) used v.expr) (then_select P used n v.pairs) select-begun h) in
        let k = w.member in
        let m = must-then-goes (is_fine (values_fit k.width v.pairs))
        (λ _. selected (later_in P used n) k.number v.pairs) h.state w.rest in
        let same : y.number ≡ k.number = worked-number y.ty y.number h.answer k h.answers w.is in
        record {
          is = some-then-is (worked h.answer) (then_pair P used n v.pairs) h.state w.is
              ∙ (must-then-is (is_fine (values_fit k.width v.pairs))
              (λ _. selected (later_in P used n) k.number v.pairs) h.state m.0
              ∙ ap (λ i. selected (later_in P used n) i v.pairs h.state) (sym same));
          going = subst (λ i. Goes (counter_of slots₁) (selected (later_in P used n) i v.pairs h.state)) (sym same)
              m.1;
        }

    select-ran : {slots₂ frame₂ : List ℕ} {r : Ended}
        → Ran nums directory ends scope slots₁ slots₂ frame₁ frame₂ (state_scope P)
        (selected (later_in P used n) y.number v.pairs h.state) (Ends r)
        → Ran nums directory ends scope slots slots₂ frame frame₂ (state_scope P) (transition_in P used n T s) (Ends r)
    select-ran {slots₂} {frame₂} {r} k =
        let there : Ran nums directory ends scope slots₁ slots₂ frame₁ frame₂ (state_scope P)
        (then_select P used n v.pairs h.answer h.state) (Ends r) = rw chosen.is k in
        rw select-same (ran_then (expr_in (state_scope P) used v.expr) (then_select P used n v.pairs) s h there)

    -- the pair that is found, or none
    module _ {r : ℕ} (f : FirstEqual nums (get_or ends (at + 1) 0 + 1) (get_or nums (get_or ends (at + 1) 0) 0) y.number r)
      where
        abbrev pairs : ℕ
        pairs = get_or ends (at + 1) 0

        others : Others nums (later_in P used n) y.number h.state (pairs + 1) r v.pairs
        others = record { before = f.before }

        pair_is : r < get_or nums pairs 0 → selected (later_in P used n) y.number v.pairs h.state
            ≡ state_in P used (get_or nums (pairs + 2 + 2 * r) 0) h.state
        pair_is l =
            let e : pairs + 1 + 2 * r + 1 ≡ pairs + 2 + 2 * r = omega arith in
            let same = rw e at (selected-at nums (later_in P used n) y.number h.state (pairs + 1) r v.pairs
            v.stand others (omega (arith, l, v.count.holds.is)) (f.is l)) in
            same ∙ later-is P used n (get_or nums (pairs + 2 + 2 * r) 0) (counter_of slots₁) h.state
            (rw same at chosen.going)

        none_is : get_or nums pairs 0 ≤ r
            → selected (later_in P used n) y.number v.pairs h.state ≡ done (rejected no_match) h.state []
        none_is l =
            let all : r ≡ length v.pairs = omega (arith, l, f.most, v.count.holds.is) in
            unmatched nums (later_in P used n) y.number h.state (pairs + 1) v.pairs v.stand
            (rw all at others)

-- from the numbers
module _ (nums directory ends : List ℕ) (scope : coded.Scope) (slots frame : List ℕ) (at : ℕ)
    (a : AsksSelect nums directory ends scope slots frame at) where
  abbrev this : SelectView nums ends at a.asks.transition
  this = select-is a a.asks.transition a.asks.stands

  pub select-inside : at + 1 < length ends
  select-inside = omega (arith, (expr-begins this.stands).inside, a.asks.stage.scene.scopes.program.room)

  pub select-low : at + 1 < most_bytes
  select-low = omega (arith, (expr-begins this.stands).inside, a.asks.stage.scene.scopes.program.numbers)

  pub select-expr : AsksExpr nums directory ends scope slots frame 32 (at + 1)
  select-expr = record {
    scope_of = state_scope a.asks.program;
    used = a.asks.used;
    entry_list = a.asks.entry_list;
    state = a.asks.state;
    expr = this.expr;
    stage = a.asks.stage;
    stands = this.stands;
    deep = omega arith;
    going = (select-begun a.asks.program a.asks.from this a.asks.stage a.asks.going).first;
  }

  module _ (pairs : ℕ) (e : pairs ≡ get_or ends (at + 1) 0) where
    pub pairs-count : pairs < length nums
    pairs-count = rw e this.count.holds.inside

    pub pairs-low : pairs < most_bytes
    pairs-low = omega (arith, pairs-count, a.asks.stage.scene.scopes.program.numbers)

    pub pairs-asks : AsksEqual nums (pairs + 1) (get_or nums pairs 0)
    pairs-asks = rw e (record {
      few = a.asks.stage.scene.scopes.program.numbers;
      most = omega (arith, this.count.holds.is, this.count.at_most);
      inside = λ i l. omega (
        arith,
        pairs-inside nums (get_or ends (at + 1) 0 + 1) this.pairs this.stand i
            (omega (arith, l, this.count.holds.is)),
      );
    })

    pub record StateRoom (r : ℕ) : Type 0 where
      pub few : length nums ≤ most_bytes
      pub inside : pairs + 2 + 2 * r < length nums

    pub later-room : (count number r : ℕ) → count ≡ get_or nums pairs 0
        → TellsEqual nums (pairs + 1) count number (Some r) → StateRoom r
    later-room count number r q f =
        let l : r < get_or nums pairs 0 = omega (arith, q, found_within f) in
        record {
          few = a.asks.stage.scene.scopes.program.numbers;
          inside = omega (
            arith,
            e,
            pairs-inside nums (get_or ends (at + 1) 0 + 1) this.pairs this.stand r
                (omega (arith, rw e at l, this.count.holds.is)),
          );
        }

    module _ (slots₁ frame₁ : List ℕ) (y : values.Value)
        (k : RunsExpr nums directory ends scope slots slots₁ frame frame₁ 32 (at + 1) y) where
      value-ran : (P : Program) (n : ℕ) {used : ℕ} {es : List Entry} {s : State} {T : Transition}
          (v : SelectView nums ends at T) → (st : Stage nums directory ends scope slots frame (state_scope P) used es s)
          → Goes (counter_of slots) (transition_in P used n T s)
          → Ran nums directory ends scope slots slots₁ frame frame₁ (state_scope P)
          (expr_in (state_scope P) used v.expr s) (Gave y.ty y.number)
      value-ran P n {used} {es} {s} v st g =
          k.runs (state_scope P) used es s v.expr st v.stands (select-begun P n v st g).first

      abbrev h : Ran nums directory ends scope slots slots₁ frame frame₁ (state_scope a.asks.program)
          (expr_in (state_scope a.asks.program) a.asks.used this.expr a.asks.state)
          (Gave y.ty y.number)
      h = value-ran a.asks.program a.asks.from this a.asks.stage a.asks.going

      pub chosen-fall : (t : ℕ) → left slots 1 ≡ t → left slots₁ 0 < t
      chosen-fall t q = left-on slots slots₁ 1 0 t q (omega (arith, h.counted)) (omega arith)

      module _ (count : ℕ) (q : count ≡ get_or nums pairs 0) where
        module _ (r : ℕ) (f : TellsEqual nums (pairs + 1) count y.number (Some r)) where
          there : FirstEqual nums (get_or ends (at + 1) 0 + 1) (get_or nums (get_or ends (at + 1) 0) 0) y.number r
          there = rw (q, e) at (found_first f)

          within : r < get_or nums (get_or ends (at + 1) 0) 0
          within = rw (q, e) at (found_within f)

          pub chosen-asks : (later : ℕ) → later ≡ get_or nums (pairs + 2 + 2 * r) 0
              → AsksState nums directory ends scope slots₁ frame₁ later
          chosen-asks later d = rw (d, e) (record {
            program = a.asks.program;
            used = a.asks.used;
            entry_list = a.asks.entry_list;
            state = h.state;
            stage = stage-ran a.asks.stage h;
            going = rw (pair_is a.asks.program a.asks.from this a.asks.stage a.asks.going h there within) at
                (chosen a.asks.program a.asks.from this a.asks.stage a.asks.going h).going;
          })

          pub chosen-runs : (slots₂ frame₂ : List ℕ) (later : ℕ) (z : Ended)
              → later ≡ get_or nums (pairs + 2 + 2 * r) 0
              → RunsState nums directory ends scope slots₁ slots₂ frame₁ frame₂ later z
              → RunsTransition nums directory ends scope slots slots₂ frame frame₂ at z
          chosen-runs slots₂ frame₂ later z d x = record {
            runs = λ P used es s n T st w g.
                let v = select-is a T w in
                let o = value-ran P n v st g in
                let same = pair_is P n v st g o there within in
                select-ran P n v st g o (rw same ((rw (d, e) at x).runs P used es o.state (stage-ran st o)
                (rw same at (chosen P n v st g o).going)));
          }

        pub unmatched-runs : TellsEqual nums (pairs + 1) count y.number None
            → RunsTransition nums directory ends scope slots slots₁ frame frame₁ at (Rejected no_match)
        unmatched-runs f =
            let there : FirstEqual nums (get_or ends (at + 1) 0 + 1) (get_or nums (get_or ends (at + 1) 0) 0) y.number
            (get_or nums (get_or ends (at + 1) 0) 0)
            = rw (q, e) at (found_none f) in
            record {
              runs = λ P used es s n T st w g.
                  let v = select-is a T w in
                  let o = value-ran P n v st g in
                  select-ran P n v st g o (ran-here o.state (rejected no_match) o.scene
                  (none_is P n v st g o there (omega arith)) ends-rejected);
            }

pub ruleset select_runs = (
  select-inside,
  select-low,
  select-expr,
  pairs-count,
  pairs-low,
  pairs-asks,
  chosen-fall,
  chosen-asks,
  chosen-runs,
  unmatched-runs,
)
