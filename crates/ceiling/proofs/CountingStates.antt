-- The steps of the count of states.
use mathlib.Core.Bool.{Bool, true, false}
use mathlib.Core.Path.{◌≡◌, refl, sym, ◌∙◌}
use mathlib.Core.List.{List, [], ◌∷◌}
use Prim.Native.Nat.{ℕ, zero, suc, ◌+◌, ◌-◌, ◌*◌, ◌^◌, ◌≤◌, ◌<◌, max}
use native.Mathlib.Nat.{sub-zero}
use native.Mathlib.Omega.{arith}
use lib.Dec.{eqb}
use lib.ListN.{length, get_or, set, drop, length-set, replicate, get_or-replicate, drop_of_length-le}
use lib.Seq.{get_or-set_same, get_or-set_other}
use borrow.Author.Tests.{eq-eqb, ne_eqb, eqb-true, eqb-false}
use Rattle.rules.specs.Syntax.{Pair, Transition, Program}
use Rattle.rules.specs.Reading.{most_states}
use Rattle.rules.specs.Ceiling.{no_table, ceiling_expr, ceiling_stmt, largest_of, ceiling_transition, ceiling_from, ceiling_parser}
use Rattle.program.specs.Stands.{StandsTransition, on-no-transition, on-accept, on-reject, on-lead-to, on-select, StandsState}
use Rattle.program.specs.Looks.{Has, Finds, states_of, FoundState}
use Rattle.program.proofs.Views.{LeadView, lead-view, SelectView, select-view, transition-inside, PairView, pair-view, expr-begins, stmt-begins}
use Rattle.program.proofs.Found.{At, member-at}
use Rattle.program.proofs.Members.{drop-member}
use Rattle.ceiling.specs.Cut.{cut}
use Rattle.ceiling.specs.Claims.{callee_below, applied_in, TablesKept, Setting, Counted, AsksExpr, CountsExpr, AsksStmt, CountsStmt}
use Rattle.ceiling.specs.StateClaims.{Later, CountsLed, AsksDearest, CountsDearest, AsksTransition, CountsTransition, later_from, AsksState, CountsState, AsksStates, Worked, CountsStates, AsksParser, CountsParser}
use Rattle.ceiling.proofs.Sums.{one-low, cut_low, cut-zero, cut-own, cut-both, cut-max}
use Rattle.ceiling.proofs.Counting.{resumed}
use Rattle.ceiling.proofs.CountingTables.{count-falls}

-- a state that a transition leads to
pub led-slot : (filled : List ℕ) (number : ℕ) → number < 16 → CountsLed filled number (get_or filled number 0)
led-slot filled number h = record { counted = λ later f. f.slot number h }

pub led-beyond : (filled : List ℕ) (number : ℕ) → 16 ≤ number → CountsLed filled number 0
led-beyond filled number h = record { counted = λ later f. cut-zero ∙ rw (f.beyond number h) }

pub ruleset leading = (led-slot, led-beyond)

-- pairs of which some are left
module _ (nums filled : List ℕ) (at count : ℕ) (a : AsksDearest nums filled at count) (n : count ≡ 0 → ⊥) where
  pair_of : PairView nums at count a.pairs
  pair_of = pair-view a.pairs a.stand a.counts n

  pub pair_inside : at + 1 < length nums
  pair_inside = pair_of.state.holds.inside

  pub pair-behind : at + 2 < 2 ^ 64
  pair-behind = omega (arith, pair_inside, a.numbers)

  pub pairs-rest : AsksDearest nums filled (at + 2) (count - 1)
  pairs-rest = record {
    later = a.later;
    fills = a.fills;
    pairs = pair_of.others;
    stand = pair_of.rest;
    counts = pair_of.fewer;
    numbers = a.numbers;
  }

module _ (nums filled : List ℕ) (at count : ℕ) where
  no_pairs : (ps : List Pair) → length ps ≡ 0 → ps ≡ []
  no_pairs [] e = refl
  no_pairs (p ∷ ps) e = absurd (omega arith)

  pub pairs-none : count ≡ 0 → CountsDearest nums filled at count 0
  unfolding largest_of
  pairs-none e = record {
    low = omega arith;
    counted = λ later ps f s k. rw (no_pairs ps (sym k ∙ e)) cut-zero;
  }

  pairs-more : (one others : ℕ) → AsksDearest nums filled at count → (count ≡ 0 → ⊥)
      → CountsLed filled (get_or nums (at + 1) 0) one → CountsDearest nums filled (at + 2) (count - 1) others
      → CountsDearest nums filled at count (max one others)
  unfolding largest_of
  pairs-more one others a n c d = record {
    low = omega (arith, cut_low one _ (c.counted a.later a.fills), d.low);
    counted = λ later ps f s k.
        let v : PairView nums at count ps = pair-view ps s k n in
        rw v.same (cut-max one others _ _ (rw v.state.holds.is at (c.counted later f))
        (d.counted later v.others f v.rest v.fewer));
  }

-- so many pairs, of which some are done
pub record PairsLeft (nums filled : List ℕ) (at count most done : ℕ) : Type 0 where
  pub asks : AsksDearest nums filled (at + 2 * done) (count - done)
  pub rest : (others r : ℕ) → CountsDearest nums filled (at + 2 * done) (count - done) others → r ≡ max most others
      → CountsDearest nums filled at count r

pub pairs-begin : (nums filled : List ℕ) (at count : ℕ) → AsksDearest nums filled at count
    → PairsLeft nums filled at count 0 0
pairs-begin nums filled at count a =
    let o : at + 2 * 0 ≡ at = omega arith in
    record {
      asks = rw (sub-zero, o) a;
      rest = λ others r c e. let same : r ≡ others = omega (arith, e) in rw same (rw (sub-zero, o) at c);
    }

module _ (nums filled : List ℕ) (at count most done : ℕ) (w : PairsLeft nums filled at count most done) where
  module _ (m : done < count) where
    more : count - done ≡ 0 → ⊥
    more e = omega (arith, e)

    fewer : count - done - 1 ≡ count - (done + 1)
    fewer = omega arith

    further : at + 2 * done + 2 ≡ at + 2 * (done + 1)
    further = omega arith

    pub pairs-inside_of : at + 2 * done + 1 < length nums
    pairs-inside_of = pair_inside nums filled (at + 2 * done) (count - done) w.asks more

    pub pairs-next : at + 2 * done + 1 < 2 ^ 64
    pairs-next = omega (arith, pairs-inside_of, w.asks.numbers)

    pub pairs-again : (one most₁ : ℕ) → CountsLed filled (get_or nums (at + 2 * done + 1) 0) one
        → most₁ ≡ max most one
        → PairsLeft nums filled at count most₁ (done + 1)
    pairs-again one most₁ c e = record {
      asks = rw (← further, ← fewer) (pairs-rest nums filled (at + 2 * done) (count - done) w.asks more);
      rest = λ others r d f.
          w.rest (max one others) r
          (pairs-more nums filled (at + 2 * done) (count - done) one others w.asks more c (rw (← further, ← fewer) at d))
          (omega (arith, e, f));
    }

  pub pairs-end : count ≤ done → CountsDearest nums filled at count most
  pairs-end m = w.rest 0 most (pairs-none nums filled (at + 2 * done) (count - done) (omega arith)) (omega arith)

pub ruleset pairs_counted = (pairs-inside_of, pairs-next, pairs-begin, pairs-again, pairs-end)

-- a transition, by its tag
module _ {nums ends : List ℕ} {at : ℕ} where
  leads-nowhere : (callee later : ℕ → ℕ) {t : Transition} → StandsTransition nums ends at t
      → (get_or nums at 0 ≡ 3 → ⊥) → (get_or nums at 0 ≡ 4 → ⊥) → ceiling_transition callee later t ≡ 0
  unfolding ceiling_transition
  leads-nowhere callee later (on-no-transition h) k₃ k₄ = refl
  leads-nowhere callee later (on-accept h) k₃ k₄ = refl
  leads-nowhere callee later (on-reject h e) k₃ k₄ = refl
  leads-nowhere callee later (on-lead-to h s) k₃ k₄ = absurd (k₃ h.is)
  leads-nowhere callee later (on-select h e n ps) k₃ k₄ = absurd (k₄ h.is)

module _ (nums directory ends filled kept : List ℕ) (reach at : ℕ)
    (a : AsksTransition nums directory ends filled kept reach at) where
  pub tag-inside : at < length nums
  tag-inside = transition-inside a.stands

  pub behind-tag : at + 1 < 2 ^ 64
  behind-tag = omega (arith, tag-inside, a.setting.stands.numbers)

  pub lead-inside : get_or nums at 0 ≡ 3 → at + 1 < length nums
  lead-inside k = (lead-view a.stands k).stands.holds.inside

  module _ (k : get_or nums at 0 ≡ 4) where
    selects : SelectView nums ends at a.transition
    selects = select-view a.stands k

    pub select-expr : AsksExpr nums directory ends kept reach 32 (at + 1)
    select-expr = record {
      program = a.program;
      expr = selects.expr;
      setting = a.setting;
      stands = selects.stands;
      deep = omega arith;
    }

    pub select-inside : at + 1 < length ends
    select-inside = omega (arith, (expr-begins selects.stands).inside, a.setting.stands.room)

    pub pairs-inside : get_or ends (at + 1) 0 < length nums
    pairs-inside = selects.count.holds.inside

    pub behind-pairs : get_or ends (at + 1) 0 + 1 < 2 ^ 64
    behind-pairs = omega (arith, pairs-inside, a.setting.stands.numbers)

    pub select-pairs : AsksDearest nums filled (get_or ends (at + 1) 0 + 1) (get_or nums (get_or ends (at + 1) 0) 0)
    select-pairs = record {
      later = a.later;
      fills = a.fills;
      pairs = selects.pairs;
      stand = selects.stand;
      counts = selects.count.holds.is;
      numbers = a.setting.stands.numbers;
    }

  pub lead-counted : (r : ℕ) → get_or nums at 0 ≡ 3 → CountsLed filled (get_or nums (at + 1) 0) r
      → CountsTransition nums directory ends filled kept kept reach at r
  unfolding ceiling_transition
  lead-counted r k c = record {
    low = cut_low r _ (c.counted a.later a.fills);
    counted = λ P later t s f w.
        let v : LeadView nums ends at t = lead-view w k in
        rw v.same (record { is = rw v.stands.holds.is at (c.counted later f); keeps = s.keeps });
  }

module _ (nums directory ends filled kept : List ℕ) (reach at : ℕ) where
  pub select-counted : (kept₁ : List ℕ) (on most r : ℕ) → get_or nums at 0 ≡ 4
      → CountsExpr nums directory ends kept kept₁ reach 32 (at + 1) on
      → CountsDearest nums filled (get_or ends (at + 1) 0 + 1) (get_or nums (get_or ends (at + 1) 0) 0) most
      → r ≡ cut (on + most) → CountsTransition nums directory ends filled kept kept₁ reach at r
  unfolding ceiling_transition
  select-counted kept₁ on most r k c d e = record {
    low = cut_low r (on + most) e;
    counted = λ P later t s f w.
        let v : SelectView nums ends at t = select-view w k in
        let p : Counted P (ceiling_expr (callee_below P reach) v.expr) on kept₁
        = c.counted P v.expr s v.stands in
        rw v.same (record {
          is = cut-both on most r _ _ p.is (d.counted later v.pairs f v.stand v.count.holds.is) e;
          keeps = p.keeps;
        });
  }

  pub other-counted : (get_or nums at 0 ≡ 3 → ⊥) → (get_or nums at 0 ≡ 4 → ⊥)
      → CountsTransition nums directory ends filled kept kept reach at 0
  other-counted k₃ k₄ = record {
    low = omega arith;
    counted = λ P later t s f w.
        rw (leads-nowhere (callee_below P reach) later w k₃ k₄) (record { is = cut-zero; keeps = s.keeps });
  }

pub ruleset transitions = (
  cut_low,
  tag-inside,
  behind-tag,
  lead-inside,
  select-expr,
  select-inside,
  pairs-inside,
  behind-pairs,
  select-pairs,
  lead-counted,
  select-counted,
  other-counted,
)

-- no apply in a state
unapplied : (P : Program) (reach : ℕ) → applied_in P reach no_table ≡ no_table
unfolding applied_in
unapplied P reach = go (eqb reach (length P.callables))
  where
    go : (b : Bool) → elim b [ true ↦ no_table | false ↦ no_table ] ≡ no_table
    go true = refl
    go false = refl

-- the states from number n on, by position
module _ (P : Program) (n : ℕ) (h : n < length P.states) where
  state-of : At P.states n
  state-of = member-at P.states n h

  drops : drop n P.states ≡ state-of.member ∷ drop (suc n) P.states
  drops = drop-member P.states n state-of.member state-of.is

  later-here : (reach : ℕ) → later_from P reach n n
      ≡ 1 + (ceiling_stmt (callee_below P reach) no_table state-of.member.body
      + ceiling_transition (callee_below P reach) (later_from P reach (suc n)) state-of.member.transition)
  unfolding ceiling_from
  later-here reach = rw (drops, ceiling_from, eq-eqb n n refl)

  later-there : (reach m : ℕ) → (m ≡ n → ⊥) → later_from P reach n m ≡ later_from P reach (suc n) m
  unfolding ceiling_from
  later-there reach m x = rw (drops, ceiling_from, ne_eqb m n x)

-- a state
module _ (nums directory ends tables filled kept : List ℕ) (reach s : ℕ)
    (a : AsksState nums directory ends tables filled kept reach s) where
  pub state-has : Has states_of nums directory ends s
  unfolding states_of
  state-has = record {
    program = a.program;
    end = a.setting.end;
    stands = a.setting.stands;
    inside = a.inside;
  }

  module _ (at : ℕ) (f : Finds states_of (FoundState nums ends at) nums directory ends s) where
    found : StandsState nums ends at (state-of a.program s a.inside).member
    unfolding states_of FoundState
    found = f.finds a.program a.setting.end (state-of a.program s a.inside).member
        a.setting.stands (state-of a.program s a.inside).is

    pub state-body : AsksStmt nums directory ends tables kept reach 32 at
    state-body = record {
      program = a.program;
      stmt = (state-of a.program s a.inside).member.body;
      setting = a.setting;
      table = no_table;
      tabled = a.tabled;
      stands = found.body;
      deep = omega arith;
    }

    pub state-inside : at < length ends
    state-inside = omega (arith, (stmt-begins found.body).inside, a.setting.stands.room)

    pub state-transition : (kept₁ : List ℕ) (body : ℕ)
        → CountsStmt nums directory ends tables kept kept₁ reach 32 at body
        → AsksTransition nums directory ends filled kept₁ reach (get_or ends at 0)
    state-transition kept₁ body c = record {
      program = a.program;
      setting = resumed a.setting (c.counted a.program (state-of a.program s a.inside).member.body
          a.setting no_table a.tabled found.body);
      later = later_from a.program reach (suc s);
      fills = a.fills;
      transition = (state-of a.program s a.inside).member.transition;
      stands = found.transition;
    }

pub state-counted : (nums directory ends tables filled kept kept₁ kept₂ : List ℕ) (reach s at body own on r : ℕ)
    → Finds states_of (FoundState nums ends at) nums directory ends s
    → CountsStmt nums directory ends tables kept kept₁ reach 32 at body → own ≡ cut (1 + body)
    → CountsTransition nums directory ends filled kept₁ kept₂ reach (get_or ends at 0) on → r ≡ cut (own + on)
    → CountsState nums directory ends tables filled kept kept₂ reach s r
unfolding states_of FoundState
state-counted nums directory ends tables filled kept kept₁ kept₂ reach s at body own on r f c o d e = record {
  low = cut_low r (own + on) e;
  counted = λ P setting tabled fills inside.
      let m : At P.states s = state-of P s inside in
      let w : StandsState nums ends at m.member = f.finds P setting.end m.member setting.stands m.is in
      let p : Counted P (ceiling_stmt (callee_below P reach) (applied_in P reach no_table) m.member.body) body kept₁
      = c.counted P m.member.body setting no_table tabled w.body in
      let q : Counted P (ceiling_transition (callee_below P reach) (later_from P reach (suc s)) m.member.transition) on
      kept₂ = d.counted P (later_from P reach (suc s)) m.member.transition (resumed setting p) fills
      w.transition in
      let b : body ≡ cut (ceiling_stmt (callee_below P reach) no_table m.member.body)
      = p.is ∙ rw (unapplied P reach) in
      record {
        is = cut-both own on r _ _ (cut-own body own _ b o) q.is e
            ∙ rw (later-here P s inside reach) (cut-grouped _ _);
        keeps = q.keeps;
      };
}
  where
    cut-grouped : (a b : ℕ) → cut (1 + a + b) ≡ cut (1 + (a + b))
    cut-grouped a b = unfold cut in omega arith

pub ruleset counting_state = (
  one-low,
  cut_low,
  state-has,
  state-body,
  state-inside,
  state-transition,
  state-counted,
)

-- the states below a number; one more is filled
later_more : (P : Program) (reach : ℕ) (filled : List ℕ) (n v : ℕ) → Later (later_from P reach (suc n)) filled
    → n < length P.states → length P.states ≤ most_states → v ≡ cut (later_from P reach n n)
    → Later (later_from P reach n) (set filled n v)
later_more P reach filled n v f h few e = record {
  slots = length-set filled n v ∙ f.slots;
  slot = λ m l. go m l (eqb m n) refl;
  beyond = λ m l. later-there P n h reach m (λ q. absurd (omega (arith, q))) ∙ f.beyond m l;
}
  where
    go : (m : ℕ) → m < most_states → (b : Bool) → eqb m n ≡ b
        → get_or (set filled n v) m 0 ≡ cut (later_from P reach n m)
    go m l true q =
        let same : m ≡ n = eqb-true m n q in
        rw same (get_or-set_same filled n v 0 (omega (arith, f.slots)) ∙ e)
    go m l false q =
        get_or-set_other filled n m v 0 (eqb-false m n q) ∙ f.slot m l
        ∙ rw (later-there P n h reach m (eqb-false m n q))

-- s - 1 is the number before s
module _ (s : ℕ) (n : s ≡ 0 → ⊥) where
  before : suc (s - 1) ≡ s
  before = go s n
    where
      go : (s : ℕ) → (s ≡ 0 → ⊥) → suc (s - 1) ≡ s
      go zero x = absurd (x refl)
      go (suc s) x = omega arith

module _ (nums directory ends tables kept filled : List ℕ) (reach s : ℕ) (n : s ≡ 0 → ⊥) where
  module _ (a : AsksStates nums directory ends tables kept filled reach s) where
    pub states-slot : s - 1 < 16
    states-slot = omega (arith, before s n, a.few, a.setting.stands.states.few)

    pub states-asks : AsksState nums directory ends tables filled kept reach (s - 1)
    states-asks = record {
      program = a.program;
      setting = a.setting;
      tabled = a.tabled;
      fills = rw (before s n) a.fills;
      inside = omega (arith, before s n, a.few);
    }

    pub states-rest : (kept₁ : List ℕ) (one : ℕ)
        → CountsState nums directory ends tables filled kept kept₁ reach (s - 1) one
        → AsksStates nums directory ends tables kept₁ (set filled (s - 1) one) reach (s - 1)
    states-rest kept₁ one c =
        let l : s - 1 < length a.program.states = omega (arith, before s n, a.few) in
        let p : Counted a.program (later_from a.program reach (s - 1) (s - 1)) one kept₁
        = c.counted a.program a.setting a.tabled (rw (before s n) a.fills) l in
        record {
          program = a.program;
          setting = resumed a.setting p;
          tabled = a.tabled;
          fills = later_more a.program reach filled (s - 1) one (rw (before s n) a.fills) l
              a.setting.stands.states.few p.is;
          few = omega (arith, l);
        }

  pub states-counted : (kept₁ kept₂ filled₂ : List ℕ) (one : ℕ)
      → CountsState nums directory ends tables filled kept kept₁ reach (s - 1) one
      → CountsStates nums directory ends tables kept₁ kept₂ (set filled (s - 1) one) filled₂ reach (s - 1)
      → CountsStates nums directory ends tables kept kept₂ filled filled₂ reach s
  states-counted kept₁ kept₂ filled₂ one c d = record {
    counted = λ P setting tabled fills few.
        let l : s - 1 < length P.states = omega (arith, before s n, few) in
        let p : Counted P (later_from P reach (s - 1) (s - 1)) one kept₁
        = c.counted P setting tabled (rw (before s n) fills) l in
        d.counted P (resumed setting p) tabled
        (later_more P reach filled (s - 1) one (rw (before s n) fills) l setting.stands.states.few p.is)
        (omega (arith, l));
  }

pub states-done : (nums directory ends tables kept filled : List ℕ) (reach s : ℕ) → s ≡ 0
    → CountsStates nums directory ends tables kept kept filled filled reach s
states-done nums directory ends tables kept filled reach s e = record {
  counted = λ P setting tabled fills few. record { fills = rw e at fills; keeps = setting.keeps };
}

pub ruleset counting_states = (count-falls, states-slot, states-asks, states-rest, states-counted, states-done)

-- the parser: nothing is filled at first, and the first slot tells
none-later : (P : Program) (reach n : ℕ) → n ≡ length P.states → Later (later_from P reach n) (replicate 16 0)
unfolding ceiling_from
none-later P reach n e =
    let all : length P.states ≤ n = omega (arith, e) in
    let none : drop n P.states ≡ [] = drop_of_length-le P.states all in
    record {
      slots = refl;
      slot = λ m l. get_or-replicate 16 m 0 0 l ∙ cut-zero ∙ rw none refl;
      beyond = λ m l. rw none refl;
    }

module _ (nums directory ends tables kept : List ℕ) (reach : ℕ) (a : AsksParser nums directory ends tables kept reach)
  where
    pub parser-states : AsksStates nums directory ends tables kept (replicate 16 0) reach (get_or directory 70 0)
    parser-states = record {
      program = a.program;
      setting = a.setting;
      tabled = a.tabled;
      fills = none-later a.program reach (get_or directory 70 0) a.setting.stands.states.count;
      few = omega (arith, a.setting.stands.states.count);
    }

    pub parser-counted : (kept₁ filled : List ℕ)
        → CountsStates nums directory ends tables kept kept₁ (replicate 16 0) filled reach (get_or directory 70 0)
        → CountsParser nums directory ends tables kept kept₁ reach (get_or filled 0 0)
    unfolding ceiling_parser
    parser-counted kept₁ filled c = record {
      low = cut_low (get_or filled 0 0) _ (told a.program a.setting a.tabled).is;
      counted = told;
    }
      where
        told : (P : Program) → Setting nums directory ends kept reach P → TablesKept P reach tables no_table
            → Counted P (ceiling_parser (callee_below P reach) P) (get_or filled 0 0) kept₁
        told P setting tabled =
            let w : Worked P reach filled kept₁ = c.counted P setting tabled
            (none-later P reach (get_or directory 70 0) setting.stands.states.count)
            (omega (arith, setting.stands.states.count)) in
            record { is = w.fills.slot 0 (omega arith); keeps = w.keeps }

pub ruleset counting_parser = (parser-states, parser-counted)
