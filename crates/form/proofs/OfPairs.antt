-- The pairs of a select, one after the other: that their states are there and later, and that their values fit.
use mathlib.Core.Bool.{Bool, true, false, ◌&&◌}
use mathlib.Core.Path.{◌≡◌, refl, ◌∙◌}
use mathlib.Core.List.{List, [], ◌∷◌}
use Prim.Native.Nat.{ℕ, ◌+◌, ◌-◌, ◌*◌, ◌^◌, ◌≤◌, ◌<◌}
use native.Mathlib.Omega.{arith}
use lib.ListN.{length, get_or, get_elem?}
use lib.Dec.{ltb}
use mir.Val.{Fits}
use mir.Syntax.{w64}
use borrow.Author.Tests.{ltb-true, ltb-false}
use Rattle.std.specs.Prelude.{Ok, Err}
use Rattle.rules.specs.declared.Fault.{Fault}
use Rattle.rules.specs.Words.{fits_width}
use Rattle.rules.specs.Syntax.{Numeral, Pair, Program}
use Rattle.rules.specs.Form.{ok, fault, ◌>>=◌, named, need, only_if, later_state, judge_later, judge_pairs, values_fit}
use Rattle.rules.proofs.Predicates.{no_member}
use Rattle.program.proofs.Found.{member-at}
use Rattle.program.proofs.Views.{PairView, pair-view}
use Rattle.form.specs.Claims.{Formal, told_form}
use Rattle.form.specs.Parts.{Says}
use Rattle.form.specs.States.{JudgesLater, PairsAt, AsksPairs, JudgesPairs, AsksValues, JudgesValues}
use Rattle.form.proofs.Steps.{well-is, ill-is, held, Failed, failed}

-- a state that is there and later
later-is : (P : Program) (n : ℕ) (s : Numeral)
    → need 6 s.at (ltb n s.number && ltb s.number (length P.states)) ≡ judge_later P n s
unfolding need judge_later later_state only_if named ◌>>=◌
later-is P n s = go (ltb n s.number) (ltb s.number (length P.states)) refl
  where
    go : (a b : Bool) → ltb s.number (length P.states) ≡ b
        → need 6 s.at (a && b) ≡ (named s.at (only_if a (get_elem? P.states s.number)) >>= λ _. ok tt)
    go false b e = refl
    go true true e = rw (member-at P.states s.number (ltb-true s.number (length P.states) e)).is
    go true false e = rw (no_member P.states s.number (ltb-false s.number (length P.states) e))

pub later-judged : (nums directory : List ℕ) (n at : ℕ) (b : Bool) (r : Formal)
    → b ≡ (ltb n (get_or nums at 0) && ltb (get_or nums at 0) (get_or directory 70 0)) → Says r (need 6 at b)
    → JudgesLater nums directory n at r
later-judged nums directory n at b r e w = record {
  judged = λ ends P end s p h.
      w.judged
      ∙ rw (e, h.holds.is, p.states.count, ← h.index) (later-is P n s);
}

pub ruleset later = (later-judged)

-- those behind the first
rest_of : {nums : List ℕ} {at count : ℕ} {ps : List Pair} (v : PairView nums at count ps)
    → PairsAt nums (at + 2) (count - 1) v.others
rest_of v = record { stand = v.rest; counted = v.fewer }

-- their states
module _ (nums directory : List ℕ) (n at count : ℕ) where
  pub pairs-none : count ≡ 0 → JudgesPairs nums directory n at count (Ok tt)
  unfolding told_form judge_pairs
  pairs-none e = record { judged = λ ends P end ps s h. go P ps h.counted }
    where
      go : (P : Program) (ps : List Pair) → count ≡ length ps → told_form (Ok tt) ≡ judge_pairs P n ps
      go P [] c = refl
      go P (p ∷ ps) c = absurd (omega (arith, e, c))

  module _ (more : count ≡ 0 → ⊥) where
    pub stop-here : (wrong : Fault) → JudgesLater nums directory n (at + 1) (Err wrong)
        → JudgesPairs nums directory n at count (Err wrong)
    unfolding told_form judge_pairs ◌>>=◌
    stop-here wrong j = record {
      judged = λ ends P end ps s h.
          let p : PairView nums at count ps = pair-view ps h.stand h.counted more in
          rw (p.same, ill-is _ wrong (j.judged ends P end p.first.state s p.state));
    }

    pub later-here : (r : Formal) → JudgesLater nums directory n (at + 1) (Ok tt)
        → JudgesPairs nums directory n (at + 2) (count - 1) r → JudgesPairs nums directory n at count r
    unfolding judge_pairs ◌>>=◌
    later-here r j m = record {
      judged = λ ends P end ps s h.
          let p : PairView nums at count ps = pair-view ps h.stand h.counted more in
          rw (p.same, well-is _ (j.judged ends P end p.first.state s p.state))
          (m.judged ends P end p.others s (rest_of p));
    }

-- so many lead to later states
pub record Leading (nums directory : List ℕ) (n at count done : ℕ) : Type 0 where
  asks : AsksPairs nums (at + 2 * done) (count - done)
  rest : (r : Formal) → JudgesPairs nums directory n (at + 2 * done) (count - done) r
      → JudgesPairs nums directory n at count r

-- a pair of those that are left
module _ (nums : List ℕ) (at count done : ℕ) (h : AsksPairs nums (at + 2 * done) (count - done)) (l : done < count) where
  abbrev some_left : count - done ≡ 0 → ⊥
  some_left z = omega (arith, z, l)

  some_pair : PairView nums (at + 2 * done) (count - done) h.pairs
  some_pair = pair-view h.pairs h.stand.stand h.stand.counted some_left

  pair-inside : at + 2 * done + 1 < length nums
  pair-inside = some_pair.state.holds.inside

  pub pair_small : at + 2 * done + 2 < 2 ^ 64
  pair_small = omega (arith, pair-inside, h.numbers)

  pub pairs-left : AsksPairs nums (at + 2 * (done + 1)) (count - (done + 1))
  pairs-left =
      let a : at + 2 * (done + 1) ≡ at + 2 * done + 2 = omega arith in
      let c : count - (done + 1) ≡ count - done - 1 = omega arith in
      rw (a, c) (record { pairs = some_pair.others; stand = rest_of some_pair; numbers = h.numbers })

module _ (nums directory : List ℕ) (n at count : ℕ) where
  pub pairs-first : AsksPairs nums at count → Leading nums directory n at count 0
  pairs-first h =
      let a : at + 2 * 0 ≡ at = omega arith in
      let c : count - 0 ≡ count = omega arith in
      record { asks = rw (a, c) h; rest = λ r j. rw (a, c) at j }

  module _ (done : ℕ) (e : Leading nums directory n at count done) where
    pub pairs-done : count ≤ done → JudgesPairs nums directory n at count (Ok tt)
    pairs-done l =
        e.rest (Ok tt) (pairs-none nums directory n (at + 2 * done) (count - done) (omega (arith, l)))

    module _ (l : done < count) where
      pub state-inside : at + 2 * done + 1 < length nums
      state-inside = pair-inside nums at count done e.asks l

      pub state-double : Fits w64 (2 * done)
      state-double = record { fits = omega (arith, state-inside, e.asks.numbers) }

      pub state-small : Fits w64 (at + 2 * done)
      state-small = record { fits = omega (arith, state-inside, e.asks.numbers) }

      pub state-next : at + 2 * done + 1 < 2 ^ 64
      state-next = omega (arith, state-inside, e.asks.numbers)

      pub pairs-stop : (wrong : Fault) → JudgesLater nums directory n (at + 2 * done + 1) (Err wrong)
          → JudgesPairs nums directory n at count (Err wrong)
      pairs-stop wrong j =
          e.rest (Err wrong) (stop-here nums directory n (at + 2 * done) (count - done)
          (some_left nums at count done e.asks l) wrong j)

      pub pairs_next : JudgesLater nums directory n (at + 2 * done + 1) (Ok tt)
          → Leading nums directory n at count (done + 1)
      pairs_next j =
          let a : at + 2 * (done + 1) ≡ at + 2 * done + 2 = omega arith in
          let c : count - (done + 1) ≡ count - done - 1 = omega arith in
          record {
            asks = pairs-left nums at count done e.asks l;
            rest = λ r m. e.rest r (later-here nums directory n (at + 2 * done) (count - done)
                (some_left nums at count done e.asks l) r j (rw (a, c) at m));
          }

pub ruleset pairs = (
  pairs-first,
  pairs-done,
  state-inside,
  state-double,
  state-small,
  state-next,
  pairs-stop,
  pairs_next,
)

-- their values
module _ (nums : List ℕ) (width at count : ℕ) where
  pub values-none : count ≡ 0 → JudgesValues nums width at count (Ok tt)
  unfolding told_form values_fit
  values-none e = record { judged = λ ps h. go ps h.counted }
    where
      go : (ps : List Pair) → count ≡ length ps → told_form (Ok tt) ≡ values_fit width ps
      go [] c = refl
      go (p ∷ ps) c = absurd (omega (arith, e, c))

  module _ (more : count ≡ 0 → ⊥) (fit : Bool) (is : fit ≡ fits_width width (get_or nums at 0)) where
    pub unfit-here : (r : Formal) → told_form r ≡ fault 7 at → fit ≡ false → JudgesValues nums width at count r
    unfolding values_fit need ◌>>=◌
    unfit-here r f e = record {
      judged = λ ps h.
          let p : PairView nums at count ps = pair-view ps h.stand h.counted more in
          f ∙ rw (p.same, ← p.value.holds.is, ← is, e, p.value.index);
    }

    pub fit-here : (r : Formal) → fit ≡ true → JudgesValues nums width (at + 2) (count - 1) r
        → JudgesValues nums width at count r
    unfolding values_fit need ◌>>=◌
    fit-here r e m = record {
      judged = λ ps h.
          let p : PairView nums at count ps = pair-view ps h.stand h.counted more in
          rw (p.same, ← p.value.holds.is, ← is, e) (m.judged p.others (rest_of p));
    }

-- so many values fit
pub record Fitting (nums : List ℕ) (width at count done : ℕ) : Type 0 where
  asks : AsksPairs nums (at + 2 * done) (count - done)
  rest : (r : Formal) → JudgesValues nums width (at + 2 * done) (count - done) r → JudgesValues nums width at count r

module _ (nums : List ℕ) (width at count : ℕ) where
  module _ (h : AsksValues nums width at count) where
    pub values-most : width ≤ 64
    values-most = h.most

    pub values-first : Fitting nums width at count 0
    values-first =
        let a : at + 2 * 0 ≡ at = omega arith in
        let c : count - 0 ≡ count = omega arith in
        record { asks = rw (a, c) h.asks; rest = λ r j. rw (a, c) at j }

  module _ (done : ℕ) (e : Fitting nums width at count done) where
    pub values-done : count ≤ done → JudgesValues nums width at count (Ok tt)
    values-done l = e.rest (Ok tt) (values-none nums width (at + 2 * done) (count - done) (omega (arith, l)))

    module _ (l : done < count) where
      pub value-inside : at + 2 * done < length nums
      value-inside = omega (arith, pair-inside nums at count done e.asks l)

      pub value-double : Fits w64 (2 * done)
      value-double = record { fits = omega (arith, value-inside, e.asks.numbers) }

      pub value-small : Fits w64 (at + 2 * done)
      value-small = record { fits = omega (arith, value-inside, e.asks.numbers) }

      pub values-small : at + 2 * done + 2 < 2 ^ 64
      values-small = pair_small nums at count done e.asks l

      module _ (fit : Bool) (is : fit ≡ fits_width width (get_or nums (at + 2 * done) 0)) where
        pub values-unfit : (wrong : Fault) → Says (Err wrong) (need 7 (at + 2 * done) fit)
            → JudgesValues nums width at count (Err wrong)
        unfolding told_form
        values-unfit wrong s =
            let z : Failed 7 (at + 2 * done) fit wrong = failed 7 (at + 2 * done) fit wrong s in
            e.rest (Err wrong) (unfit-here nums width (at + 2 * done) (count - done)
            (some_left nums at count done e.asks l) fit is (Err wrong) z.told z.not_so)

        pub values-next : Says (Ok tt) (need 7 (at + 2 * done) fit) → Fitting nums width at count (done + 1)
        values-next s =
            let a : at + 2 * (done + 1) ≡ at + 2 * done + 2 = omega arith in
            let c : count - (done + 1) ≡ count - done - 1 = omega arith in
            record {
              asks = pairs-left nums at count done e.asks l;
              rest = λ r m. e.rest r (fit-here nums width (at + 2 * done) (count - done)
                  (some_left nums at count done e.asks l) fit is r (held 7 (at + 2 * done) fit s) (rw (a, c) at m));
            }

pub ruleset values = (
  values-most,
  values-first,
  values-done,
  value-inside,
  value-double,
  value-small,
  values-unfit,
  values-next,
)
