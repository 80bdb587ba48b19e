-- Expressions: what each part asks, and what the whole then comes to.
use Rattle.program.specs.declared.Scope as coded
use mathlib.Core.Bool.{Bool, true, false}
use mathlib.Core.Option.{some}
use mathlib.Core.Path.{◌≡◌, refl, ◌∙◌, sym, ap}
use mathlib.Core.List.{List, []}
use Prim.Native.Nat.{ℕ, zero, suc, ◌+◌, ◌-◌, ◌*◌, ◌≤◌, ◌<◌, ◌^◌}
use native.Mathlib.Omega.{arith}
use lib.ListN.{length, get_or}
use borrow.Author.Tests.{ltb-true}
use Rattle.rules.specs.Syntax.{Ty, bool, bits, Value, value, arithmetic, order, shift, equality, logic, Logic, both, either, Expr, bool_literal, bits_literal, read_of, valid_of, negation, complement, binary, cast, slice, concatenation, call_expr}
use Rattle.rules.specs.Form.{fits, Scope}
use Rattle.rules.specs.Lists.{Entry, mark_of}
use Rattle.rules.specs.Running.{State, Seen, done, M, more, ◌>>=◌, pure, tick, or_stuck, choose, logic_with, a_bool, binary_with, truth}
use Rattle.program.specs.Codes.{ty_of}
use Rattle.program.specs.Stands.{StandsExpr}
use Rattle.program.proofs.Views.{expr-begins}
use Rattle.values.specs.declared.Value as values
use Rattle.values.specs.Claims.{value_of, IsValue, Gives, binary_on}
use Rattle.steps.specs.Outcomes.{Goes, counter_of, Ran, Gave, AsksCount, Counts}
use Rattle.steps.specs.Operands.{leaf_in, on_one, settles, settled_by, operator_on, stops_at, on_two, AsksLeaf, LeafGave, GivesLeaf, AsksOneOn, GivesOne, AsksStop, TellsStop, AsksTwoOn, GivesTwo}
use Rattle.steps.proofs.Going.{Begun, Known, not-nowhere, then-goes, rest_from, then_is, some-goes, some_is, ran-here, ran_then}
use Rattle.runner.specs.Runs.{calls_of, expr_in, Stage}
use Rattle.runner.specs.Forms.{LeafAt, OneIn, OneAt, pair_with, TwoIn, TwoAt}
use Rattle.runner.specs.Claims.{AsksExpr, RunsExpr, AsksLeafAt, AsksOne, AsksTwo, AsksValue}
use Rattle.runner.proofs.Rank.{rank, rank-lower}
use Rattle.runner.proofs.Stages.{count-asks, stage-counted, going-counted, ran-counted, stage-ran, going-rest}
use Rattle.runner.proofs.Forming.{not-form, complement-form, cast-form, slice-form, binary-form, joined-form, leaf-form}

-- the form of an expression, at a state
leaf-is : {nums ends : List ℕ} {depth at : ℕ} {e : Expr} (l : LeafAt nums ends depth at) (Γ : Scope) (used : ℕ)
    (s : State) → StandsExpr nums ends depth at e → expr_in Γ used e s ≡ tick (leaf_in Γ e) s
unfolding expr_in
leaf-is {e = e} l Γ used s w = rw (l.is e w Γ used (calls_of Γ)) refl

one-is : {nums ends : List ℕ} {depth first : ℕ} {e : Expr} (o : OneIn nums ends depth first e) (Γ : Scope) (used : ℕ)
    (s : State) → expr_in Γ used e s ≡ tick (expr_in Γ used o.operand >>= λ v. or_stuck (on_one e v)) s
unfolding expr_in
one-is o Γ used s = rw (o.is Γ used (calls_of Γ)) refl

two-is : {nums ends : List ℕ} {depth first : ℕ} {e : Expr} (o : TwoIn nums ends depth first e) (Γ : Scope) (used : ℕ)
    (s : State) → expr_in Γ used e s ≡ tick (pair_with e (expr_in Γ used o.left) (expr_in Γ used o.right)) s
unfolding expr_in
two-is o Γ used s = rw (o.is Γ used (calls_of Γ)) refl

-- no operand
module _ (nums directory ends : List ℕ) (scope : coded.Scope) (slots frame : List ℕ) (depth at : ℕ)
    (a : AsksLeafAt nums directory ends scope slots frame depth at) where
  leaf-going : Goes (counter_of slots) (tick (leaf_in a.asks.scope_of a.asks.expr) a.asks.state)
  leaf-going = rw (leaf-is a.leaf a.asks.scope_of a.asks.used a.asks.state a.asks.stands) at
      a.asks.going

  pub leaf-count : AsksCount slots
  leaf-count = count-asks a.asks.stage _ leaf-going

  pub leaf-asks : (slots₁ : List ℕ) → Counts slots slots₁
      → AsksLeaf nums directory ends scope slots₁ frame at
  leaf-asks slots₁ c = record {
    scope_of = a.asks.scope_of;
    state = a.asks.state;
    expr = a.asks.expr;
    depth = depth;
    counted = counter_of slots₁;
    scene = (stage-counted a.asks.stage c).scene;
    stands = a.asks.stands;
    going = going-counted a.asks.stage _ c leaf-going;
  }

  leaf-ran : (slots₁ : List ℕ) (ty number : ℕ) → Counts slots slots₁
      → GivesLeaf nums directory ends scope slots₁ frame at ty number
      → (Γ : Scope) (used : ℕ) (es : List Entry) (s : State) (e : Expr)
      → Stage nums directory ends scope slots frame Γ used es s → StandsExpr nums ends depth at e
      → Goes (counter_of slots) (expr_in Γ used e s)
      → Ran nums directory ends scope slots slots₁ frame frame Γ (expr_in Γ used e s) (Gave ty number)
  leaf-ran slots₁ ty number c v Γ used es s e st w g =
      let same : expr_in Γ used e s ≡ tick (leaf_in Γ e) s = leaf-is a.leaf Γ used s w in
      let stage = stage-counted st c in
      let h : LeafGave s (leaf_in Γ e s) ty number
      = v.gives Γ s e depth (counter_of slots₁) stage.scene w (going-counted st (leaf_in Γ e) c (rw same at g)) in
      rw same (ran-counted st (leaf_in Γ e) c (ran-here s (value_of ty number) stage.scene h.is
      (record { is = refl; is_value = h.is_value })))

  pub leaf-runs : (slots₁ : List ℕ) (r : values.Value) → Counts slots slots₁
      → GivesLeaf nums directory ends scope slots₁ frame at r.ty r.number
      → RunsExpr nums directory ends scope slots slots₁ frame frame depth at r
  leaf-runs slots₁ r c v = record { runs = leaf-ran slots₁ r.ty r.number c v }

pub ruleset leaf_runs = (leaf-count, leaf-asks, leaf-runs)

-- one operand, at any stage
module _ {nums directory ends : List ℕ} {scope : coded.Scope} {slots slots₁ frame : List ℕ} {depth first : ℕ} {Γ : Scope}
    {used : ℕ} {es : List Entry} {s : State} {e : Expr} (o : OneIn nums ends depth first e)
    (st : Stage nums directory ends scope slots frame Γ used es s) (c : Counts slots slots₁)
    (g : Goes (counter_of slots) (expr_in Γ used e s)) where
  one-begun : Begun (counter_of slots₁) (expr_in Γ used o.operand) (λ v. or_stuck (on_one e v)) s
  one-begun = then-goes _ _ s (going-counted st _ c (rw (one-is o Γ used s) at g))

  module _ {slots₂ frame₂ : List ℕ} {v : values.Value}
      (h : Ran nums directory ends scope slots₁ slots₂ frame frame₂ Γ (expr_in Γ used o.operand s)
      (Gave v.ty v.number)) where
    one_known : Known (on_one e (value_of v.ty v.number))
    one_known = rw h.answers.is at (some-goes (on_one e h.answer) h.state
        (going-rest (stage-counted st c) (expr_in Γ used o.operand) (λ v. or_stuck (on_one e v)) one-begun h))

    one-ran : {ty number : ℕ} → Gives (on_one e (value_of v.ty v.number)) ty number
        → Ran nums directory ends scope slots slots₂ frame frame₂ Γ (expr_in Γ used e s) (Gave ty number)
    one-ran {ty} {number} k =
        let given : on_one e h.answer ≡ some (value_of ty number) = rw h.answers.is k.given in
        rw (one-is o Γ used s) (ran-counted st _ c (ran_then (expr_in Γ used o.operand) (λ v. or_stuck (on_one e v)) s h
        (ran-here h.state (value_of ty number) h.scene (some_is (on_one e h.answer) h.state given)
        (record { is = refl; is_value = k.is_value }))))

module _ (nums directory ends : List ℕ) (scope : coded.Scope) (slots frame : List ℕ) (depth at first : ℕ)
    (a : AsksOne nums directory ends scope slots frame depth at first) where
  one_form : OneIn nums ends depth first a.asks.expr
  one_form = a.one.one a.asks.expr a.asks.stands

  pub one-count : AsksCount slots
  one-count = count-asks a.asks.stage _
      (rw (one-is one_form a.asks.scope_of a.asks.used a.asks.state) at a.asks.going)

  pub one-low : first < 2 ^ 64
  one-low = omega (arith, (expr-begins one_form.stands).inside, a.asks.stage.scene.scopes.program.numbers)

  pub one-levels : 1 ≤ depth
  one-levels = (expr-begins a.asks.stands).levels

  pub one-fall : (t : ℕ) → rank (scope.reach) (32 * depth + 19) ≡ t
      → rank (scope.reach) (32 * (depth - 1) + 20) < t
  one-fall t e = rank-lower t (scope.reach) (32 * depth + 19) (32 * (depth - 1) + 20) e (omega (arith, one-levels))

  module _ (slots₁ : List ℕ) (c : Counts slots slots₁) where
    pub one-operand : AsksExpr nums directory ends scope slots₁ frame (depth - 1) first
    one-operand = record {
      scope_of = a.asks.scope_of;
      used = a.asks.used;
      entry_list = a.asks.entry_list;
      state = a.asks.state;
      expr = one_form.operand;
      stage = stage-counted a.asks.stage c;
      stands = one_form.stands;
      deep = omega (arith, a.asks.deep);
      going = (one-begun one_form a.asks.stage c a.asks.going).first;
    }

    module _ (slots₂ frame₂ : List ℕ) (v : values.Value)
        (r : RunsExpr nums directory ends scope slots₁ slots₂ frame frame₂ (depth - 1) first v)
      where
        operand-ran : (Γ : Scope) (used : ℕ) (es : List Entry) (s : State) (e : Expr) (o : OneIn nums ends depth first e)
            → Stage nums directory ends scope slots frame Γ used es s
            → Goes (counter_of slots) (expr_in Γ used e s)
            → Ran nums directory ends scope slots₁ slots₂ frame frame₂ Γ (expr_in Γ used o.operand s)
            (Gave v.ty v.number)
        operand-ran Γ used es s e o st g =
            r.runs Γ used es s o.operand (stage-counted st c) o.stands (one-begun o st c g).first

        pub one_on : AsksOneOn nums at v.ty v.number
        one_on =
            let h = operand-ran a.asks.scope_of a.asks.used a.asks.entry_list a.asks.state a.asks.expr
            one_form a.asks.stage a.asks.going in
            let k = one_known one_form a.asks.stage c a.asks.going h in
            record {
              ends = ends;
              depth = depth;
              expr = a.asks.expr;
              answer = k.member;
              numbers = a.asks.stage.scene.scopes.program.numbers;
              stands = a.asks.stands;
              operand = h.answers.is_value;
              answered = k.is;
            }

        pub one-runs : (x : values.Value) → GivesOne nums at v.ty v.number x.ty x.number
            → RunsExpr nums directory ends scope slots slots₂ frame frame₂ depth at x
        one-runs x y = record {
          runs = λ Γ used es s e st w g.
              let o : OneIn nums ends depth first e = a.one.one e w in
              let h = operand-ran Γ used es s e o st g in
              let k = one_known o st c g h in
              one-ran o st c g h (y.gives ends depth e k.member w k.is);
        }

pub ruleset one_runs = (one-count, one-low, one-levels, one-fall, one-operand, one_on, one-runs)

-- two operands: what follows the first
unfoldable pub pair_after : Expr → Value → M State Value → M State Value
pair_after e v second = elim (stops_at e v) [
  | true ↦ pure v
  | false ↦ (second >>= λ u. or_stuck (on_two e v u))
]

pub data Fitting : Value → Type 0 where
  fitting : {ty number : ℕ} → IsValue ty number → Fitting (value_of ty number)

truth-one : (n : ℕ) → fits bool (suc n) ≡ true → suc n ≡ 1
unfolding fits
truth-one n e = omega (arith, ltb-true (suc n) 2 e)

pub value-fits : {t : Ty} {n : ℕ} {v : Value} → Fitting v → v ≡ value t n → fits t n ≡ true
unfolding value_of
value-fits {t} {n} (fitting {ty = ty} {number = number} h) e =
    let same : ty_of ty ≡ t = cc in
    let m : number ≡ n = cc in
    rw (same, m) at h.fit

module _ (second : M State Value) (s : State) (at : ℕ) (a b : Expr) (counted : ℕ) where
  both-after : (v : Value) → Goes counted (logic_with both v (second >>= λ u. or_stuck (a_bool u)) s)
      → logic_with both v (second >>= λ u. or_stuck (a_bool u)) s ≡ pair_after (binary at (logic both) a b) v second s
  unfolding logic_with choose pair_after stops_at settled_by settles on_two operator_on truth mark_of pure
  both-after (value bool zero) g = refl
  both-after (value bool (suc n)) g = refl
  both-after (value (bits width) n) g = not-nowhere s g

  either-after : (v : Value) → Fitting v → Goes counted (logic_with either v (second >>= λ u. or_stuck (a_bool u)) s)
      → logic_with either v (second >>= λ u. or_stuck (a_bool u)) s ≡ pair_after (binary at (logic either) a b) v second s
  unfolding logic_with choose pair_after stops_at settled_by settles on_two operator_on truth mark_of pure
  either-after (value bool zero) f g = refl
  either-after (value bool (suc n)) f g = rw (truth-one n (value-fits f refl)) refl
  either-after (value (bits width) n) f g = not-nowhere s g

-- the rules' pair is the first operand and what follows it
module _ (first second : M State Value) (s : State) (v : Value) (t : State) (seen : Seen) (counted : ℕ)
    (is : first s ≡ done v t seen) (f : Fitting v) where
  logic-equal : (at : ℕ) (o : Logic) (a b : Expr)
      → ((g : ℕ) → Goes g (logic_with o v (second >>= λ u. or_stuck (a_bool u)) t)
      → logic_with o v (second >>= λ u. or_stuck (a_bool u)) t ≡ pair_after (binary at (logic o) a b) v second t)
      → Goes counted ((first >>= λ v. logic_with o v (second >>= λ u. or_stuck (a_bool u))) s)
      → (first >>= λ v. logic_with o v (second >>= λ u. or_stuck (a_bool u))) s
      ≡ (first >>= λ v. pair_after (binary at (logic o) a b) v second) s
  logic-equal at o a b h g =
      let rest = rest_from first (λ v. logic_with o v (second >>= λ u. or_stuck (a_bool u))) s v t seen is
      (then-goes first (λ v. logic_with o v (second >>= λ u. or_stuck (a_bool u))) s g) in
      then_is first (λ v. logic_with o v (second >>= λ u. or_stuck (a_bool u))) s is
      ∙ (ap (more seen) (h (counted + length seen) rest)
      ∙ sym (then_is first (λ v. pair_after (binary at (logic o) a b) v second) s is))

  pair-equal : (e : Expr) → Goes counted (pair_with e first second s)
      → pair_with e first second s ≡ (first >>= λ v. pair_after e v second) s
  unfolding pair_with binary_with pair_after stops_at settled_by on_two operator_on binary_on
  pair-equal (bool_literal at n) g = not-nowhere s g
  pair-equal (bits_literal at width n) g = not-nowhere s g
  pair-equal (read_of at p) g = not-nowhere s g
  pair-equal (valid_of at n) g = not-nowhere s g
  pair-equal (negation at a) g = not-nowhere s g
  pair-equal (complement at a) g = not-nowhere s g
  pair-equal (binary at (arithmetic o) a b) g = refl
  pair-equal (binary at (order o) a b) g = refl
  pair-equal (binary at (shift o) a b) g = refl
  pair-equal (binary at (equality o) a b) g = refl
  pair-equal (binary at (logic both) a b) g =
      logic-equal at both a b (λ n k. both-after second t at a b n v k) g
  pair-equal (binary at (logic either) a b) g =
      logic-equal at either a b (λ n k. either-after second t at a b n v f k) g
  pair-equal (cast at width a) g = not-nowhere s g
  pair-equal (slice at high low a) g = not-nowhere s g
  pair-equal (concatenation at a b) g = refl
  pair-equal (call_expr at n xs) g = not-nowhere s g

pair-first : (first second : M State Value) (s : State) (counted : ℕ) (e : Expr)
    → Goes counted (pair_with e first second s) → Goes counted (first s)
unfolding pair_with binary_with
pair-first first second s counted (bool_literal at n) g = not-nowhere s g
pair-first first second s counted (bits_literal at width n) g = not-nowhere s g
pair-first first second s counted (read_of at p) g = not-nowhere s g
pair-first first second s counted (valid_of at n) g = not-nowhere s g
pair-first first second s counted (negation at a) g = not-nowhere s g
pair-first first second s counted (complement at a) g = not-nowhere s g
pair-first first second s counted (binary at (arithmetic o) a b) g = (then-goes first _ s g).first
pair-first first second s counted (binary at (order o) a b) g = (then-goes first _ s g).first
pair-first first second s counted (binary at (shift o) a b) g = (then-goes first _ s g).first
pair-first first second s counted (binary at (equality o) a b) g = (then-goes first _ s g).first
pair-first first second s counted (binary at (logic o) a b) g = (then-goes first _ s g).first
pair-first first second s counted (cast at width a) g = not-nowhere s g
pair-first first second s counted (slice at high low a) g = not-nowhere s g
pair-first first second s counted (concatenation at a b) g = (then-goes first _ s g).first
pair-first first second s counted (call_expr at n xs) g = not-nowhere s g

-- at any stage
after-stops : (e : Expr) (v : Value) (second : M State Value) (s : State) → stops_at e v ≡ true
    → pair_after e v second s ≡ done v s []
unfolding pair_after pure
after-stops e v second s q = rw (q, pair_after) refl

after-goes : (e : Expr) (v : Value) (second : M State Value) (s : State) → stops_at e v ≡ false
    → pair_after e v second s ≡ (second >>= λ u. or_stuck (on_two e v u)) s
unfolding pair_after
after-goes e v second s q = rw (q, pair_after) refl

module _ {nums directory ends : List ℕ} {scope : coded.Scope} {slots slots₁ frame : List ℕ} {depth first : ℕ} {Γ : Scope}
    {used : ℕ} {es : List Entry} {s : State} {e : Expr} (o : TwoIn nums ends depth first e)
    (st : Stage nums directory ends scope slots frame Γ used es s) (c : Counts slots slots₁)
    (g : Goes (counter_of slots) (expr_in Γ used e s)) where
  abbrev L : M State Value
  L = expr_in Γ used o.left

  abbrev R : M State Value
  R = expr_in Γ used o.right

  pair_goes : Goes (counter_of slots₁) (pair_with e L R s)
  pair_goes = going-counted st _ c (rw (two-is o Γ used s) at g)

  left-goes : Goes (counter_of slots₁) (L s)
  left-goes = pair-first L R s (counter_of slots₁) e pair_goes

  module _ {slots₂ frame₂ : List ℕ} {v : values.Value}
      (h : Ran nums directory ends scope slots₁ slots₂ frame frame₂ Γ (L s) (Gave v.ty v.number)) where
    abbrev w : Value
    w = value_of v.ty v.number

    after_equal : pair_with e L R s ≡ (L >>= λ x. pair_after e x R) s
    after_equal = pair-equal L R s h.answer h.state h.seen (counter_of slots₁) h.is
        (rw h.answers.is (fitting h.answers.is_value)) e pair_goes

    after-going : Goes (counter_of slots₂) (pair_after e w R h.state)
    after-going = rw h.answers.is at (going-rest (stage-counted st c) L (λ x. pair_after e x R)
        (then-goes L (λ x. pair_after e x R) s (rw after_equal at pair_goes)) h)

    -- what the whole comes to, from what follows the first
    whole-ran : {slots₃ frame₃ : List ℕ} {Answers : Value → Type 0}
        → Ran nums directory ends scope slots₂ slots₃ frame₂ frame₃ Γ (pair_after e w R h.state) Answers
        → Ran nums directory ends scope slots slots₃ frame frame₃ Γ (expr_in Γ used e s) Answers
    whole-ran {slots₃} {frame₃} {Answers} k =
        let there : Ran nums directory ends scope slots₂ slots₃ frame₂ frame₃ Γ
        (pair_after e h.answer R h.state) Answers
        = rw h.answers.is k in
        rw (two-is o Γ used s) (ran-counted st (pair_with e L R) c (rw after_equal (ran_then L (λ x. pair_after e x R) s
        h there)))

    stops-ran : stops_at e w ≡ true
        → Ran nums directory ends scope slots slots₂ frame frame₂ Γ (expr_in Γ used e s)
        (Gave v.ty v.number)
    stops-ran q = whole-ran (ran-here h.state w h.scene (after-stops e w R h.state q)
        (record { is = refl; is_value = h.answers.is_value }))

    module _ (q : stops_at e w ≡ false) where
      right-begun : Begun (counter_of slots₂) R (λ u. or_stuck (on_two e w u)) h.state
      right-begun = then-goes R (λ u. or_stuck (on_two e w u)) h.state
          (rw (after-goes e w R h.state q) at after-going)

      module _ {slots₃ frame₃ : List ℕ} {u : values.Value}
          (k : Ran nums directory ends scope slots₂ slots₃ frame₂ frame₃ Γ (R h.state)
          (Gave u.ty u.number)) where
        two-known : Known (on_two e w (value_of u.ty u.number))
        two-known = rw k.answers.is at (some-goes (on_two e w k.answer) k.state
            (going-rest (stage-ran (stage-counted st c) h) R (λ x. or_stuck (on_two e w x)) right-begun k))

        two-ran : {ty number : ℕ} → Gives (on_two e w (value_of u.ty u.number)) ty number
            → Ran nums directory ends scope slots slots₃ frame frame₃ Γ (expr_in Γ used e s) (Gave ty number)
        two-ran {ty} {number} y =
            let given : on_two e w k.answer ≡ some (value_of ty number) = rw k.answers.is y.given in
            whole-ran (rw (after-goes e w R h.state q) (ran_then R (λ x. or_stuck (on_two e w x)) h.state k
            (ran-here k.state (value_of ty number) k.scene (some_is (on_two e w k.answer) k.state given)
            (record { is = refl; is_value = y.is_value }))))

module _ (nums directory ends : List ℕ) (scope : coded.Scope) (slots frame : List ℕ) (depth at first : ℕ)
    (a : AsksTwo nums directory ends scope slots frame depth at first) where
  two-form : TwoIn nums ends depth first a.asks.expr
  two-form = a.two.two a.asks.expr a.asks.stands

  pub two-count : AsksCount slots
  two-count = count-asks a.asks.stage _
      (rw (two-is two-form a.asks.scope_of a.asks.used a.asks.state) at a.asks.going)

  pub two-low : first < 2 ^ 64
  two-low = omega (arith, (expr-begins two-form.left_stands).inside, a.asks.stage.scene.scopes.program.numbers)

  pub two-levels : 1 ≤ depth
  two-levels = (expr-begins a.asks.stands).levels

  pub two-fall : (t : ℕ) → rank (scope.reach) (32 * depth + 19) ≡ t
      → rank (scope.reach) (32 * (depth - 1) + 20) < t
  two-fall t e = rank-lower t (scope.reach) (32 * depth + 19) (32 * (depth - 1) + 20) e (omega (arith, two-levels))

  pub two-stop : AsksStop nums at
  two-stop = record {
    ends = ends;
    depth = depth;
    expr = a.asks.expr;
    numbers = a.asks.stage.scene.scopes.program.numbers;
    stands = a.asks.stands;
  }

  pub two-inside : first < length ends
  two-inside = omega (arith, (expr-begins two-form.left_stands).inside, a.asks.stage.scene.scopes.program.room)

  module _ (slots₁ : List ℕ) (c : Counts slots slots₁) where
    pub two-left : AsksExpr nums directory ends scope slots₁ frame (depth - 1) first
    two-left = record {
      scope_of = a.asks.scope_of;
      used = a.asks.used;
      entry_list = a.asks.entry_list;
      state = a.asks.state;
      expr = two-form.left;
      stage = stage-counted a.asks.stage c;
      stands = two-form.left_stands;
      deep = omega (arith, a.asks.deep);
      going = left-goes two-form a.asks.stage c a.asks.going;
    }

    module _ (slots₂ frame₂ : List ℕ) (v : values.Value)
        (r : RunsExpr nums directory ends scope slots₁ slots₂ frame frame₂ (depth - 1) first v)
      where
        left-ran : (Γ : Scope) (used : ℕ) (es : List Entry) (s : State) (e : Expr) (o : TwoIn nums ends depth first e)
            → Stage nums directory ends scope slots frame Γ used es s
            → Goes (counter_of slots) (expr_in Γ used e s)
            → Ran nums directory ends scope slots₁ slots₂ frame frame₂ Γ (expr_in Γ used o.left s)
            (Gave v.ty v.number)
        left-ran Γ used es s e o st g =
            r.runs Γ used es s o.left (stage-counted st c) o.left_stands (left-goes o st c g)

        pub two-stops : (q : Bool) → TellsStop nums at v.ty v.number q → q ≡ true
            → RunsExpr nums directory ends scope slots slots₂ frame frame₂ depth at v
        two-stops q y k = record {
          runs = λ Γ used es s e st w g.
              let o : TwoIn nums ends depth first e = a.two.two e w in
              let h = left-ran Γ used es s e o st g in
              stops-ran o st c g h (sym (y.tells ends depth e w) ∙ k);
        }

        module _ (q : Bool) (y : TellsStop nums at v.ty v.number q) (k : q ≡ false) where
          pub two-right : (second : ℕ) → second ≡ get_or ends first 0
              → AsksExpr nums directory ends scope slots₂ frame₂ (depth - 1) second
          two-right second same =
              let h = left-ran a.asks.scope_of a.asks.used a.asks.entry_list a.asks.state a.asks.expr
              two-form a.asks.stage a.asks.going in
              rw same (record {
                scope_of = a.asks.scope_of;
                used = a.asks.used;
                entry_list = a.asks.entry_list;
                state = h.state;
                expr = two-form.right;
                stage = stage-ran (stage-counted a.asks.stage c) h;
                stands = two-form.right_stands;
                deep = omega (arith, a.asks.deep);
                going = (right-begun two-form a.asks.stage c a.asks.going h
                    (sym (y.tells ends depth a.asks.expr a.asks.stands) ∙ k)).first;
              })

          module _ (slots₃ frame₃ : List ℕ) (u : values.Value) (second : ℕ) (same : second ≡ get_or ends first 0)
              (r₂ : RunsExpr nums directory ends scope slots₂ slots₃ frame₂ frame₃ (depth - 1)
              second u) where
            right-ran : (Γ : Scope) (used : ℕ) (es : List Entry) (s : State) (e : Expr)
                (o : TwoIn nums ends depth first e)
                → (w : StandsExpr nums ends depth at e)
                → (st : Stage nums directory ends scope slots frame Γ used es s)
                → (g : Goes (counter_of slots) (expr_in Γ used e s))
                → Ran nums directory ends scope slots₂ slots₃ frame₂ frame₃ Γ
                (expr_in Γ used o.right (left-ran Γ used es s e o st g).state) (Gave u.ty u.number)
            right-ran Γ used es s e o w st g =
                let h = left-ran Γ used es s e o st g in
                r₂.runs Γ used es h.state o.right (stage-ran (stage-counted st c) h) (rw same o.right_stands)
                (right-begun o st c g h (sym (y.tells ends depth e w) ∙ k)).first

            pub two-on : AsksTwoOn nums at v.ty v.number u.ty u.number
            two-on =
                let h = left-ran a.asks.scope_of a.asks.used a.asks.entry_list a.asks.state a.asks.expr
                two-form a.asks.stage a.asks.going in
                let l = right-ran a.asks.scope_of a.asks.used a.asks.entry_list a.asks.state
                a.asks.expr two-form a.asks.stands a.asks.stage a.asks.going in
                let n = two-known two-form a.asks.stage c a.asks.going h
                (sym (y.tells ends depth a.asks.expr a.asks.stands) ∙ k) l in
                record {
                  ends = ends;
                  depth = depth;
                  expr = a.asks.expr;
                  answer = n.member;
                  numbers = a.asks.stage.scene.scopes.program.numbers;
                  stands = a.asks.stands;
                  first = h.answers.is_value;
                  second = l.answers.is_value;
                  answered = n.is;
                }

            pub two-runs : (x : values.Value)
                → GivesTwo nums at v.ty v.number u.ty u.number x.ty x.number
                → RunsExpr nums directory ends scope slots slots₃ frame frame₃ depth at x
            two-runs x z = record {
              runs = λ Γ used es s e st w g.
                  let o : TwoIn nums ends depth first e = a.two.two e w in
                  let h = left-ran Γ used es s e o st g in
                  let l = right-ran Γ used es s e o w st g in
                  let m : stops_at e (value_of v.ty v.number) ≡ false = sym (y.tells ends depth e w) ∙ k in
                  let n = two-known o st c g h m l in
                  two-ran o st c g h m l (z.gives ends depth e n.member w l.answers.is_value n.is);
            }

pub ruleset two_runs =
    (two-count, two-low, two-levels, two-fall, two-stop, two-inside, two-left, two-stops, two-right, two-on, two-runs)

-- an expression by its tag
module _ (nums directory ends : List ℕ) (scope : coded.Scope) (slots frame : List ℕ) (depth at : ℕ)
    (a : AsksExpr nums directory ends scope slots frame depth at) where
  pub expr-inside : at < length nums
  expr-inside = (expr-begins a.stands).inside

  pub expr-leaf : LeafAt nums ends depth at
      → AsksLeafAt nums directory ends scope slots frame depth at
  expr-leaf l = record { asks = a; leaf = l }

  pub expr-one : (first : ℕ) → OneAt nums ends depth at first
      → AsksOne nums directory ends scope slots frame depth at first
  expr-one first o = record { asks = a; one = o }

  pub expr-two : (first : ℕ) → TwoAt nums ends depth at first
      → AsksTwo nums directory ends scope slots frame depth at first
  expr-two first o = record { asks = a; two = o }

  pub expr-value : get_or nums at 0 ≡ 13
      → AsksValue nums directory ends scope slots frame depth at
  expr-value q = record { asks = a; tagged = q }

pub expr-fall : (scope : coded.Scope) (depth t : ℕ) → rank (scope.reach) (32 * depth + 20) ≡ t
    → rank (scope.reach) (32 * depth + 19) < t
expr-fall scope depth t e = rank-lower t (scope.reach) (32 * depth + 20) (32 * depth + 19) e (omega arith)

pub ruleset expr_runs = (
  expr-inside,
  expr-leaf,
  expr-one,
  expr-two,
  expr-value,
  expr-fall,
  not-form,
  complement-form,
  cast-form,
  slice-form,
  binary-form,
  joined-form,
  leaf-form,
)
