-- Arguments: what goes in for one parameter, then for all of them.
use Rattle.program.specs.declared.Scope as coded
use mathlib.Core.Bool.{true, false, not, ◌||◌}
use mathlib.Core.Option.{some}
use mathlib.Core.Path.{◌≡◌, refl, ◌∙◌, sym}
use mathlib.Core.List.{List, [], ◌∷◌}
use Prim.Native.Nat.{ℕ, zero, suc, ◌+◌, ◌-◌, ◌*◌, ◌<◌, ◌^◌}
use native.Mathlib.Omega.{arith}
use lib.ListN.{length, get_or, set, length-set}
use lib.Seq.{get_or-set_same, get_or-set_other}
use Rattle.rules.specs.Syntax.{Value, value, Direction, by_none, by_in, by_out, by_inout, Expr, Args, no_args, arg, Parameter, place_in}
use Rattle.rules.specs.Form.{wants_place, goes_in, Scope}
use Rattle.rules.specs.Lists.{Entry}
use Rattle.rules.specs.Running.{State, done, M, ◌>>=◌, pure, tick, or_stuck, number_of, out_place, take_in, go_in, run_args}
use Rattle.rules.proofs.Predicates.{nil, cons}
use Rattle.rules.proofs.Fits.{zero-fits}
use Rattle.program.specs.Codes.{ty_of, direction_number, arg_count}
use Rattle.program.specs.Stands.{Holds, StandsExpr, StandsArgs, on-arg, StandsParameters}
use Rattle.program.proofs.Views.{expr-begins}
use Rattle.values.specs.declared.Value as values
use Rattle.values.specs.Claims.{value_of}
use Rattle.steps.specs.Outcomes.{Goes, counter_of, Ran, Gave, AsksCount, Counts}
use Rattle.steps.specs.Calls.{AsksKeep, Keeps}
use Rattle.steps.proofs.Going.{Begun, Known, not-nowhere, then-goes, must-then-goes, must-then-is, some-goes, some_is, ran-here, ran_then}
use Rattle.steps.proofs.Backs.{value-is}
use Rattle.runner.specs.Runs.{expr_in, args_in, Stage}
use Rattle.runner.specs.Claims.{AsksExpr, RunsExpr, arg_in, AsksArg, Went, RunsArg, ArgsAt, AsksArgs, Laying, RunsArgs}
use Rattle.runner.proofs.Rank.{rank, rank-lower}
use Rattle.runner.proofs.Stages.{count-asks, stage-counted, ran-counted, stage-ran, going-rest}
use Rattle.runner.proofs.Exprs.{value-fits, fitting}
use Rattle.runner.proofs.Parts.{scene-kept}

-- directions: out takes nothing in
out-is : (d : Direction) → direction_number d ≡ 2 → goes_in d ≡ false
unfolding direction_number goes_in
out-is by_none e = absurd (omega (arith, e))
out-is by_in e = absurd (omega (arith, e))
out-is by_out e = refl
out-is by_inout e = absurd (omega (arith, e))

in_is : (d : Direction) → (direction_number d ≡ 2 → ⊥) → goes_in d ≡ true
unfolding direction_number goes_in
in_is by_none x = refl
in_is by_in x = refl
in_is by_out x = absurd (x refl)
in_is by_inout x = refl

-- what an argument does, once its place is as it should be
module _ (Γ : Scope) (used : ℕ) (e : Expr) (p : Parameter) (s : State) (counted : ℕ)
    (g : Goes counted (arg_in Γ used e p s)) where
  asked : (not (wants_place p.direction) || out_place Γ p.ty (place_in e)) ≡ true
  unfolding arg_in go_in
  asked = (must-then-goes _ _ s g).0

  arg_is : arg_in Γ used e p s ≡ take_in (goes_in p.direction) p.ty (expr_in Γ used e) s
  unfolding arg_in go_in
  arg_is = must-then-is _ _ s asked

  out-arg : direction_number p.direction ≡ 2 → arg_in Γ used e p s ≡ tick (pure 0) s
  unfolding take_in
  out-arg q = arg_is ∙ rw (out-is p.direction q) refl

  in-arg : (direction_number p.direction ≡ 2 → ⊥)
      → arg_in Γ used e p s ≡ (expr_in Γ used e >>= λ v. or_stuck (number_of p.ty v)) s
  unfolding take_in
  in-arg x = arg_is ∙ rw (in_is p.direction x) refl

-- the number of a value that a parameter takes
number-went : (p : Parameter) (v : Value) (ty number n : ℕ) → Gave ty number v → number_of p.ty v ≡ some n
    → Went p number n
unfolding value_of
number-went p v ty number n h e =
    let is : value (ty_of ty) number ≡ value p.ty n = sym h.is ∙ value-is p.ty v n e in
    let same : n ≡ number = cc in
    record { is = same; fit = value-fits (fitting h.is_value) is }

module _ (nums directory ends : List ℕ) (scope : coded.Scope) (slots frame : List ℕ) (depth at parameters : ℕ) where
  module _ (a : AsksArg nums directory ends scope slots frame depth at parameters) where
    pub arg-inside : parameters < length nums
    arg-inside = a.direction.inside

    pub arg-count : get_or nums parameters 0 ≡ 2 → AsksCount slots
    arg-count q = count-asks a.stage (pure 0) (rw (out-arg a.scope_of a.used a.expr a.parameter a.state
        (counter_of slots) a.going (sym a.direction.is ∙ q)) at a.going)

    pub arg-expr : (get_or nums parameters 0 ≡ 2 → ⊥)
        → AsksExpr nums directory ends scope slots frame depth at
    arg-expr x = record {
      scope_of = a.scope_of;
      used = a.used;
      entry_list = a.entry_list;
      state = a.state;
      expr = a.expr;
      stage = a.stage;
      stands = a.stands;
      deep = a.deep;
      going = (then-goes _ _ a.state (rw (in-arg a.scope_of a.used a.expr a.parameter a.state
          (counter_of slots) a.going (λ q. x (a.direction.is ∙ q))) at a.going)).first;
    }

  pub arg-out : (slots₁ : List ℕ) → get_or nums parameters 0 ≡ 2 → Counts slots slots₁
      → RunsArg nums directory ends scope slots slots₁ frame frame depth at parameters 0
  unfolding pure
  arg-out slots₁ q c = record {
    runs = λ Γ used es s e p st w d g.
        rw (out-arg Γ used e p s (counter_of slots) g (sym d.is ∙ q))
        (ran-counted st (pure 0) c (ran-here s 0 (stage-counted st c).scene refl
        (record { is = refl; fit = zero-fits p.ty })));
  }

  pub arg-in : (slots₁ frame₁ : List ℕ) (v : values.Value) → (get_or nums parameters 0 ≡ 2 → ⊥)
      → RunsExpr nums directory ends scope slots slots₁ frame frame₁ depth at v
      → RunsArg nums directory ends scope slots slots₁ frame frame₁ depth at parameters
      v.number
  arg-in slots₁ frame₁ v x r = record {
    runs = λ Γ used es s e p st w d g.
        let same : arg_in Γ used e p s ≡ (expr_in Γ used e >>= λ u. or_stuck (number_of p.ty u)) s
        = in-arg Γ used e p s (counter_of slots) g (λ q. x (d.is ∙ q)) in
        let b : Begun (counter_of slots) (expr_in Γ used e) (λ u. or_stuck (number_of p.ty u)) s
        = then-goes _ _ s (rw same at g) in
        let h = r.runs Γ used es s e st w b.first in
        let k : Known (number_of p.ty h.answer) = some-goes (number_of p.ty h.answer) h.state
        (going-rest st (expr_in Γ used e) (λ u. or_stuck (number_of p.ty u)) b h) in
        rw same (ran_then (expr_in Γ used e) (λ u. or_stuck (number_of p.ty u)) s h
        (ran-here h.state k.member h.scene (some_is (number_of p.ty h.answer) h.state k.is)
        (number-went p h.answer v.ty v.number k.member h.answers k.is)));
  }

pub arg-fall : (scope : coded.Scope) (depth t : ℕ) → rank (scope.reach) (32 * depth + 21) ≡ t
    → rank (scope.reach) (32 * depth + 20) < t
arg-fall scope depth t e = rank-lower t (scope.reach) (32 * depth + 21) (32 * depth + 20) e (omega arith)

pub ruleset arg_runs = (arg-inside, arg-count, arg-expr, arg-out, arg-in, arg-fall)

-- one, then the others
abbrev pub then_others : Scope → ℕ → Args → List Parameter → ℕ → M State (List ℕ)
then_others Γ used xs ps n = args_in Γ used xs ps >>= λ ns. pure (n ∷ ns)

pub args-split : (Γ : Scope) (used : ℕ) (s : State) (e : Expr) (xs : Args) (p : Parameter) (ps : List Parameter)
    → args_in Γ used (arg e xs) (p ∷ ps) s ≡ (arg_in Γ used e p >>= then_others Γ used xs ps) s
unfolding args_in run_args arg_in expr_in
args-split Γ used s e xs p ps = refl

no-args-is : (Γ : Scope) (used : ℕ) (s : State) (xs : Args) (ps : List Parameter) (counted : ℕ)
    → Goes counted (args_in Γ used xs ps s) → 0 ≡ arg_count xs → (args_in Γ used xs ps s ≡ done [] s []) × (ps ≡ [])
unfolding args_in run_args arg_count pure
no-args-is Γ used s no_args [] counted g e = (refl, refl)
no-args-is Γ used s no_args (p ∷ ps) counted g e = not-nowhere s g
no-args-is Γ used s (arg a xs) ps counted g e = absurd (omega (arith, e))

-- what stands where
arg-first : {nums ends : List ℕ} {depth at : ℕ} {e : Expr} {xs : Args} → StandsArgs nums ends depth at (arg e xs)
    → StandsExpr nums ends depth at e × StandsArgs nums ends depth (get_or ends at 0) xs
arg-first (on-arg a s) = (a, s)

module _ {nums directory ends : List ℕ} {scope : coded.Scope} {slots frame : List ℕ} {depth at parameters count slot : ℕ}
    {Γ : Scope} {used : ℕ} {es : List Entry} {s : State} {e : Expr} {xs : Args} {p : Parameter} {ps : List Parameter}
    (st : Stage nums directory ends scope slots frame Γ used es s)
    (at-args : ArgsAt nums ends frame depth at parameters count slot Γ (arg e xs) (p ∷ ps))
    (g : Goes (counter_of slots) (args_in Γ used (arg e xs) (p ∷ ps) s)) where
  args-begun : Begun (counter_of slots) (arg_in Γ used e p) (then_others Γ used xs ps) s
  args-begun = then-goes _ _ s (rw (args-split Γ used s e xs p ps) at g)

  first-stands : StandsExpr nums ends depth at e
  first-stands = (arg-first at-args.stand).0

  first-direction : Holds nums parameters (direction_number p.direction)
  unfolding StandsParameters
  first-direction = at-args.parameters_stand.0

  first_runs : {slots₁ frame₁ : List ℕ} {n : ℕ}
      → RunsArg nums directory ends scope slots slots₁ frame frame₁ depth at parameters n
      → Ran nums directory ends scope slots slots₁ frame frame₁ Γ (arg_in Γ used e p s) (Went p n)
  first_runs r = r.runs Γ used es s e p st first-stands first-direction args-begun.first

  module _ {slots₁ frame₁ : List ℕ} {n : ℕ}
      (h : Ran nums directory ends scope slots slots₁ frame frame₁ Γ (arg_in Γ used e p s) (Went p n)) where
    others-begun : Begun (counter_of slots₁) (args_in Γ used xs ps) (λ ns. pure (h.answer ∷ ns)) h.state
    others-begun = then-goes _ _ h.state (going-rest st (arg_in Γ used e p) (then_others Γ used xs ps) args-begun h)

    others-at : ArgsAt nums ends frame₁ depth (get_or ends at 0) (parameters + 2) (count - 1) (slot + 1) Γ xs ps
    unfolding StandsParameters arg_count
    others-at = record {
      stand = (arg-first at-args.stand).1;
      parameters_stand = at-args.parameters_stand.1.1;
      counts = omega (arith, at-args.counts);
      own = omega (arith, at-args.own);
      inside = omega (arith, at-args.inside, at-args.counts, h.same);
    }

    others-run : {slots₂ frame₂ : List ℕ}
        → RunsArgs nums directory ends scope slots₁ slots₂ frame₁ frame₂ depth (get_or ends at 0)
        (parameters + 2) (count - 1) (slot + 1)
        → Ran nums directory ends scope slots₁ slots₂ frame₁ frame₂ Γ (args_in Γ used xs ps h.state)
        (Laying frame₂ (slot + 1) ps)
    others-run q = q.runs Γ used es h.state xs ps (stage-ran st h) others-at others-begun.first

    module _ {slots₂ frame₂ : List ℕ}
        (k : Ran nums directory ends scope slots₁ slots₂ frame₁ frame₂ Γ (args_in Γ used xs ps h.state)
        (Laying frame₂ (slot + 1) ps)) where
      slot-inside : slot < length frame₂
      unfolding arg_count
      slot-inside = omega (arith, at-args.inside, at-args.counts, h.same, k.same)

      kept-laid : (i : ℕ) → i < length (h.answer ∷ k.answer)
          → get_or (set frame₂ slot n) (slot + i) 0 ≡ get_or (h.answer ∷ k.answer) i 0
      kept-laid zero l =
          let z : slot + 0 ≡ slot = omega arith in
          rw z (get_or-set_same frame₂ slot n 0 slot-inside) ∙ sym h.answers.is
      kept-laid (suc i) l =
          let z : slot + suc i ≡ slot + 1 + i = omega arith in
          rw z (get_or-set_other frame₂ slot (slot + 1 + i) n 0 (λ q. absurd (omega (arith, q)))
          ∙ k.answers.laid.is i (omega arith))

      args-ran : Ran nums directory ends scope slots slots₂ frame (set frame₂ slot n) Γ
          (args_in Γ used (arg e xs) (p ∷ ps) s) (Laying (set frame₂ slot n) slot (p ∷ ps))
      unfolding pure
      args-ran = rw (args-split Γ used s e xs p ps) (ran_then (arg_in Γ used e p) (then_others Γ used xs ps) s h
          (ran_then (args_in Γ used xs ps) (λ ns. pure (h.answer ∷ ns)) h.state k (record {
            answer = h.answer ∷ k.answer;
            state = k.state;
            seen = [];
            is = refl;
            scene = scene-kept slot n k.scene at-args.own;
            counted = omega arith;
            same = length-set frame₂ slot n;
            answers = record {
              laid = record { is = kept-laid };
              fit = cons h.answers.fit k.answers.fit;
            };
          })))

-- arguments that are not none: the first apart
pub record Apart (nums ends frame : List ℕ) (depth at parameters count slot : ℕ) (Γ : Scope) (used : ℕ) (s : State)
    (counted : ℕ) (xs : Args) (ps : List Parameter) : Type 0 where
  pub expr : Expr
  pub others : Args
  pub parameter : Parameter
  pub list : List Parameter
  pub given : ArgsAt nums ends frame depth at parameters count slot Γ (arg expr others) (parameter ∷ list)
  pub going : Goes counted (args_in Γ used (arg expr others) (parameter ∷ list) s)
  pub args : xs ≡ arg expr others
  pub params : ps ≡ parameter ∷ list

apart : {nums ends frame : List ℕ} {depth at parameters count slot : ℕ} {Γ : Scope} (used : ℕ) (s : State)
    (counted : ℕ) (xs : Args) (ps : List Parameter) → (count ≡ 0 → ⊥)
    → ArgsAt nums ends frame depth at parameters count slot Γ xs ps → Goes counted (args_in Γ used xs ps s)
    → Apart nums ends frame depth at parameters count slot Γ used s counted xs ps
unfolding arg_count
apart used s counted no_args ps x w g = absurd (x w.counts)
apart used s counted (arg e xs) [] x w g = unfold args_in run_args in not-nowhere s g
apart used s counted (arg e xs) (p ∷ ps) x w g =
    record { expr = e; others = xs; parameter = p; list = ps; given = w; going = g; args = refl; params = refl }

module _ (nums directory ends : List ℕ) (scope : coded.Scope) (slots frame : List ℕ) (depth at parameters count slot : ℕ)
  where
    module _ (a : AsksArgs nums directory ends scope slots frame depth at parameters count slot)
        (x : count ≡ 0 → ⊥) where
      parts : Apart nums ends frame depth at parameters count slot a.scope_of a.used a.state (counter_of slots)
          a.args a.list
      parts = apart a.used a.state (counter_of slots) a.args a.list x a.given a.going

      pub args-first : AsksArg nums directory ends scope slots frame depth at parameters
      args-first = record {
        scope_of = a.scope_of;
        used = a.used;
        entry_list = a.entry_list;
        state = a.state;
        expr = parts.expr;
        parameter = parts.parameter;
        stage = a.stage;
        stands = first-stands a.stage parts.given parts.going;
        direction = first-direction a.stage parts.given parts.going;
        deep = a.deep;
        going = (args-begun a.stage parts.given parts.going).first;
      }

      pub args-next : at < length ends
      args-next = omega (
        arith,
        (expr-begins (first-stands a.stage parts.given parts.going)).inside,
        a.stage.scene.scopes.program.room,
      )

      pub args-list : parameters + 2 < 2 ^ 64
      args-list = omega (
        arith,
        (first-direction a.stage parts.given parts.going).inside,
        a.stage.scene.scopes.program.numbers,
      )

      pub args-slot : slot < length frame
      args-slot = omega (arith, a.given.inside, x)

      pub args-fall : (t : ℕ) → rank (scope.reach) (32 * depth + 22 + count) ≡ t
          → rank (scope.reach) (32 * depth + 22 + (count - 1)) < t
      args-fall t e = rank-lower t (scope.reach) (32 * depth + 22 + count) (32 * depth + 22 + (count - 1)) e
          (omega (arith, x))

      pub args-rest : (slots₁ frame₁ : List ℕ) (n next : ℕ)
          → RunsArg nums directory ends scope slots slots₁ frame frame₁ depth at parameters n
          → next ≡ get_or ends at 0
          → AsksArgs nums directory ends scope slots₁ frame₁ depth next (parameters + 2)
          (count - 1) (slot + 1)
      args-rest slots₁ frame₁ n next r same =
          let h = first_runs a.stage parts.given parts.going r in
          rw same (record {
            scope_of = a.scope_of;
            used = a.used;
            entry_list = a.entry_list;
            state = h.state;
            args = parts.others;
            list = parts.list;
            stage = stage-ran a.stage h;
            given = others-at a.stage parts.given parts.going h;
            few = omega (arith, a.few);
            deep = a.deep;
            going = (others-begun a.stage parts.given parts.going h).first;
          })

      pub args-keep : (slots₁ slots₂ frame₁ frame₂ : List ℕ) (n next : ℕ)
          → RunsArg nums directory ends scope slots slots₁ frame frame₁ depth at parameters n
          → next ≡ get_or ends at 0
          → RunsArgs nums directory ends scope slots₁ slots₂ frame₁ frame₂ depth next
          (parameters + 2) (count - 1) (slot + 1)
          → AsksKeep frame₂ slot
      args-keep slots₁ slots₂ frame₁ frame₂ n next r same q =
          let h = first_runs a.stage parts.given parts.going r in
          let k = others-run a.stage parts.given parts.going h (rw same at q) in
          record { inside = slot-inside a.stage parts.given parts.going h k }

    pub args-runs : (slots₁ slots₂ frame₁ frame₂ frame₃ : List ℕ) (n next : ℕ) → (count ≡ 0 → ⊥)
        → RunsArg nums directory ends scope slots slots₁ frame frame₁ depth at parameters n
        → next ≡ get_or ends at 0
        → RunsArgs nums directory ends scope slots₁ slots₂ frame₁ frame₂ depth next
        (parameters + 2) (count - 1) (slot + 1)
        → Keeps frame₂ frame₃ slot n
        → RunsArgs nums directory ends scope slots slots₂ frame frame₃ depth at parameters count slot
    args-runs slots₁ slots₂ frame₁ frame₂ frame₃ n next x r same q m = record {
      runs = λ Γ used es s xs ps st w g. whole Γ used es s xs ps st (apart used s (counter_of slots) xs ps x w g);
    }
      where
        whole : (Γ : Scope) (used : ℕ) (es : List Entry) (s : State) (xs : Args) (ps : List Parameter)
            → Stage nums directory ends scope slots frame Γ used es s
            → Apart nums ends frame depth at parameters count slot Γ used s (counter_of slots) xs ps
            → Ran nums directory ends scope slots slots₂ frame frame₃ Γ (args_in Γ used xs ps s)
            (Laying frame₃ slot ps)
        whole Γ used es s xs ps st p =
            let h = first_runs st p.given p.going r in
            let k = others-run st p.given p.going h (rw same at q) in
            rw (m.is, p.args, p.params) (args-ran st p.given p.going h k)

    pub args_none : count ≡ 0
        → RunsArgs nums directory ends scope slots slots frame frame depth at parameters count slot
    args_none e = record {
      runs = λ Γ used es s xs ps st w g.
          let none = no-args-is Γ used s xs ps (counter_of slots) g (sym e ∙ w.counts) in
          ran-here s [] st.scene none.0 (record {
            laid = record { is = λ i l. absurd (omega arith) };
            fit = rw none.1 nil;
          });
    }

pub argument-fall : (scope : coded.Scope) (depth count t : ℕ) → rank (scope.reach) (32 * depth + 22 + count) ≡ t
    → rank (scope.reach) (32 * depth + 21) < t
argument-fall scope depth count t e =
    rank-lower t (scope.reach) (32 * depth + 22 + count) (32 * depth + 21) e (omega arith)

pub ruleset args_runs = (
  args-first,
  args-next,
  args-list,
  args-slot,
  args-fall,
  args-rest,
  args-keep,
  args-runs,
  args_none,
  argument-fall,
)
