-- The keys of a table: each is worked out, and its number kept once those behind it are.
use Rattle.program.specs.declared.Scope as coded
use mathlib.Core.Option.{some}
use mathlib.Core.Path.{◌≡◌, refl, ◌∙◌}
use mathlib.Core.List.{List, [], ◌∷◌}
use Prim.Native.Nat.{ℕ, ◌+◌, ◌-◌, ◌*◌, ◌<◌, ◌^◌}
use native.Mathlib.Omega.{arith}
use lib.ListN.{length, get_or, set, length-set}
use lib.Seq.{get_or-set_same, get_or-set_other}
use Rattle.rules.specs.Syntax.{Ty, bool, bits, Value, value, Key, Program}
use Rattle.rules.specs.Reading.{deepest}
use Rattle.rules.specs.Form.{apply_scope}
use Rattle.rules.specs.Lists.{Entry}
use Rattle.rules.specs.Running.{State, done, M, ◌>>=◌, pure, or_stuck, Worked, worked, run_keys}
use Rattle.program.specs.Codes.{ty_of}
use Rattle.program.specs.Stands.{StandsExpr, StandsKeys}
use Rattle.program.proofs.Views.{expr-begins}
use Rattle.values.specs.declared.Value as values
use Rattle.values.specs.Claims.{value_of}
use Rattle.steps.specs.Outcomes.{Goes, counter_of, Ran, Gave}
use Rattle.steps.proofs.Going.{Begun, Found, then-goes, some-then-goes, some-then-is, ran-here, ran_then}
use Rattle.runner.specs.Runs.{expr_in, keys_in, Stage}
use Rattle.runner.specs.Claims.{AsksExpr, RunsExpr, KeyNumbers, KeysAt, AsksKeys, RunsKeys}
use Rattle.runner.proofs.Rank.{rank, rank-lower}
use Rattle.runner.proofs.Stages.{stage-ran, going-rest}

-- one key, then the others
abbrev then_key : Program → ℕ → List Key → Worked → M State (List Worked)
then_key P used ks w = keys_in P used ks >>= λ ws. pure (w ∷ ws)

abbrev then_keys : Program → ℕ → List Key → Value → M State (List Worked)
then_keys P used ks v = or_stuck (worked v) >>= then_key P used ks

keys-split : (P : Program) (used : ℕ) (s : State) (k : Key) (ks : List Key)
    → keys_in P used (k ∷ ks) s ≡ (expr_in (apply_scope P) used k.expr >>= then_keys P used ks) s
unfolding keys_in expr_in run_keys
keys-split P used s k ks = refl

no_keys : (P : Program) (used : ℕ) (s : State) (ks : List Key) → ks ≡ [] → keys_in P used ks s ≡ done [] s []
unfolding keys_in run_keys pure
no_keys P used s ks e = rw e refl

-- the number of a key that is worked out is its value's
pub worked-number : (ty number : ℕ) (v : Value) (w : Worked) → Gave ty number v → worked v ≡ some w → number ≡ w.number
unfolding value_of
worked-number ty number v w g e = go (ty_of ty) (rw g.is at e)
  where
    go : (t : Ty) → worked (value t number) ≡ some w → number ≡ w.number
    go bool q = unfold worked in let z : ◌≡◌ {A = ℕ} 0 1 = cc in absurd (omega arith)
    go (bits width) q = unfold worked in
        let same : record { width = width; number = number } ≡ w = cc in
        rw (← same) refl

-- numbers in slots behind one that is written
numbers-kept : (keys : List ℕ) (j n m : ℕ) (ws : List Worked) → j < m → KeyNumbers keys m ws
    → KeyNumbers (set keys j n) m ws
unfolding KeyNumbers
numbers-kept keys j n m [] h k = tt
numbers-kept keys j n m (w ∷ ws) h k = (
  get_or-set_other keys j m n 0 (λ e. absurd (omega (arith, e))) ∙ k.0,
  numbers-kept keys j n (m + 1) ws (omega arith) k.1,
)

-- at any stage
module _ (P : Program) {nums directory ends : List ℕ} {scope : coded.Scope} {slots frame keys : List ℕ}
    {j from count : ℕ} {used : ℕ} {es : List Entry} {s : State} {k : Key} {ks : List Key}
    (st : Stage nums directory ends scope slots frame (apply_scope P) used es s)
    (w : KeysAt nums ends keys j from count (k ∷ ks))
    (g : Goes (counter_of slots) (keys_in P used (k ∷ ks) s)) where
  keys-begun : Begun (counter_of slots) (expr_in (apply_scope P) used k.expr) (then_keys P used ks) s
  keys-begun = then-goes _ _ s (rw (keys-split P used s k ks) at g)

  first-stands : StandsExpr nums ends deepest (from + 1) k.expr
  unfolding StandsKeys
  first-stands = w.stand.1.1.0

  module _ {slots₁ frame₁ : List ℕ} {v : values.Value}
      (h : Ran nums directory ends scope slots slots₁ frame frame₁ (apply_scope P)
      (expr_in (apply_scope P) used k.expr s) (Gave v.ty v.number)) where
    first-worked : Found (counter_of slots₁) (worked h.answer) (then_key P used ks) h.state
    first-worked = some-then-goes (worked h.answer) (then_key P used ks) h.state
        (going-rest st (expr_in (apply_scope P) used k.expr) (then_keys P used ks) keys-begun h)

    others-begun : Begun (counter_of slots₁) (keys_in P used ks) (λ ws. pure (first-worked.member ∷ ws)) h.state
    others-begun = then-goes _ _ h.state first-worked.rest

    others-at : KeysAt nums ends keys (j + 1) (get_or ends (from + 1) 0) (count - 1) ks
    unfolding StandsKeys
    others-at = record {
      stand = w.stand.1.1.1;
      counts = omega (arith, w.counts);
      slots = w.slots;
      inside = omega (arith, w.inside, w.counts);
    }

    module _ {slots₂ frame₂ : List ℕ} (keys₁ : List ℕ) (same : length keys₁ ≡ length keys)
        (r : Ran nums directory ends scope slots₁ slots₂ frame₁ frame₂ (apply_scope P)
        (keys_in P used ks h.state) (KeyNumbers keys₁ (j + 1))) where
      slot-inside : j < length keys₁
      slot-inside = omega (arith, same, w.slots, w.inside, w.counts)

      keys-ran : Ran nums directory ends scope slots slots₂ frame frame₂ (apply_scope P)
          (keys_in P used (k ∷ ks) s) (KeyNumbers (set keys₁ j v.number) j)
      unfolding KeyNumbers pure
      keys-ran =
          let number : v.number ≡ first-worked.member.number
          = worked-number v.ty v.number h.answer first-worked.member h.answers first-worked.is in
          let others : Ran nums directory ends scope slots₁ slots₂ frame₁ frame₂ (apply_scope P)
          (then_key P used ks first-worked.member h.state) (KeyNumbers (set keys₁ j v.number) j)
          = ran_then (keys_in P used ks) (λ ws. pure (first-worked.member ∷ ws)) h.state r
          (ran-here r.state (first-worked.member ∷ r.answer) r.scene refl (
            get_or-set_same keys₁ j v.number 0 slot-inside ∙ number,
            numbers-kept keys₁ j v.number (j + 1) r.answer (omega arith) r.answers,
          )) in
          let all : Ran nums directory ends scope slots₁ slots₂ frame₁ frame₂ (apply_scope P)
          (then_keys P used ks h.answer h.state) (KeyNumbers (set keys₁ j v.number) j)
          = rw (some-then-is (worked h.answer) (then_key P used ks) h.state first-worked.is) others in
          rw (keys-split P used s k ks) (ran_then (expr_in (apply_scope P) used k.expr) (then_keys P used ks) s h all)

-- keys that are not none
pub record Apart (nums ends keys : List ℕ) (j from count : ℕ) (P : Program) (used : ℕ) (s : State) (counted : ℕ)
    (all : List Key) : Type 0 where
  pub key : Key
  pub others : List Key
  pub at : KeysAt nums ends keys j from count (key ∷ others)
  pub going : Goes counted (keys_in P used (key ∷ others) s)
  pub is : all ≡ key ∷ others

apart : {nums ends keys : List ℕ} {j from count : ℕ} (P : Program) (used : ℕ) (s : State) {counted : ℕ} (all : List Key)
    → (count ≡ 0 → ⊥) → KeysAt nums ends keys j from count all → Goes counted (keys_in P used all s)
    → Apart nums ends keys j from count P used s counted all
apart P used s [] x w g = absurd (x w.counts)
apart P used s (k ∷ ks) x w g = record { key = k; others = ks; at = w; going = g; is = refl }

module _ (nums directory ends : List ℕ) (scope : coded.Scope) (slots frame keys : List ℕ) (j from count : ℕ) where
  module _ (a : AsksKeys nums directory ends scope slots frame keys j from count)
      (x : count ≡ 0 → ⊥) where
    parts : Apart nums ends keys j from count a.program a.used a.state (counter_of slots) a.key_list
    parts = apart a.program a.used a.state a.key_list x a.keyed a.going

    pub keys-expr : AsksExpr nums directory ends scope slots frame 32 (from + 1)
    keys-expr = record {
      scope_of = apply_scope a.program;
      used = a.used;
      entry_list = a.entry_list;
      state = a.state;
      expr = parts.key.expr;
      stage = a.stage;
      stands = first-stands a.program a.stage parts.at parts.going;
      deep = omega arith;
      going = (keys-begun a.program a.stage parts.at parts.going).first;
    }

    pub keys-next : from + 1 < 2 ^ 64
    keys-next = omega (
      arith,
      (expr-begins (first-stands a.program a.stage parts.at parts.going)).inside,
      a.stage.scene.scopes.program.numbers,
    )

    pub keys-inside : from + 1 < length ends
    keys-inside = omega (
      arith,
      (expr-begins (first-stands a.program a.stage parts.at parts.going)).inside,
      a.stage.scene.scopes.program.room,
    )

    pub keys-slot : j + 1 < 2 ^ 64
    keys-slot = omega (arith, a.keyed.inside)

    pub keys-fall : (t : ℕ) → rank (scope.reach) (1400 + count) ≡ t → rank (scope.reach) (1400 + (count - 1)) < t
    keys-fall t e = rank-lower t (scope.reach) (1400 + count) (1400 + (count - 1)) e (omega (arith, x))

    pub keys-rest : (slots₁ frame₁ : List ℕ) (v : values.Value) (next : ℕ)
        → RunsExpr nums directory ends scope slots slots₁ frame frame₁ 32 (from + 1) v
        → next ≡ get_or ends (from + 1) 0
        → AsksKeys nums directory ends scope slots₁ frame₁ keys (j + 1) next (count - 1)
    keys-rest slots₁ frame₁ v next r same =
        let h = r.runs (apply_scope a.program) a.used a.entry_list a.state parts.key.expr a.stage
        (first-stands a.program a.stage parts.at parts.going) (keys-begun a.program a.stage parts.at parts.going).first in
        rw same (record {
          program = a.program;
          used = a.used;
          entry_list = a.entry_list;
          state = h.state;
          key_list = parts.others;
          stage = stage-ran a.stage h;
          keyed = others-at a.program a.stage parts.at parts.going h;
          going = (others-begun a.program a.stage parts.at parts.going h).first;
        })

    pub keys-write : (slots₁ slots₂ frame₁ frame₂ keys₁ : List ℕ) (next : ℕ)
        → RunsKeys nums directory ends scope slots₁ slots₂ frame₁ frame₂ keys keys₁ (j + 1) next
        (count - 1)
        → j < length keys₁
    keys-write slots₁ slots₂ frame₁ frame₂ keys₁ next q =
        omega (arith, q.same, a.keyed.slots, a.keyed.inside, x)

  pub keys-runs : (slots₁ slots₂ frame₁ frame₂ keys₁ : List ℕ) (v : values.Value) (next : ℕ) → (count ≡ 0 → ⊥)
      → RunsExpr nums directory ends scope slots slots₁ frame frame₁ 32 (from + 1) v
      → next ≡ get_or ends (from + 1) 0
      → RunsKeys nums directory ends scope slots₁ slots₂ frame₁ frame₂ keys keys₁ (j + 1) next
      (count - 1)
      → RunsKeys nums directory ends scope slots slots₂ frame frame₂ keys
      (set keys₁ j v.number) j from count
  keys-runs slots₁ slots₂ frame₁ frame₂ keys₁ v next x r same q = record {
    same = length-set keys₁ j v.number ∙ q.same;
    before = λ i l. get_or-set_other keys₁ j i v.number 0 (λ e. absurd (omega (arith, e))) ∙ q.before i (omega arith);
    runs = λ P used es s ks st w g. whole P used es s ks st (apart P used s ks x w g);
  }
    where
      whole : (P : Program) (used : ℕ) (es : List Entry) (s : State) (ks : List Key)
          → Stage nums directory ends scope slots frame (apply_scope P) used es s
          → Apart nums ends keys j from count P used s (counter_of slots) ks
          → Ran nums directory ends scope slots slots₂ frame frame₂ (apply_scope P) (keys_in P used ks s)
          (KeyNumbers (set keys₁ j v.number) j)
      whole P used es s ks st p =
          let h = r.runs (apply_scope P) used es s p.key.expr st (first-stands P st p.at p.going)
          (keys-begun P st p.at p.going).first in
          let there : RunsKeys nums directory ends scope slots₁ slots₂ frame₁ frame₂ keys keys₁
          (j + 1) (get_or ends (from + 1) 0) (count - 1) = rw same at q in
          let k = there.runs P used es h.state p.others (stage-ran st h) (others-at P st p.at p.going h)
          (others-begun P st p.at p.going h).first in
          rw p.is (keys-ran P st p.at p.going h keys₁ q.same k)

  pub keys_none : count ≡ 0
      → RunsKeys nums directory ends scope slots slots frame frame keys keys j from count
  unfolding KeyNumbers
  keys_none e = record {
    same = refl;
    before = λ i l. refl;
    runs = λ P used es s ks st w g.
        ran-here s [] st.scene (no_keys P used s ks (empty ks (omega (arith, w.counts)))) tt;
  }
    where
      empty : (ks : List Key) → length ks ≡ 0 → ks ≡ []
      empty [] q = refl
      empty (k ∷ ks) q = absurd (omega arith)

pub key-fall : (scope : coded.Scope) (count t : ℕ) → rank (scope.reach) (1400 + count) ≡ t
    → rank (scope.reach) (32 * 32 + 20) < t
key-fall scope count t e = rank-lower t (scope.reach) (1400 + count) (32 * 32 + 20) e (omega arith)

pub ruleset keys_runs = (
  keys-expr,
  keys-next,
  keys-inside,
  keys-slot,
  keys-fall,
  keys-rest,
  keys-write,
  keys-runs,
  keys_none,
  key-fall,
)
