-- Keys: the type of each, one after the other, and that each is bits.
use mathlib.Core.Path.{◌≡◌, refl, sym, ◌∙◌}
use mathlib.Core.List.{List, [], ◌∷◌}
use Prim.Native.Nat.{ℕ, zero, suc, ◌+◌, ◌-◌, ◌^◌, ◌≤◌, ◌<◌}
use native.Mathlib.Omega.{arith}
use native.Mathlib.Numerals.{add-one}
use lib.ListN.{length, get_or, set}
use lib.Seq.{sets}
use Rattle.std.specs.Prelude.{Ok, Err, Some, None}
use Rattle.std.specs.Prelude.{Option as Optional}
use Rattle.rules.specs.declared.Fault.{Fault}
use Rattle.rules.specs.Answers.{number_of}
use Rattle.rules.specs.Syntax.{Ty, Key, Program}
use Rattle.rules.specs.Form.{Res, ok, fault, ◌>>=◌, judge_expr, width_at, apply_scope, judge_keys, keys_are_bits}
use Rattle.rules.specs.Lists.{width_of, key_width}
use Rattle.program.specs.Codes.{ty_of}
use Rattle.program.specs.Stands.{StandsProgram}
use Rattle.program.proofs.Firsts.{FirstKey, first_key}
use Rattle.program.proofs.Views.{expr-begins}
use Rattle.bodies.specs.Claims.{Typed, told_ty, AsksExpr, JudgesExpr}
use Rattle.form.specs.Claims.{key_widths}
use Rattle.form.specs.Parts.{AsksKey, JudgesKey, Keyed, told_keys, first_bool_of, WithFirst, KeysAt, AsksKeys, JudgesKeys}
use Rattle.program.proofs.Seen.{apply_slots, apply-scope}

-- the type of a key
module _ (nums directory ends : List ℕ) (at : ℕ) where
  pub key-asks : AsksKey nums directory ends at → AsksExpr nums directory ends (apply_slots directory) 32 at
  key-asks h = record {
    scope_of = apply_scope h.program;
    expr = h.expr;
    seen = apply-scope nums directory ends h.program h.end h.stands;
    stands = h.expr_stands;
  }

  pub key-judged : (r : Typed) → JudgesExpr nums directory ends (apply_slots directory) 32 at r
      → JudgesKey nums directory ends at r
  key-judged r j = record {
    judged = λ P end e s h. j.judged (apply_scope P) e (apply-scope nums directory ends P end s) h;
  }

pub ruleset typing = (key-asks, key-judged)

-- a key and those behind it: a bool is a fault once all are judged
no-width : (at t : ℕ) (later : Res (Unit {0})) → t ≡ 0 → (width_at at (ty_of t) >>= λ _. later) ≡ fault 7 at
unfolding ty_of width_at ◌>>=◌
no-width at t later e = rw e

some-width : (at t : ℕ) (later : Res (Unit {0})) → (t ≡ 0 → ⊥) → (width_at at (ty_of t) >>= λ _. later) ≡ later
unfolding ty_of width_at ◌>>=◌
some-width at zero later x = absurd (x refl)
some-width at (suc t) later x = refl

module _ (at t : ℕ) (rest : Keyed) where
  with-bool : (b : Optional ℕ) → rest ≡ Ok b → t ≡ 0 → WithFirst at t rest (Ok (Some at))
  unfolding told_keys ◌>>=◌
  with-bool b k e = record { judged = rw k (go b) }
    where
      go : (b : Optional ℕ)
          → ok (fault 7 at) ≡ (told_keys (Ok b) >>= λ later. ok (width_at at (ty_of t) >>= λ _. later))
      go None = rw (no-width at t (ok tt) e)
      go (Some index) = rw (no-width at t (fault 7 index) e)

  with-bits : (b : Optional ℕ) → rest ≡ Ok b → (t ≡ 0 → ⊥) → WithFirst at t rest (Ok b)
  unfolding told_keys ◌>>=◌
  with-bits b k x = record { judged = rw k (go b) }
    where
      go : (b : Optional ℕ)
          → told_keys (Ok b) ≡ (told_keys (Ok b) >>= λ later. ok (width_at at (ty_of t) >>= λ _. later))
      go None = rw (some-width at t (ok tt) x)
      go (Some index) = rw (some-width at t (fault 7 index) x)

  pub then-unkeyed : (wrong : Fault) → rest ≡ Err wrong → WithFirst at t rest (Err wrong)
  unfolding told_keys ◌>>=◌
  then-unkeyed wrong k = record { judged = rw k }

  -- all are bits only where those behind are
  rest-bits : (r : Keyed) → WithFirst at t rest r → r ≡ Ok None → rest ≡ Ok None
  unfolding told_keys ◌>>=◌
  rest-bits r w e = go rest (rw e at w.judged)
    where
      go : (b : Keyed) → told_keys (Ok None) ≡ (told_keys b >>= λ later. ok (width_at at (ty_of t) >>= λ _. later))
          → b ≡ Ok None
      go (Ok None) q = refl
      go (Ok (Some index)) q = split (width_at at (ty_of t)) q
        where
          split : (x : Res ℕ) → ok (ok (tt {0})) ≡ ok (x >>= λ _. fault 7 index)
              → ◌≡◌ {A = Keyed} (Ok (Some index)) (Ok None)
          split (ok width) q = let z : ◌≡◌ {A = ℕ} 0 1 = cc in absurd (omega arith)
          split (fault number i) q = let z : ◌≡◌ {A = ℕ} 0 1 = cc in absurd (omega arith)
      go (Err wrong) q = let z : ◌≡◌ {A = ℕ} 0 1 = cc in absurd (omega arith)

-- what is known of the keys before, with an answer for those behind
unfoldable joined : Optional ℕ → Keyed → Keyed
joined None r = r
joined (Some index) (Ok b) = Ok (Some index)
joined (Some index) (Err wrong) = Err wrong

with-next : (at t : ℕ) (r : Keyed) → WithFirst at t r (joined (first_bool_of None at t) r)
unfolding joined first_bool_of
with-next at zero (Ok b) = with-bool at 0 (Ok b) b refl refl
with-next at zero (Err wrong) = then-unkeyed at 0 (Err wrong) wrong refl
with-next at (suc t) (Ok b) = with-bits at (suc t) (Ok b) b refl (λ e. absurd (omega (arith, e)))
with-next at (suc t) (Err wrong) = then-unkeyed at (suc t) (Err wrong) wrong refl

joined-next : (b : Optional ℕ) (at t : ℕ) (r : Keyed)
    → joined b (joined (first_bool_of None at t) r) ≡ joined (first_bool_of b at t) r
unfolding joined first_bool_of
joined-next None at t r = refl
joined-next (Some index) at zero (Ok b) = refl
joined-next (Some index) at zero (Err wrong) = refl
joined-next (Some index) at (suc t) (Ok b) = refl
joined-next (Some index) at (suc t) (Err wrong) = refl

-- the first of two, by whether there is one before
module _ (before : Optional ℕ) (at t : ℕ) where
  pub first-before : (index : ℕ) → before ≡ Some index → Some index ≡ first_bool_of before at t
  unfolding first_bool_of
  first-before index e = rw e

  pub first-here : before ≡ None → t ≡ 0 → Some at ≡ first_bool_of before at t
  unfolding first_bool_of
  first-here e z = rw (e, z)

  pub first-none : before ≡ None → (t ≡ 0 → ⊥) → None ≡ first_bool_of before at t
  unfolding first_bool_of
  first-none e x = rw e (go t x)
    where
      go : (t : ℕ) → (t ≡ 0 → ⊥) → None ≡ first_bool_of None at t
      go zero x = absurd (x refl)
      go (suc t) x = refl

pub ruleset firsts = (first-before, first-here, first-none)

-- the keys behind the first
pub keys-behind : {nums ends : List ℕ} {at count : ℕ} {ks : List Key} → (o : FirstKey nums ends at count ks)
    → KeysAt nums ends (get_or ends (at + 1) 0) (count - 1) o.others
keys-behind o = record { stand = o.rest; counted = o.fewer }

-- a type's width
width-of : (t : ℕ) → width_of (ok (ty_of t)) ≡ t
unfolding width_of ty_of
width-of zero = refl
width-of (suc t) = refl

-- the keys, one after the other
module _ (nums directory ends : List ℕ) (at count slot : ℕ) (widths : List ℕ) where
  pub keys_none : count ≡ 0 → JudgesKeys nums directory ends at count slot widths widths (Ok None)
  unfolding told_keys judge_keys keys_are_bits key_widths ◌>>=◌
  keys_none e = record { judged = λ P end ks s h. go P ks h; laid = λ k P end ks s h. lay P ks h }
    where
      go : (P : Program) (ks : List Key) → KeysAt nums ends at count ks
          → told_keys (Ok None) ≡ (judge_keys (apply_scope P) ks >>= λ ts. ok (keys_are_bits ks ts))
      go P [] h = refl
      go P (k ∷ ks) h = absurd (omega (arith, e, h.counted))

      lay : (P : Program) (ks : List Key) → KeysAt nums ends at count ks → widths ≡ sets widths slot (key_widths P ks)
      lay P [] h = refl
      lay P (k ∷ ks) h = absurd (omega (arith, e, h.counted))

  module _ (more : count ≡ 0 → ⊥) where
    pub fault-here : (wrong : Fault) → JudgesKey nums directory ends (at + 1) (Err wrong)
        → JudgesKeys nums directory ends at count slot widths widths (Err wrong)
    unfolding told_keys told_ty judge_keys ◌>>=◌
    fault-here wrong j = record {
      judged = λ P end ks s h.
          let o : FirstKey nums ends at count ks = first_key nums ends at count ks h.stand h.counted more in
          let e : judge_expr (apply_scope P) o.first.expr ≡ fault (number_of wrong.reason) wrong.index
          = sym (j.judged P end o.first.expr s o.stands) in
          rw (o.same, e);
      laid = λ q P end ks s h. let z : ◌≡◌ {A = ℕ} 0 1 = cc in absurd (omega arith);
    }

    module _ (t : ℕ) (j : JudgesKey nums directory ends (at + 1) (Ok t)) where
      first-type : (P : Program) (end : ℕ) (ks : List Key) → StandsProgram nums directory ends P end
          → (o : FirstKey nums ends at count ks) → judge_expr (apply_scope P) o.first.expr ≡ ok (ty_of t)
      unfolding told_ty
      first-type P end ks s o = sym (j.judged P end o.first.expr s o.stands)

      both-judged : (x : Res (List Ty)) (first : Key) (others : List Key) (b : Res (Res (Unit {0}))) → first.at ≡ at
          → b ≡ (x >>= λ ts. ok (keys_are_bits others ts))
          → (b >>= λ later. ok (width_at (at + 1) (ty_of t) >>= λ _. later))
          ≡ ((x >>= λ ts. ok (ty_of t ∷ ts)) >>= λ ts. ok (keys_are_bits (first ∷ others) ts))
      unfolding keys_are_bits ◌>>=◌
      both-judged (ok ts) first others b i e = rw (e, i, add-one at)
      both-judged (fault number index) first others b i e = rw e

      pub judged-here : (b r : Keyed) (widths' : List ℕ)
          → JudgesKeys nums directory ends (get_or ends (at + 1) 0) (count - 1) (slot + 1) (set widths slot t) widths' b
          → WithFirst (at + 1) t b r → JudgesKeys nums directory ends at count slot widths widths' r
      unfolding judge_keys key_widths key_width ◌>>=◌
      judged-here b r widths' l w = record {
        judged = λ P end ks s h.
            let o : FirstKey nums ends at count ks = first_key nums ends at count ks h.stand h.counted more in
            w.judged
            ∙ rw (o.same, first-type P end ks s o)
            (both-judged (judge_keys (apply_scope P) o.others) o.first o.others (told_keys b) o.index
            (l.judged P end o.others s (keys-behind o)));
        laid = λ q P end ks s h.
            let o : FirstKey nums ends at count ks = first_key nums ends at count ks h.stand h.counted more in
            rw (o.same, first-type P end ks s o, width-of t)
            (rw (add-one slot) at (l.laid (rest-bits (at + 1) t b r w q) P end o.others s (keys-behind o)));
      }

-- so many keys are judged: those from an index on are left, and the first bool before them is known, if there is one
pub record Keying (nums directory ends : List ℕ) (at count slot : ℕ) (found : List ℕ) (done next : ℕ)
    (before : Optional ℕ) (now : List ℕ) : Type 0 where
  asks : AsksKeys nums directory ends next (count - done) (slot + done)
  rest : (r : Keyed) (last : List ℕ) → JudgesKeys nums directory ends next (count - done) (slot + done) now last r
      → JudgesKeys nums directory ends at count slot found last (joined before r)

module _ (nums directory ends : List ℕ) (at count slot : ℕ) (found : List ℕ) where
  pub keys-first : AsksKeys nums directory ends at count slot
      → Keying nums directory ends at count slot found 0 at None found
  unfolding joined
  keys-first h =
      let c : count - 0 ≡ count = omega arith in
      let s : slot + 0 ≡ slot = omega arith in
      record { asks = rw (c, s) h; rest = λ r last j. rw (c, s) at j }

  module _ (done next : ℕ) (before : Optional ℕ) (now : List ℕ)
      (e : Keying nums directory ends at count slot found done next before now) where
    pub keys-done : count ≤ done → JudgesKeys nums directory ends at count slot found now (Ok before)
    unfolding joined
    keys-done l = go before (e.rest (Ok None) now
        (keys_none nums directory ends next (count - done) (slot + done) now (omega (arith, l))))
      where
        go : (b : Optional ℕ) → JudgesKeys nums directory ends at count slot found now (joined b (Ok None))
            → JudgesKeys nums directory ends at count slot found now (Ok b)
        go None j = j
        go (Some index) j = j

    module _ (l : done < count) where
      abbrev some_left : count - done ≡ 0 → ⊥
      some_left z = omega (arith, z, l)

      asked : FirstKey nums ends next (count - done) e.asks.keys
      asked =
          first_key nums ends next (count - done) e.asks.keys e.asks.keys_stand.stand e.asks.keys_stand.counted some_left

      pub key-next : next + 1 < 2 ^ 64
      key-next = omega (arith, expr-begins asked.stands, e.asks.stands.numbers)

      pub key-ends : next + 1 < length ends
      key-ends = omega (arith, expr-begins asked.stands, e.asks.stands.room)

      pub key_here : AsksKey nums directory ends (next + 1)
      key_here = record {
        program = e.asks.program;
        end = e.asks.end;
        expr = asked.first.expr;
        stands = e.asks.stands;
        expr_stands = asked.stands;
      }

      pub keys-fault : (wrong : Fault) → JudgesKey nums directory ends (next + 1) (Err wrong)
          → JudgesKeys nums directory ends at count slot found now (Err wrong)
      unfolding joined
      keys-fault wrong j = go before (e.rest (Err wrong) now
          (fault-here nums directory ends next (count - done) (slot + done) now some_left wrong j))
        where
          go : (b : Optional ℕ) → JudgesKeys nums directory ends at count slot found now (joined b (Err wrong))
              → JudgesKeys nums directory ends at count slot found now (Err wrong)
          go None j = j
          go (Some index) j = j

      pub keys-judged : (t : ℕ) → JudgesKey nums directory ends (next + 1) (Ok t) → (first : Optional ℕ)
          → first ≡ first_bool_of before (next + 1) t
          → Keying nums directory ends at count slot found (done + 1) (get_or ends (next + 1) 0) first
          (set now (slot + done) t)
      keys-judged t j first f =
          let c : count - (done + 1) ≡ count - done - 1 = omega arith in
          let s : slot + (done + 1) ≡ slot + done + 1 = omega arith in
          record {
            asks = rw (c, s) (record {
              program = e.asks.program;
              end = e.asks.end;
              keys = asked.others;
              stands = e.asks.stands;
              keys_stand = keys-behind asked;
              slots = omega (arith, e.asks.slots, l);
            });
            rest = λ r last m. rw (f, ← joined-next before (next + 1) t r) (e.rest
                (joined (first_bool_of None (next + 1) t) r) last
                (judged-here nums directory ends next (count - done) (slot + done) now some_left t j r
                (joined (first_bool_of None (next + 1) t) r) last (rw (c, s) at m) (with-next (next + 1) t r)));
          }

pub ruleset keyed = (keys-first, keys-done, key-next, key-ends, key_here, keys-fault, keys-judged)
