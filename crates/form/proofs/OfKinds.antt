-- The kinds of keys: at most one is lpm.
use mathlib.Core.Bool.{Bool, true, false, not, ◌&&◌, ◌||◌}
use mathlib.Core.Path.{◌≡◌, refl, sym, ◌∙◌}
use mathlib.Core.List.{List, [], ◌∷◌}
use Prim.Native.Nat.{ℕ, ◌+◌, ◌-◌, ◌^◌, ◌≤◌, ◌<◌}
use native.Mathlib.Omega.{arith}
use lib.ListN.{length, get_or}
use lib.Dec.{eqb}
use Rattle.std.specs.Prelude.{Ok, Err}
use Rattle.rules.specs.declared.Fault.{Fault}
use Rattle.rules.specs.Syntax.{KeyKind, exact, lpm, ternary, Key}
use Rattle.rules.specs.Form.{fault, ◌>>=◌, need, is_lpm, one_lpm}
use Rattle.program.specs.Codes.{key_kind_number}
use Rattle.program.proofs.Views.{expr-begins}
use Rattle.form.specs.Claims.{Formal, told_form}
use Rattle.form.specs.Parts.{Says, KeysAt, AsksKinds, JudgesKinds}
use Rattle.program.proofs.Firsts.{FirstKey, first_key}
use Rattle.form.proofs.OfKeys.{keys-behind}
use Rattle.form.proofs.Steps.{held, Failed, failed}

not-false : (b : Bool) → not b ≡ false → b ≡ true
not-false true e = refl
not-false false e = let z : ◌≡◌ {A = ℕ} 0 1 = cc in absurd (omega arith)

not-true : (b : Bool) → not b ≡ true → b ≡ false
not-true true e = let z : ◌≡◌ {A = ℕ} 0 1 = cc in absurd (omega arith)
not-true false e = refl

is-lpm : (k : KeyKind) (n : ℕ) → n ≡ key_kind_number k → eqb n 1 ≡ is_lpm k
unfolding key_kind_number is_lpm
is-lpm exact n e = rw e
is-lpm lpm n e = rw e
is-lpm ternary n e = rw e

module _ (nums ends : List ℕ) (at count : ℕ) (seen : Bool) where
  pub kinds-none : count ≡ 0 → JudgesKinds nums ends at count seen (Ok tt)
  unfolding told_form one_lpm
  kinds-none e = record { judged = go }
    where
      go : (ks : List Key) → KeysAt nums ends at count ks → told_form (Ok tt) ≡ one_lpm seen ks
      go [] h = refl
      go (k ∷ ks) h = absurd (omega (arith, e, h.counted))

  module _ (second : Bool) (more : count ≡ 0 → ⊥) (is : second ≡ (seen && eqb (get_or nums at 0) 1)) where
    second_is : (ks : List Key) (o : FirstKey nums ends at count ks) (b : Bool) → second ≡ b
        → (seen && is_lpm o.first.kind) ≡ b
    second_is ks o b e = rw (← is-lpm o.first.kind (get_or nums at 0) o.kind.is) (sym is ∙ e)

    pub second-here : (r : Formal) → told_form r ≡ fault 8 at → second ≡ true → JudgesKinds nums ends at count seen r
    unfolding one_lpm need ◌>>=◌
    second-here r f e = record {
      judged = λ ks h.
          let o : FirstKey nums ends at count ks = first_key nums ends at count ks h.stand h.counted more in
          f ∙ rw (o.same, second_is ks o true e, o.index);
    }

    pub fine-here : (later : Bool) (r : Formal) → second ≡ false → later ≡ (seen || eqb (get_or nums at 0) 1)
        → JudgesKinds nums ends (get_or ends (at + 1) 0) (count - 1) later r → JudgesKinds nums ends at count seen r
    unfolding one_lpm need ◌>>=◌
    fine-here later r e l j = record {
      judged = λ ks h.
          let o : FirstKey nums ends at count ks = first_key nums ends at count ks h.stand h.counted more in
          let m : later ≡ (seen || is_lpm o.first.kind)
          = l ∙ rw (is-lpm o.first.kind (get_or nums at 0) o.kind.is) in
          rw (o.same, second_is ks o false e) (rw m at (j.judged o.others (keys-behind o)));
    }

-- so many keys are looked at: those from an index on are left, and one before them is lpm or none
pub record Looked (nums ends : List ℕ) (at count done next : ℕ) (seen : Bool) : Type 0 where
  asks : AsksKinds nums ends next (count - done)
  rest : (r : Formal) → JudgesKinds nums ends next (count - done) seen r → JudgesKinds nums ends at count false r

module _ (nums ends : List ℕ) (at count : ℕ) where
  pub kinds-first : AsksKinds nums ends at count → Looked nums ends at count 0 at false
  kinds-first h =
      let c : count - 0 ≡ count = omega arith in
      record { asks = rw c h; rest = λ r j. rw c at j }

  module _ (done next : ℕ) (seen : Bool) (e : Looked nums ends at count done next seen) where
    pub kinds-done : count ≤ done → JudgesKinds nums ends at count false (Ok tt)
    kinds-done l = e.rest (Ok tt) (kinds-none nums ends next (count - done) seen (omega (arith, l)))

    module _ (l : done < count) where
      abbrev some_left : count - done ≡ 0 → ⊥
      some_left z = omega (arith, z, l)

      asked : FirstKey nums ends next (count - done) e.asks.keys
      asked =
          first_key nums ends next (count - done) e.asks.keys e.asks.keys_stand.stand e.asks.keys_stand.counted some_left

      pub kind-inside : next < length nums
      kind-inside = asked.kind.inside

      pub kind-next : next + 1 < 2 ^ 64
      kind-next = omega (arith, expr-begins asked.stands, e.asks.numbers)

      pub kind-ends : next + 1 < length ends
      kind-ends = omega (arith, expr-begins asked.stands, e.asks.room)

      module _ (second : Bool) (is : second ≡ (seen && eqb (get_or nums next 0) 1)) where
        pub kinds-second : (wrong : Fault) → Says (Err wrong) (need 8 next (not second))
            → JudgesKinds nums ends at count false (Err wrong)
        unfolding told_form
        kinds-second wrong s =
            let z : Failed 8 next (not second) wrong = failed 8 next (not second) wrong s in
            e.rest (Err wrong) (second-here nums ends next (count - done) seen second some_left is (Err wrong) z.told
            (not-false second z.not_so))

        pub kinds-next : (later : Bool) → Says (Ok tt) (need 8 next (not second))
            → later ≡ (seen || eqb (get_or nums next 0) 1)
            → Looked nums ends at count (done + 1) (get_or ends (next + 1) 0) later
        kinds-next later s q =
            let c : count - (done + 1) ≡ count - done - 1 = omega arith in
            record {
              asks = rw c (record {
                keys = asked.others;
                keys_stand = keys-behind asked;
                numbers = e.asks.numbers;
                room = e.asks.room;
              });
              rest = λ r j. e.rest r (fine-here nums ends next (count - done) seen second some_left is later r
                  (not-true second (held 8 next (not second) s)) q (rw c at j));
            }

pub ruleset kinds = (kinds-first, kinds-done, kind-inside, kind-next, kind-ends, kinds-second, kinds-next)
