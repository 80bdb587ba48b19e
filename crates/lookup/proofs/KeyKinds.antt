-- The kinds of a table's keys, and whether the longest prefix wins.
use mathlib.Core.Bool.{Bool, true, false, not}
use mathlib.Core.Path.{◌≡◌, refl, sym, ◌∙◌}
use mathlib.Core.List.{List, [], ◌∷◌}
use Prim.Native.Nat.{ℕ, ◌+◌, ◌-◌, ◌^◌, ◌≤◌, ◌<◌}
use native.Mathlib.Omega.{arith}
use lib.Dec.{eqb}
use lib.ListN.{length, get_or}
use borrow.Author.Tests.{eq-eqb, ne_eqb}
use Rattle.rules.specs.Syntax.{KeyKind, exact, lpm, ternary, Key}
use Rattle.rules.specs.Form.{is_lpm}
use Rattle.rules.specs.Running.{is_ternary, any_key, longest_wins}
use Rattle.program.specs.Codes.{key_kind_number}
use Rattle.program.specs.Stands.{StandsKeys}
use Rattle.program.proofs.Firsts.{FirstKey, first_key}
use Rattle.program.proofs.Views.{expr-begins}
use Rattle.lookup.specs.LookingUp.{AsksKeys, of_kind, TellsAny, TellsLongest}

module _ (nums ends : List ℕ) (from count : ℕ) (h : AsksKeys nums ends from count) (more : count ≡ 0 → ⊥) where
  asked-first : FirstKey nums ends from count h.key_list
  asked-first = first_key nums ends from count h.key_list h.stand h.counts more

  pub kind-inside : from < length nums
  kind-inside = asked-first.kind.inside

  pub ends-inside : from + 1 < length ends
  ends-inside = omega (arith, (expr-begins asked-first.stands).inside, h.room)

  pub from_next : from + 1 < 2 ^ 64
  from_next = omega (arith, (expr-begins asked-first.stands).inside, h.numbers)

  pub others-asked : AsksKeys nums ends (get_or ends (from + 1) 0) (count - 1)
  others-asked = record {
    key_list = asked-first.others;
    stand = asked-first.rest;
    counts = asked-first.fewer;
    numbers = h.numbers;
    room = h.room;
  }

module _ (nums ends : List ℕ) (number from count : ℕ) where
  pub none_is : count ≡ 0 → TellsAny nums ends number from count false
  unfolding any_key
  none_is e = record { told = go }
    where
      go : (ks : List Key) → StandsKeys nums ends from ks → count ≡ length ks → false ≡ any_key (of_kind number) ks
      go [] s c = refl
      go (k ∷ ks) s c = absurd (omega (arith, e, c))

  pub first-is : (count ≡ 0 → ⊥) → get_or nums from 0 ≡ number → TellsAny nums ends number from count true
  unfolding any_key of_kind
  first-is more e = record {
    told = λ ks s c. go (first_key nums ends from count ks s c more);
  }
    where
      go : {ks : List Key} → FirstKey nums ends from count ks → true ≡ any_key (of_kind number) ks
      go o = rw (o.same, eq-eqb _ number (sym o.kind.is ∙ e)) refl

  pub others-are : (r : Bool) → (count ≡ 0 → ⊥) → (get_or nums from 0 ≡ number → ⊥)
      → TellsAny nums ends number (get_or ends (from + 1) 0) (count - 1) r → TellsAny nums ends number from count r
  unfolding any_key of_kind
  others-are r more n t = record {
    told = λ ks s c. go (first_key nums ends from count ks s c more);
  }
    where
      go : {ks : List Key} → FirstKey nums ends from count ks → r ≡ any_key (of_kind number) ks
      go o = rw (o.same, ne_eqb _ number λ e. n (o.kind.is ∙ e)) (t.told o.others o.rest o.fewer)

-- the loop: what is told of the keys behind the first so many is told of all
pub record Seeking (nums ends : List ℕ) (number from count past key : ℕ) : Type 0 where
  pub asks : AsksKeys nums ends key (count - past)
  pub on : (r : Bool) → TellsAny nums ends number key (count - past) r → TellsAny nums ends number from count r

module _ (nums ends : List ℕ) (number from count : ℕ) where
  pub seek-start : AsksKeys nums ends from count → Seeking nums ends number from count 0 from
  seek-start a =
      let all : count - 0 ≡ count = omega arith in
      record { asks = rw all a; on = λ r h. rw all at h }

  module _ (past key : ℕ) (h : Seeking nums ends number from count past key) where
    pub seek-none : count ≤ past → TellsAny nums ends number from count false
    seek-none l = h.on false (none_is nums ends number key (count - past) (omega arith))

    module _ (l : past < count) where
      abbrev more : count - past ≡ 0 → ⊥
      more = λ e. absurd (omega (arith, e))

      pub seek-inside : key < length nums
      seek-inside = kind-inside nums ends key (count - past) h.asks more

      pub seek-ends : key + 1 < length ends
      seek-ends = ends-inside nums ends key (count - past) h.asks more

      pub seek_next : key + 1 < 2 ^ 64
      seek_next = from_next nums ends key (count - past) h.asks more

      pub seek-found : get_or nums key 0 ≡ number → TellsAny nums ends number from count true
      seek-found e = h.on true (first-is nums ends number key (count - past) more e)

      pub seek-on : (get_or nums key 0 ≡ number → ⊥)
          → Seeking nums ends number from count (past + 1) (get_or ends (key + 1) 0)
      seek-on n =
          let fewer : count - (past + 1) ≡ count - past - 1 = omega arith in
          record {
            asks = rw fewer (others-asked nums ends key (count - past) h.asks more);
            on = λ r u. h.on r
                (others-are nums ends number key (count - past) r more n (rw fewer at u));
          }

pub ruleset any-keys = (seek-start, seek-none, seek-inside, seek-ends, seek_next, seek-found, seek-on)

-- the kinds by their numbers
any-lpm : (ks : List Key) → any_key (of_kind 1) ks ≡ any_key is_lpm ks
unfolding any_key of_kind key_kind_number is_lpm
any-lpm [] = refl
any-lpm (k ∷ ks) = rw (one k.kind, any-lpm ks) refl
  where
    one : (kind : KeyKind) → eqb (key_kind_number kind) 1 ≡ is_lpm kind
    one exact = refl
    one lpm = refl
    one ternary = refl

any-ternary : (ks : List Key) → any_key (of_kind 2) ks ≡ any_key is_ternary ks
unfolding any_key of_kind key_kind_number is_ternary
any-ternary [] = refl
any-ternary (k ∷ ks) = rw (one k.kind, any-ternary ks) refl
  where
    one : (kind : KeyKind) → eqb (key_kind_number kind) 2 ≡ is_ternary kind
    one exact = refl
    one lpm = refl
    one ternary = refl

module _ (nums ends : List ℕ) (from count : ℕ) where
  pub no-lpm : (a : Bool) → TellsAny nums ends 1 from count a → a ≡ false → TellsLongest nums ends from count a
  unfolding longest_wins
  no-lpm a t e = record { told = λ ks s c. rw (← any-lpm ks, ← t.told ks s c, e) refl }

  pub some-lpm : (a b : Bool) → TellsAny nums ends 1 from count a → a ≡ true → TellsAny nums ends 2 from count b
      → TellsLongest nums ends from count (not b)
  unfolding longest_wins
  some-lpm a b t e u = record {
    told = λ ks s c. rw (← any-lpm ks, ← t.told ks s c, e, ← any-ternary ks, ← u.told ks s c) refl;
  }

pub ruleset longest = (no-lpm, some-lpm)
