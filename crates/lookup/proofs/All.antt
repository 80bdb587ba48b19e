-- The keys of a table against the patterns of an entry, the first and then the others.
use mathlib.Core.Bool.{Bool, true, false, false≢true}
use mathlib.Core.Path.{◌≡◌, refl, sym, ◌∙◌}
use mathlib.Core.List.{List, [], ◌∷◌}
use Prim.Native.Nat.{ℕ, ◌+◌, ◌-◌, ◌^◌, ◌≤◌, ◌<◌}
use native.Mathlib.Omega.{arith}
use lib.ListN.{length, get_or}
use Rattle.rules.specs.Syntax.{Key}
use Rattle.rules.specs.Lists.{Pattern}
use Rattle.rules.specs.Running.{Worked, pattern_fits, patterns_fit, matches_all, prefix_of}
use Rattle.rules.proofs.Predicates.{and_both}
use Rattle.program.specs.Stands.{StandsKeys}
use Rattle.program.proofs.Views.{expr-begins}
use Rattle.lists.specs.Listing.{pattern_size, patterns_size}
use Rattle.lists.specs.Stands.{StandsPatterns, on_none, on-pattern}
use Rattle.lookup.specs.Matching.{StandsAllWorked, widths_of, KeyPattern, AsksOne, prefix_behind, TellsOne, KeyPatterns, AsksMatch, Matched, matched, unmatched, TellsMatch}
use Rattle.lookup.specs.declared.Match.{Match}
use Rattle.std.specs.Prelude.{Option, Some, None, is_some, unwrap_or}
use Rattle.std.specs.Option.{option_or}

-- keys of which some are left have a first
record First (nums directory ends keys : List ℕ) (from count slot j at : ℕ) (ks : List Key) (ws : List Worked)
    (ps : List Pattern) : Type 0 where
  pub key : Key
  pub key_list : List Key
  pub worked : Worked
  pub worked_list : List Worked
  pub pattern : Pattern
  pub patterns : List Pattern
  pub same_worked : ws ≡ worked ∷ worked_list
  pub same_patterns : ps ≡ pattern ∷ patterns
  pub first : KeyPattern nums directory keys from slot j at key.kind worked pattern
  pub begins : from + 1 < length nums
  pub rest : KeyPatterns nums directory ends keys (get_or ends (from + 1) 0) (count - 1) (slot + 1) (j + 1)
      (at + pattern_size pattern) key_list worked_list patterns

first_of : (nums directory ends keys : List ℕ) (from count slot j at : ℕ) (ks : List Key) (ws : List Worked)
    (ps : List Pattern) → KeyPatterns nums directory ends keys from count slot j at ks ws ps → (count ≡ 0 → ⊥)
    → First nums directory ends keys from count slot j at ks ws ps
unfolding StandsKeys StandsAllWorked patterns_fit widths_of
first_of nums directory ends keys from count slot j at ks ws ps h more =
    go ks ws ps h.keys_stand h.counts h.worked h.patterns h.fits
  where
    go : (ks : List Key) (ws : List Worked) (ps : List Pattern) → StandsKeys nums ends from ks → count ≡ length ks
        → StandsAllWorked directory keys slot j ws → StandsPatterns nums at ks ps → patterns_fit (widths_of ws) ps ≡ true
        → First nums directory ends keys from count slot j at ks ws ps
    go [] ws ps s c w p f = absurd (more c)
    go (k ∷ ks) (w ∷ ws) (p ∷ ps) s c v (on-pattern q r) f =
        let b : (pattern_fits w.width p ≡ true) × (patterns_fit (widths_of ws) ps ≡ true)
        = and_both (pattern_fits w.width p) (patterns_fit (widths_of ws) ps) f in
        record {
          key = k;
          key_list = ks;
          worked = w;
          worked_list = ws;
          pattern = p;
          patterns = ps;
          same_worked = refl;
          same_patterns = refl;
          first = record { kind_is = s.1.0; worked = v.0; stands = q; fits = b.0 };
          begins = (expr-begins s.1.1.0).inside;
          rest = record {
            keys_stand = s.1.1.1;
            counts = omega (arith, c);
            worked = v.1;
            patterns = r;
            fits = b.1;
          };
        }
    go (k ∷ ks) [] (p ∷ ps) s c v q f = absurd (false≢true f)
    go (k ∷ ks) [] [] s c v q f = elim q [ ]
    go (k ∷ ks) (w ∷ ws) [] s c v p f = elim p [ ]

-- what the step over a key asks
module _ (nums directory ends keys : List ℕ) (from count slot j at : ℕ)
    (h : AsksMatch nums directory ends keys from count slot j at) (more : count ≡ 0 → ⊥)
  where
    asked-first : First nums directory ends keys from count slot j at h.key_list h.worked h.patterns
    asked-first =
        first_of nums directory ends keys from count slot j at h.key_list h.worked h.patterns h.stand more

    pub one-asked : AsksOne nums directory keys from slot j at
    one-asked = record {
      kind = asked-first.key.kind;
      key = asked-first.worked;
      pattern = asked-first.pattern;
      stands = asked-first.first;
      numbers = h.numbers;
      slots = omega (arith, h.slots, more);
      place = omega (arith, h.place, more);
    }

    pub ends-inside : from + 1 < length ends
    ends-inside = omega (arith, asked-first.begins, h.room)

    pub from_next : from + 1 < 2 ^ 64
    from_next = omega (arith, asked-first.begins, h.numbers)

    pub slot_next : slot + 1 < 2 ^ 64
    slot_next = omega (arith, h.slots, more)

    pub place-next : j + 1 < 2 ^ 64
    place-next = omega (arith, h.place, more)

    others-asked : (m l : Bool) (next prefix : ℕ) → TellsOne nums directory keys from slot j at m next l prefix
        → AsksMatch nums directory ends keys (get_or ends (from + 1) 0) (count - 1) (slot + 1) (j + 1) next
    others-asked m l next prefix t = record {
      key_list = asked-first.key_list;
      worked = asked-first.worked_list;
      patterns = asked-first.patterns;
      stand = rw (t.next_is _ _ _ asked-first.first) asked-first.rest;
      numbers = h.numbers;
      room = h.room;
      slots = omega (arith, h.slots, more);
      place = omega (arith, h.place, more);
    }

abbrev yes : ℕ → ℕ → Option Match
yes prefix next = Some (record { prefix = prefix; next = next })

-- what the steps tell
module _ (nums directory ends keys : List ℕ) (from count slot j at : ℕ) where
  pub none_told : count ≡ 0 → TellsMatch nums directory ends keys from count slot j at (yes 0 at)
  unfolding matches_all prefix_of patterns_size
  none_told e = record { told = λ ks ws ps h. go ks ws ps h.counts h.patterns }
    where
      go : (ks : List Key) (ws : List Worked) (ps : List Pattern) → count ≡ length ks → StandsPatterns nums at ks ps
          → Matched at ws ps (yes 0 at)
      go [] [] [] c on_none = matched {m = record { prefix = 0; next = at }} refl refl (omega arith)
      go [] (w ∷ ws) [] c on_none = matched {m = record { prefix = 0; next = at }} refl refl (omega arith)
      go [] [] (_ ∷ _) c p = elim p [ ]
      go [] (w ∷ ws) (_ ∷ _) c p = elim p [ ]
      go (k ∷ ks) ws ps c p = absurd (omega (arith, e, c))

  pub first-unmatched : (m l : Bool) (next prefix : ℕ) → (count ≡ 0 → ⊥)
      → TellsOne nums directory keys from slot j at m next l prefix → m ≡ false
      → TellsMatch nums directory ends keys from count slot j at None
  unfolding matches_all
  first-unmatched m l next prefix more t e = record { told = go }
    where
      missed : {ks : List Key} {ws : List Worked} {ps : List Pattern}
          → (o : First nums directory ends keys from count slot j at ks ws ps) → matches_all ws ps ≡ false
      missed o = rw (o.same_worked, o.same_patterns, ← t.told _ _ _ o.first, e) refl

      go : (ks : List Key) (ws : List Worked) (ps : List Pattern)
          → KeyPatterns nums directory ends keys from count slot j at ks ws ps → Matched at ws ps None
      go ks ws ps h = unmatched (missed (first_of nums directory ends keys from count slot j at ks ws ps h more))

  -- the first matches, and the others tell the rest
  module _ (m l : Bool) (next prefix : ℕ) (more : count ≡ 0 → ⊥)
      (t : TellsOne nums directory keys from slot j at m next l prefix) (e : m ≡ true) (r : Option Match)
      (u : TellsMatch nums directory ends keys (get_or ends (from + 1) 0) (count - 1) (slot + 1) (j + 1) next r)
    where
      others-told : (ks : List Key) (ws : List Worked) (ps : List Pattern)
          → KeyPatterns nums directory ends keys from count slot j at ks ws ps
          → (o : First nums directory ends keys from count slot j at ks ws ps) × Matched next o.worked_list o.patterns r
      others-told ks ws ps h =
          let o : First nums directory ends keys from count slot j at ks ws ps
          = first_of nums directory ends keys from count slot j at ks ws ps h more in
          (o, u.told o.key_list o.worked_list o.patterns (rw (t.next_is _ _ _ o.first) o.rest))

      all-as-others : {ks : List Key} {ws : List Worked} {ps : List Pattern}
          → (o : First nums directory ends keys from count slot j at ks ws ps)
          → matches_all ws ps ≡ matches_all o.worked_list o.patterns
      unfolding matches_all
      all-as-others o = rw (o.same_worked, o.same_patterns, ← t.told _ _ _ o.first, e) refl

      prefix-as : {ks : List Key} {ws : List Worked} {ps : List Pattern}
          → (o : First nums directory ends keys from count slot j at ks ws ps)
          → prefix_of ps ≡ prefix_behind l prefix (prefix_of o.patterns)
      prefix-as o = rw o.same_patterns (t.prefix_is _ _ _ o.first o.patterns)

      others-unmatched : r ≡ None → TellsMatch nums directory ends keys from count slot j at None
      others-unmatched q = record { told = λ ks ws ps h. go (others-told ks ws ps h) }
        where
          go : {ks : List Key} {ws : List Worked} {ps : List Pattern}
              → (o : First nums directory ends keys from count slot j at ks ws ps) × Matched next o.worked_list o.patterns r
              → Matched at ws ps None
          go (o, s) = unmatched (all-as-others o ∙ no (rw q at s))
            where
              no : {at : ℕ} {ws : List Worked} {ps : List Pattern} → Matched at ws ps None → matches_all ws ps ≡ false
              no (unmatched f) = f

      yes-all : {at : ℕ} {z : Match} {ws : List Worked} {ps : List Pattern} → Matched at ws ps (Some z)
          → (matches_all ws ps ≡ true) × ((z.prefix ≡ prefix_of ps) × (z.next ≡ at + patterns_size ps))
      yes-all (matched f g n) = (f, (g, n))

      behind-all : {ks : List Key} {ws : List Worked} {ps : List Pattern}
          → (o : First nums directory ends keys from count slot j at ks ws ps) (last : ℕ)
          → last ≡ next + patterns_size o.patterns → last ≡ at + patterns_size ps
      unfolding patterns_size
      behind-all o last q = rw o.same_patterns (omega (arith, q, t.next_is _ _ _ o.first))

      own-prefix : (z : Match) → r ≡ Some z → l ≡ true
          → TellsMatch nums directory ends keys from count slot j at (yes prefix z.next)
      unfolding prefix_behind
      own-prefix z q k = record { told = λ ks ws ps h. go (others-told ks ws ps h) }
        where
          go : {ks : List Key} {ws : List Worked} {ps : List Pattern}
              → (o : First nums directory ends keys from count slot j at ks ws ps)
              × Matched next o.worked_list o.patterns r → Matched at ws ps (yes prefix z.next)
          go {ps = ps} (o, s) =
              let y : _ = yes-all (rw q at s) in
              let same : prefix ≡ prefix_of ps = sym (rw k at (prefix-as o)) in
              matched (all-as-others o ∙ y.0) same (behind-all o z.next y.1.1)

      others-prefix : (z : Match) → r ≡ Some z → l ≡ false
          → TellsMatch nums directory ends keys from count slot j at (Some z)
      unfolding prefix_behind
      others-prefix z q k = record { told = λ ks ws ps h. go (others-told ks ws ps h) }
        where
          go : {ks : List Key} {ws : List Worked} {ps : List Pattern}
              → (o : First nums directory ends keys from count slot j at ks ws ps)
              × Matched next o.worked_list o.patterns r → Matched at ws ps (Some z)
          go {ps = ps} (o, s) =
              let y : _ = yes-all (rw q at s) in
              let same : z.prefix ≡ prefix_of ps = y.1.0 ∙ sym (rw k at (prefix-as o)) in
              matched (all-as-others o ∙ y.0) same (behind-all o z.next y.1.1)

-- the prefix of an lpm key goes with what is told of the keys behind it
unfoldable pub with_prefix : Option ℕ → Option Match → Option Match
with_prefix None r = r
with_prefix (Some prefix) (Some z) = yes prefix z.next
with_prefix (Some prefix) None = None

with-both : (p q : Option ℕ) (r : Option Match) → with_prefix p (with_prefix q r) ≡ with_prefix (option_or p q) r
unfolding with_prefix
with-both None q r = refl
with-both (Some n) None r = refl
with-both (Some n) (Some k) None = refl
with-both (Some n) (Some k) (Some z) = refl

pub with-last : (p : Option ℕ) (next : ℕ) → with_prefix p (yes 0 next) ≡ yes (unwrap_or p 0) next
unfolding with_prefix
with-last None next = refl
with-last (Some n) next = refl

pub with-missed : (p : Option ℕ) → with_prefix p None ≡ None
unfolding with_prefix
with-missed None = refl
with-missed (Some n) = refl

along-told : (nums directory ends keys : List ℕ) (from count slot j at : ℕ) (m : Bool) (next : ℕ) (p : Option ℕ)
    → (count ≡ 0 → ⊥) → TellsOne nums directory keys from slot j at m next (is_some p) (unwrap_or p 0) → m ≡ true
    → (r : Option Match)
    → TellsMatch nums directory ends keys (get_or ends (from + 1) 0) (count - 1) (slot + 1) (j + 1) next r
    → TellsMatch nums directory ends keys from count slot j at (with_prefix p r)
unfolding with_prefix
along-told nums directory ends keys from count slot j at m next None more t e (Some z) u =
    others-prefix nums directory ends keys from count slot j at m false next 0 more t e (Some z) u z refl refl
along-told nums directory ends keys from count slot j at m next None more t e None u =
    others-unmatched nums directory ends keys from count slot j at m false next 0 more t e None u refl
along-told nums directory ends keys from count slot j at m next (Some prefix) more t e (Some z) u =
    own-prefix nums directory ends keys from count slot j at m true next prefix more t e (Some z) u z refl refl
along-told nums directory ends keys from count slot j at m next (Some prefix) more t e None u =
    others-unmatched nums directory ends keys from count slot j at m true next prefix more t e None u refl

-- the loop: what is told of the keys from the j-th on is told of all
pub record Matching (nums directory ends keys : List ℕ) (from count slot at j key next : ℕ) (p : Option ℕ)
    : Type 0 where
  pub asks : AsksMatch nums directory ends keys key (count - j) (slot + j) j next
  pub on : (r : Option Match) → TellsMatch nums directory ends keys key (count - j) (slot + j) j next r
      → TellsMatch nums directory ends keys from count slot 0 at (with_prefix p r)

module _ (nums directory ends keys : List ℕ) (from count slot at : ℕ) where
  pub matching-start : AsksMatch nums directory ends keys from count slot 0 at
      → Matching nums directory ends keys from count slot at 0 from at None
  unfolding with_prefix
  matching-start a =
      let all : count - 0 ≡ count = omega arith in
      let first : slot + 0 ≡ slot = omega arith in
      record { asks = rw (all, first) a; on = λ r h. rw (all, first) at h }

  module _ (j key next : ℕ) (p : Option ℕ) (h : Matching nums directory ends keys from count slot at j key next p) where
    pub matching-ended : (prefix : ℕ) → count ≤ j → prefix ≡ unwrap_or p 0
        → TellsMatch nums directory ends keys from count slot 0 at (yes prefix next)
    matching-ended prefix l e =
        rw (e, ← with-last p next)
        (h.on (yes 0 next) (none_told nums directory ends keys key (count - j) (slot + j) j next (omega arith)))

    module _ (l : j < count) where
      abbrev more : count - j ≡ 0 → ⊥
      more = λ e. absurd (omega (arith, e))

      pub matching-one : AsksOne nums directory keys key (slot + j) j next
      matching-one = one-asked nums directory ends keys key (count - j) (slot + j) j next h.asks more

      pub matching-inside : key + 1 < length ends
      matching-inside = ends-inside nums directory ends keys key (count - j) (slot + j) j next h.asks more

      pub matching-key : key + 1 < 2 ^ 64
      matching-key = from_next nums directory ends keys key (count - j) (slot + j) j next h.asks more

      pub matching-width : slot + j < 2 ^ 64
      matching-width = omega (arith, h.asks.slots)

      pub matching-place : j + 1 < 2 ^ 64
      matching-place = place-next nums directory ends keys key (count - j) (slot + j) j next h.asks more

      module _ (m : Bool) (behind : ℕ) (q : Option ℕ)
          (t : TellsOne nums directory keys key (slot + j) j next m behind (is_some q) (unwrap_or q 0)) where
        pub matching-missed : m ≡ false → TellsMatch nums directory ends keys from count slot 0 at None
        matching-missed e = rw (← with-missed p)
            (h.on None
            (first-unmatched nums directory ends keys key (count - j) (slot + j) j next m (is_some q) behind (unwrap_or q 0)
            more t e))

        pub matching-next : (r : Option ℕ) → m ≡ true → r ≡ option_or p q
            → Matching nums directory ends keys from count slot at (j + 1) (get_or ends (key + 1) 0) behind r
        matching-next r e o =
            let fewer : count - (j + 1) ≡ count - j - 1 = omega arith in
            let further : slot + (j + 1) ≡ slot + j + 1 = omega arith in
            rw o (record {
              asks = rw (fewer, further)
                  (others-asked nums directory ends keys key (count - j) (slot + j) j next h.asks more m
                  (is_some q) behind (unwrap_or q 0) t);
              on = λ r u. rw (← with-both p q r)
                  (h.on (with_prefix q r)
                  (along-told nums directory ends keys key (count - j) (slot + j) j next m behind q more t e r
                  (rw (fewer, further) at u)));
            })

pub ruleset all = (
  matching-start,
  matching-ended,
  matching-one,
  matching-inside,
  matching-key,
  matching-width,
  matching-missed,
  matching-next,
)
