-- What an entry adds to a look-up, and the entries one after the other.
use mathlib.Core.Bool.{Bool, true, false, false≢true}
use mathlib.Core.Path.{◌≡◌, refl, sym, ◌∙◌}
use mathlib.Core.List.{List, [], ◌∷◌}
use Prim.Native.Nat.{ℕ, ◌+◌, ◌-◌, ◌*◌, ◌^◌, ◌≤◌, ◌<◌}
use native.Mathlib.Omega.{arith}
use lib.Dec.{eqb}
use lib.ListN.{length, get_or}
use borrow.Author.Tests.{eq-eqb, ne_eqb}
use Rattle.rules.specs.Syntax.{Table, Program}
use Rattle.rules.specs.Lists as Lists
use Rattle.rules.specs.Lists.{Pattern, action_at}
use Rattle.rules.specs.Running.{Worked, patterns_fit, arguments_given, matches_all, prefix_of, longest_wins, beats, better, look_up, entries_of, entries_fit}
use Rattle.rules.specs.Running as rules
use Rattle.rules.proofs.Callables.{some_same}
use Rattle.rules.proofs.Predicates.{and_both}
use Rattle.shape.specs.Directory.{entries_slot}
use Rattle.lists.specs.Listing.{patterns_size}
use Rattle.lookup.specs.Matching.{widths_of, KeyPatterns, AsksMatch, Matched, matched, unmatched, TellsMatch}
use Rattle.lookup.specs.LookingUp.{AsksKeys, TellsLongest, BestStands, entry, none, TellsBetter, Sought, AsksStep, TellsStep, settled_as, StandsEntries, SoughtIn, AsksLook, TellsLook, Looked, entry_found, nothing-found, TellsLookUp}
use Rattle.std.specs.Prelude.{Option, Some, None}
use Rattle.lookup.specs.declared.Match.{Match}
use Rattle.lookup.specs.declared.Best.{Best}
use Rattle.lookup.specs.declared.Lookup.TheVariants as Lookups
use Rattle.lookup.specs.declared.Lookup.TheVariants.{Found}

-- an entry of the table, and one of another
own_of : (t : ℕ) (e : Lists.Entry) (es : List Lists.Entry) → e.table ≡ t → entries_of t (e ∷ es) ≡ e ∷ entries_of t es
unfolding entries_of
own_of t e es q = rw (entries_of, eq-eqb e.table t q) refl

other-of : (t : ℕ) (e : Lists.Entry) (es : List Lists.Entry) → (e.table ≡ t → ⊥)
    → entries_of t (e ∷ es) ≡ entries_of t es
unfolding entries_of
other-of t e es n = rw (entries_of, ne_eqb e.table t n) refl

own_alone : (t : ℕ) (e : Lists.Entry) → e.table ≡ t → entries_of t (e ∷ []) ≡ e ∷ []
unfolding entries_of
own_alone t e q = own_of t e [] q

other-alone : (t : ℕ) (e : Lists.Entry) → (e.table ≡ t → ⊥) → entries_of t (e ∷ []) ≡ []
unfolding entries_of
other-alone t e n = other-of t e [] n

look-matched : (longest : Bool) (ws : List Worked) (f : rules.Found) (e : Lists.Entry) (es : List Lists.Entry)
    → matches_all ws e.patterns ≡ true → look_up longest ws f (e ∷ es) ≡ look_up longest ws (better longest f e) es
unfolding look_up
look-matched longest ws f e es q = rw (look_up, q) refl

look-unmatched : (longest : Bool) (ws : List Worked) (f : rules.Found) (e : Lists.Entry) (es : List Lists.Entry)
    → matches_all ws e.patterns ≡ false → look_up longest ws f (e ∷ es) ≡ look_up longest ws f es
unfolding look_up
look-unmatched longest ws f e es q = rw (look_up, q) refl

look_none : (longest : Bool) (ws : List Worked) (f : rules.Found) → look_up longest ws f [] ≡ f
unfolding look_up
look_none longest ws f = refl

-- the first of the entries fit, if all do
own-fits : (P : Program) (T : Table) (widths : List ℕ) (e : Lists.Entry) (es : List Lists.Entry)
    → entries_fit P T widths (e ∷ es) ≡ true
    → (patterns_fit widths e.patterns ≡ true)
    × ((arguments_given (action_at P T e.position) e.arguments ≡ true) × (entries_fit P T widths es ≡ true))
unfolding entries_fit
own-fits P T widths e es h =
    let a : (patterns_fit widths e.patterns ≡ true) × _ = and_both (patterns_fit widths e.patterns) _ h in
    (a.0, and_both (arguments_given (action_at P T e.position) e.arguments) _ a.1)

module _ (nums directory ends keys : List ℕ) (t table at : ℕ) where
  -- an entry of the table asks of its keys
  own-patterns : {P : Program} {T : Table} {ws : List Worked} {e : Lists.Entry}
      → Sought nums directory ends keys t table at P T ws e → get_or nums at 0 ≡ t
      → KeyPatterns nums directory ends keys (table + 1) (get_or nums table 0) (185 + 4 * t) 0 (at + 1) T.keys ws e.patterns
  own-patterns {P = P} {T = T} {ws = ws} {e = e} h q =
      let own : e.table ≡ t = sym h.entry_stands.number.is ∙ q in
      let same : h.entry_stands.table ≡ T
      = some_same (sym h.entry_stands.table_is ∙ (rw own h.table_is)) in
      record {
        keys_stand = h.stands.keys;
        counts = h.stands.key_count.holds.is;
        worked = h.worked;
        patterns = rw same at h.entry_stands.patterns;
        fits = (own-fits P T (widths_of ws) e [] (rw (own_alone t e own) at h.fits)).0;
      }

  module _ (h : AsksStep nums directory ends keys t table at) where
    pub entry-inside : at < length nums
    entry-inside = h.sought.entry_stands.number.inside

    pub table-inside : table < length nums
    table-inside = h.sought.stands.key_count.holds.inside

    pub slot_small : 4 * t < 2 ^ 64
    slot_small = omega (arith, h.few)

    pub table-next : table + 1 < 2 ^ 64
    table-next = omega (arith, table-inside, h.numbers)

    pub entry_next : at + 1 < 2 ^ 64
    entry_next = omega (arith, entry-inside, h.numbers)

    pub match-asked : AsksMatch nums directory ends keys (table + 1) (get_or nums table 0) (185 + 4 * t) 0 (at + 1)
    match-asked = record {
      key_list = h.table_at.keys;
      worked = h.worked;
      patterns = h.entry.patterns;
      stand = own-patterns h.sought h.own;
      numbers = h.numbers;
      room = h.room;
      slots = omega (arith, h.few, h.sought.stands.key_count.at_most, h.sought.stands.key_count.holds.is);
      place = omega (arith, h.sought.stands.key_count.at_most, h.sought.stands.key_count.holds.is);
    }

  module _ (longest : Bool) (best : Option Best) where
    pub step_other : (get_or nums at 0 ≡ t → ⊥) → TellsStep nums directory ends keys t table longest at best best
    step_other n = record {
      told = λ P T ws e h f s. rw (other-alone t e (λ q. n (h.entry_stands.number.is ∙ q)), look_none longest ws f) s;
    }

    module _ (h : AsksStep nums directory ends keys t table at) (m : Option Match)
        (u : TellsMatch nums directory ends keys (table + 1) (get_or nums table 0) (185 + 4 * t) 0 (at + 1) m)
      where
        abbrev q : get_or nums at 0 ≡ t
        q = h.own

        pub step-unmatched : m ≡ None → TellsStep nums directory ends keys t table longest at best best
        step-unmatched n = record { told = go }
          where
            missed : {ws : List Worked} {ps : List Pattern} → Matched (at + 1) ws ps None → matches_all ws ps ≡ false
            missed (unmatched k) = k

            go : (P : Program) (T : Table) (ws : List Worked) (e : Lists.Entry)
                → Sought nums directory ends keys t table at P T ws e → (f : rules.Found) → BestStands nums f best
                → BestStands nums (look_up longest ws f (entries_of t (e ∷ []))) best
            go P T ws e k f s =
                let own : e.table ≡ t = sym k.entry_stands.number.is ∙ q in
                let m : matches_all ws e.patterns ≡ false
                = missed (rw n at (u.told T.keys ws e.patterns (own-patterns k q))) in
                rw (own_alone t e own, look-unmatched longest ws f e [] m, look_none longest ws f) s

        pub step-matched : (z : Match) (r : Best) → m ≡ Some z → TellsBetter longest best z.next z.prefix r
            → TellsStep nums directory ends keys t table longest at best (Some r)
        step-matched z r n b = record { told = go }
          where
            all : {ws : List Worked} {ps : List Pattern} → Matched (at + 1) ws ps (Some z)
                → (matches_all ws ps ≡ true) × ((z.prefix ≡ prefix_of ps) × (z.next ≡ at + 1 + patterns_size ps))
            all (matched k p l) = (k, (p, l))

            go : (P : Program) (T : Table) (ws : List Worked) (e : Lists.Entry)
                → Sought nums directory ends keys t table at P T ws e → (f : rules.Found) → BestStands nums f best
                → BestStands nums (look_up longest ws f (entries_of t (e ∷ []))) (Some r)
            go P T ws e k f s =
                let own : e.table ≡ t = sym k.entry_stands.number.is ∙ q in
                let m : (matches_all ws e.patterns ≡ true)
                × ((z.prefix ≡ prefix_of e.patterns) × (z.next ≡ at + 1 + patterns_size e.patterns))
                = all (rw n at (u.told T.keys ws e.patterns (own-patterns k q))) in
                let args : z.next + 1 ≡ at + 2 + patterns_size e.patterns = omega (arith, m.1.1) in
                let this : BestStands nums (rules.found e) (Some (record { action = z.next; prefix = z.prefix }))
                =
                entry {e = e} {b = record { action = z.next; prefix = z.prefix }} (rw m.1.1 k.entry_stands.position)
                (rw args k.entry_stands.arguments) m.1.0 in
                rw (own_alone t e own, look-matched longest ws f e [] m.0, look_none longest ws (better longest f e))
                (b.told nums f e s this)

pub ruleset steps = (
  entry-inside,
  table-inside,
  slot_small,
  table-next,
  entry_next,
  match-asked,
  step-unmatched,
  step-matched,
)

-- entries of which some are left have a first
record First (nums directory ends keys : List ℕ) (t table i left : ℕ) (P : Program) (T : Table)
    (ws : List Worked) (es : List Lists.Entry) : Type 0 where
  pub entry : Lists.Entry
  pub others : List Lists.Entry
  pub same : es ≡ entry ∷ others
  pub first : Sought nums directory ends keys t table (get_or directory i 0) P T ws entry
  pub rest : SoughtIn nums directory ends keys t table (i + 1) (left - 1) P T ws others

-- what fits one behind the other fits apart
fit_apart : (P : Program) (T : Table) (widths : List ℕ) (t : ℕ) (e : Lists.Entry) (es : List Lists.Entry)
    → entries_fit P T widths (entries_of t (e ∷ es)) ≡ true
    → (entries_fit P T widths (entries_of t (e ∷ [])) ≡ true) × (entries_fit P T widths (entries_of t es) ≡ true)
unfolding entries_fit entries_of
fit_apart P T widths t e es h = go (eqb e.table t) h
  where
    go : (own : Bool)
        → entries_fit P T widths (elim own [ true ↦ e ∷ entries_of t es | false ↦ entries_of t es ]) ≡ true
        → (entries_fit P T widths (elim own [ true ↦ e ∷ [] | false ↦ [] ]) ≡ true)
        × (entries_fit P T widths (entries_of t es) ≡ true)
    go true k =
        let f : _ = own-fits P T widths e (entries_of t es) k in
        (rw (entries_fit, f.0, f.1.0) refl, f.1.1)
    go false k = (refl, k)

first_of : (nums directory ends keys : List ℕ) (t table i left : ℕ) (P : Program) (T : Table) (ws : List Worked)
    (es : List Lists.Entry) → SoughtIn nums directory ends keys t table i left P T ws es → (left ≡ 0 → ⊥)
    → First nums directory ends keys t table i left P T ws es
unfolding StandsEntries
first_of nums directory ends keys t table i left P T ws [] h more = absurd (more h.counts)
first_of nums directory ends keys t table i left P T ws (e ∷ es) h more =
    let f : _ = fit_apart P T (widths_of ws) t e es h.fits in
    record {
      entry = e;
      others = es;
      same = refl;
      first = record {
        table_is = h.table_is;
        stands = h.stands;
        worked = h.worked;
        entry_stands = h.entries_stand.0;
        fits = f.0;
      };
      rest = record {
        table_is = h.table_is;
        stands = h.stands;
        worked = h.worked;
        entries_stand = h.entries_stand.1;
        counts = omega (arith, h.counts);
        fits = f.1;
      };
    }

-- where the earliest wins, an entry that is found does not give way
earliest-stays : (ws : List Worked) (b : Lists.Entry) (es : List Lists.Entry)
    → look_up false ws (rules.found b) es ≡ rules.found b
unfolding look_up better beats
earliest-stays ws b [] = refl
earliest-stays ws b (e ∷ es) = go (matches_all ws e.patterns) (earliest-stays ws b es)
  where
    go : (m : Bool) → look_up false ws (rules.found b) es ≡ rules.found b
        → elim m [ true ↦ look_up false ws (better false (rules.found b) e) es | false ↦ look_up false ws (rules.found b) es ]
        ≡ rules.found b
    go true h = h
    go false h = h

settled-stays : {nums : List ℕ} {f : rules.Found} (longest : Bool) (a : Option Best) (ws : List Worked)
    (es : List Lists.Entry) → BestStands nums f a → settled_as longest a ≡ true → look_up longest ws f es ≡ f
unfolding settled_as
settled-stays true a ws es (entry p g k) q = absurd (false≢true q)
settled-stays false a ws es (entry {e = b} p g k) q = earliest-stays ws b es
settled-stays longest a ws es none q = absurd (false≢true q)

-- a look-up goes on from what its first entry gives
look-on : (longest : Bool) (ws : List Worked) (f : rules.Found) (t : ℕ) (e : Lists.Entry) (es : List Lists.Entry)
    → look_up longest ws f (entries_of t (e ∷ es))
    ≡ look_up longest ws (look_up longest ws f (entries_of t (e ∷ []))) (entries_of t es)
unfolding look_up entries_of
look-on longest ws f t e es = go (eqb e.table t)
  where
    own : (m : Bool)
        → elim m [ true ↦ look_up longest ws (better longest f e) (entries_of t es) | false ↦ look_up longest ws f (entries_of t es) ]
        ≡ look_up longest ws (elim m [ true ↦ better longest f e | false ↦ f ]) (entries_of t es)
    own true = refl
    own false = refl

    go : (mine : Bool)
        → look_up longest ws f (elim mine [ true ↦ e ∷ entries_of t es | false ↦ entries_of t es ])
        ≡ look_up longest ws (look_up longest ws f (elim mine [ true ↦ e ∷ [] | false ↦ [] ])) (entries_of t es)
    go true = own (matches_all ws e.patterns)
    go false = refl

module _ (nums directory ends keys : List ℕ) (t table i left : ℕ) where
  module _ (h : AsksLook nums directory ends keys t table i left) (more : left ≡ 0 → ⊥) where
    asked-first : First nums directory ends keys t table i left h.program h.table_at h.worked h.entry_list
    asked-first =
        first_of nums directory ends keys t table i left h.program h.table_at h.worked h.entry_list
        h.sought more

    pub slot-inside : i < 217
    slot-inside = omega (arith, h.slots, more)

    pub entry-held : get_or directory i 0 < length nums
    entry-held = asked-first.first.entry_stands.number.inside

    pub step-asked : get_or nums (get_or directory i 0) 0 ≡ t
        → AsksStep nums directory ends keys t table (get_or directory i 0)
    step-asked q = record {
      program = h.program;
      table_at = h.table_at;
      worked = h.worked;
      entry = asked-first.entry;
      sought = asked-first.first;
      own = q;
      numbers = h.numbers;
      room = h.room;
      few = h.few;
    }

    pub look-asked : AsksLook nums directory ends keys t table (i + 1) (left - 1)
    look-asked = record {
      program = h.program;
      table_at = h.table_at;
      worked = h.worked;
      entry_list = asked-first.others;
      sought = asked-first.rest;
      numbers = h.numbers;
      room = h.room;
      few = h.few;
      slots = omega (arith, h.slots, more);
    }

  module _ (longest : Bool) (best : Option Best) where
    pub look-ended : left ≡ 0 → TellsLook nums directory ends keys t table longest i left best best
    unfolding look_up entries_of
    look-ended e = record { told = λ P T ws es h f s. go ws es h.counts f s }
      where
        go : (ws : List Worked) (es : List Lists.Entry) → left ≡ length es → (f : rules.Found)
            → BestStands nums f best → BestStands nums (look_up longest ws f (entries_of t es)) best
        go ws [] c f s = s
        go ws (x ∷ es) c f s = absurd (omega (arith, e, c))

    pub look-settled : (a : Option Best) (b : Bool) → (left ≡ 0 → ⊥)
        → TellsStep nums directory ends keys t table longest (get_or directory i 0) best a → b ≡ settled_as longest a
        → b ≡ true → TellsLook nums directory ends keys t table longest i left best a
    look-settled a b more u q k =
        record { told = λ P T ws es h f s. go (first_of _ _ _ _ _ _ _ _ P T ws es h more) f s }
      where
        go : {P : Program} {T : Table} {ws : List Worked} {es : List Lists.Entry}
            → First nums directory ends keys t table i left P T ws es → (f : rules.Found)
            → BestStands nums f best → BestStands nums (look_up longest ws f (entries_of t es)) a
        go {P = P} {T = T} {ws = ws} o f s =
            let here : BestStands nums (look_up longest ws f (entries_of t (o.entry ∷ []))) a
            = u.told P T ws o.entry o.first f s in
            rw (
              o.same,
              look-on longest ws f t o.entry o.others,
              settled-stays longest a ws (entries_of t o.others) here (sym q ∙ k),
            )
            here

    pub look-further : (a r : Option Best) → (left ≡ 0 → ⊥)
        → TellsStep nums directory ends keys t table longest (get_or directory i 0) best a
        → TellsLook nums directory ends keys t table longest (i + 1) (left - 1) a r
        → TellsLook nums directory ends keys t table longest i left best r
    look-further a r more u v =
        record { told = λ P T ws es h f s. go (first_of _ _ _ _ _ _ _ _ P T ws es h more) f s }
      where
        go : {P : Program} {T : Table} {ws : List Worked} {es : List Lists.Entry}
            → First nums directory ends keys t table i left P T ws es → (f : rules.Found)
            → BestStands nums f best → BestStands nums (look_up longest ws f (entries_of t es)) r
        go {P = P} {T = T} {ws = ws} o f s =
            rw (o.same, look-on longest ws f t o.entry o.others)
            (v.told P T ws o.others o.rest (look_up longest ws f (entries_of t (o.entry ∷ [])))
            (u.told P T ws o.entry o.first f s))

-- the loop: what is told of the entries from a slot on is told of all
pub record Looking (nums directory ends keys : List ℕ) (t table : ℕ) (longest : Bool) (i left : ℕ) (best : Option Best)
    (slot : ℕ) (found : Option Best) : Type 0 where
  pub asks : AsksLook nums directory ends keys t table slot (i + left - slot)
  pub on : (r : Option Best) → TellsLook nums directory ends keys t table longest slot (i + left - slot) found r
      → TellsLook nums directory ends keys t table longest i left best r

module _ (nums directory ends keys : List ℕ) (t table : ℕ) (longest : Bool) (i left : ℕ) (best : Option Best) where
  pub looking-start : AsksLook nums directory ends keys t table i left
      → Looking nums directory ends keys t table longest i left best i best
  looking-start a =
      let all : i + left - i ≡ left = omega arith in
      record { asks = rw all a; on = λ r h. rw all at h }

  pub looking-low : AsksLook nums directory ends keys t table i left → i + left < 2 ^ 64
  looking-low a = omega (arith, a.slots)

  module _ (slot : ℕ) (found : Option Best)
      (h : Looking nums directory ends keys t table longest i left best slot found) where
    pub looking-ended : i + left ≤ slot → TellsLook nums directory ends keys t table longest i left best found
    looking-ended e =
        h.on found (look-ended nums directory ends keys t table slot (i + left - slot) longest found (omega arith))

    module _ (l : slot < i + left) where
      abbrev more : i + left - slot ≡ 0 → ⊥
      more = λ e. absurd (omega (arith, e))

      pub looking-inside : slot < 217
      looking-inside = slot-inside nums directory ends keys t table slot (i + left - slot) h.asks more

      pub looking-held : get_or directory slot 0 < length nums
      looking-held = entry-held nums directory ends keys t table slot (i + left - slot) h.asks more

      pub looking-step : get_or nums (get_or directory slot 0) 0 ≡ t
          → AsksStep nums directory ends keys t table (get_or directory slot 0)
      looking-step q = step-asked nums directory ends keys t table slot (i + left - slot) h.asks more q

      pub looking-on : (a : Option Best)
          → TellsStep nums directory ends keys t table longest (get_or directory slot 0) found a
          → Looking nums directory ends keys t table longest i left best (slot + 1) a
      looking-on a u =
          let fewer : i + left - (slot + 1) ≡ i + left - slot - 1 = omega arith in
          record {
            asks = rw fewer (look-asked nums directory ends keys t table slot (i + left - slot) h.asks more);
            on = λ r k. h.on r
                (look-further nums directory ends keys t table slot (i + left - slot) longest found a r more u
                (rw fewer at k));
          }

      pub looking-other : (get_or nums (get_or directory slot 0) 0 ≡ t → ⊥)
          → Looking nums directory ends keys t table longest i left best (slot + 1) found
      looking-other n = looking-on found
          (step_other nums directory ends keys t table (get_or directory slot 0) longest found n)

      pub looking-settled : (a : Option Best) (b : Bool)
          → TellsStep nums directory ends keys t table longest (get_or directory slot 0) found a
          → b ≡ settled_as longest a → b ≡ true → TellsLook nums directory ends keys t table longest i left best a
      looking-settled a b u q k =
          h.on a (look-settled nums directory ends keys t table slot (i + left - slot) longest found a b more u q k)

pub ruleset looks = (
  looking-start,
  looking-low,
  looking-ended,
  looking-inside,
  looking-held,
  looking-step,
  looking-on,
  looking-other,
  looking-settled,
)

-- the whole look-up
module _ (nums directory ends keys : List ℕ) (t table : ℕ) where
  module _ (h : AsksLook nums directory ends keys t table (entries_slot + 1) (get_or directory entries_slot 0)) where
    pub count-inside : table < length nums
    count-inside = h.sought.stands.key_count.holds.inside

    pub keys-begin : table + 1 < 2 ^ 64
    keys-begin = omega (arith, count-inside, h.numbers)

    pub keys-asked : AsksKeys nums ends (table + 1) (get_or nums table 0)
    keys-asked = record {
      key_list = h.table_at.keys;
      stand = h.sought.stands.keys;
      counts = h.sought.stands.key_count.holds.is;
      numbers = h.numbers;
      room = h.room;
    }

  looked-up : (longest : Bool) (best b : Option Best) → TellsLongest nums ends (table + 1) (get_or nums table 0) longest
      → best ≡ None → TellsLook nums directory ends keys t table longest (entries_slot + 1) (get_or directory entries_slot 0) best b
      → (P : Program) (T : Table) (ws : List Worked) (es : List Lists.Entry)
      → SoughtIn nums directory ends keys t table (entries_slot + 1) (get_or directory entries_slot 0) P T ws es
      → BestStands nums (look_up (longest_wins T.keys) ws rules.nothing (entries_of t es)) b
  looked-up longest best b l n u P T ws es h =
      let same : longest ≡ longest_wins T.keys
      = l.told T.keys h.stands.keys h.stands.key_count.holds.is in
      rw (← same) (u.told P T ws es h rules.nothing (rw n none))

  module _ (longest : Bool) (best b : Option Best) (l : TellsLongest nums ends (table + 1) (get_or nums table 0) longest)
      (n : best ≡ None) (u : TellsLook nums directory ends keys t table longest (entries_slot + 1) (get_or directory entries_slot 0) best b)
    where
      pub found-told : (found : Best) → b ≡ Some found
          → TellsLookUp nums directory ends keys t table (Found found.action)
      found-told found q = record {
        told = λ P T ws es h. go (rw q at (looked-up longest best b l n u P T ws es h));
      }
        where
          go : {f : rules.Found} → BestStands nums f (Some found) → Looked nums f (Found found.action)
          go (entry p a k) = entry_found p a

      pub nothing-told : b ≡ None → TellsLookUp nums directory ends keys t table Lookups.Nothing
      nothing-told q = record {
        told = λ P T ws es h. go (rw q at (looked-up longest best b l n u P T ws es h));
      }
        where
          go : {f : rules.Found} → BestStands nums f None → Looked nums f Lookups.Nothing
          go none = nothing-found

pub ruleset whole = (count-inside, keys-begin, keys-asked, found-told, nothing-told)
