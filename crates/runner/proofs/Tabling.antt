-- A table that is applied: its keys, the look-up, then the action of the entry that is found, or the default.
use Rattle.program.specs.declared.Scope as coded
use mathlib.Core.Bool.{true, false, ◌&&◌}
use mathlib.Core.Option.{some}
use mathlib.Core.Path.{◌≡◌, refl, ◌∙◌, sym}
use mathlib.Core.List.{List, [], ◌∷◌, map}
use Prim.Native.Nat.{ℕ, suc, ◌+◌, ◌*◌, ◌≤◌, ◌<◌, ◌^◌}
use native.Mathlib.Omega.{arith}
use lib.ListN.{length, get_or, get_elem?, replicate}
use Rattle.rules.specs.Words.{widest}
use Rattle.rules.specs.Syntax.{Numeral, Key, Table, Program}
use Rattle.rules.specs.Reading.{most_keys}
use Rattle.rules.specs.Form.{ok, one_lpm, apply_scope, judge_table}
use Rattle.rules.specs.Ceiling.{callee_in, ceilings_below}
use Rattle.rules.specs.Lists.{Entry, key_width}
use Rattle.rules.specs.Running as rules
use Rattle.rules.specs.Running.{State, Ending, Seen, Out, done, M, ◌>>=◌, must, calls_below, Worked, longest_wins, look_up, entries_of, is_fine, entries_fit, run_found, run_table}
use Rattle.rules.specs.Answers.{working_slots}
use Rattle.rules.proofs.Predicates.{and_both, look-all, from-ok, from_some, Good, good, is_full}
use Rattle.rules.proofs.Fits.{StateFits}
use Rattle.rules.proofs.Callables.{calls-below}
use Rattle.rules.proofs.Tables.{keys-wide}
use Rattle.rules.proofs.Accepted.{PartsJudged, parts-judged}
use Rattle.shape.specs.Directory.{callables_slot, entries_slot, widths_slot}
use Rattle.program.specs.Stands.{Holds, StandsNumeral, StandsNumerals}
use Rattle.program.specs.Looks.{Has, Finds, tables_of, FoundTable}
use Rattle.program.proofs.Found.{member-in}
use Rattle.lists.specs.Stands.{HoldsAll}
use Rattle.lookup.specs.Matching.{StandsAllWorked, widths_of}
use Rattle.lookup.specs.LookingUp.{SoughtIn, AsksLook, Looked, entry_found, nothing-found, TellsLookUp}
use Rattle.lookup.specs.declared.Lookup.{Lookup}
use Rattle.lookup.specs.declared.Lookup.TheVariants as Lookups
use Rattle.steps.specs.declared.Ended.{Ended}
use Rattle.steps.specs.Outcomes.{Goes, counter_of, Ran, Ends}
use Rattle.steps.proofs.Going.{Begun, then-goes, some-then-goes, must-then-goes, some-then-is, must-then-is, ran_then}
use Rattle.runner.specs.Runs.{calls_of, keys_in, action_in, table_in, Stage}
use Rattle.runner.specs.Claims.{AsksTable, RunsTable, KeyNumbers, KeysAt, AsksKeys, RunsKeys, ActionAt, AsksAction, RunsAction}
use Rattle.runner.proofs.Rank.{rank, rank-lower}
use Rattle.runner.proofs.Stages.{stage-ran, going-rest}

-- a table that is found
abbrev looks : Program → ℕ → List Entry → ℕ → Table → List Worked → M State Ending
looks P used es t T ws =
    must (is_fine (one_lpm false T.keys) && entries_fit P T (map (λ k. k.width) ws) (entries_of t es))
    >>= λ _. run_found P used (calls_of (apply_scope P)) T (look_up (longest_wins T.keys) ws rules.nothing (entries_of t es))

pub record Tabled (P : Program) (used : ℕ) (es : List Entry) (t : ℕ) (s : State) (counted : ℕ) : Type 0 where
  pub table : Table
  pub is : get_elem? P.tables t ≡ some table
  pub same : table_in P used es t s ≡ (keys_in P used table.keys >>= looks P used es t table) s
  pub begun : Begun counted (keys_in P used table.keys) (looks P used es t table) s

tabled : (P : Program) (used : ℕ) (es : List Entry) (t : ℕ) (s : State) (counted : ℕ)
    → Goes counted (table_in P used es t s) → Tabled P used es t s counted
unfolding table_in keys_in run_table
tabled P used es t s counted g =
    let T = some-then-goes (get_elem? P.tables t) _ s g in
    record {
      table = T.member;
      is = T.is;
      same = some-then-is (get_elem? P.tables t) _ s T.is;
      begun = then-goes _ _ s T.rest;
    }

-- once its keys are worked out, its entries fit them, and what is found is run
pub record Looking (P : Program) (used : ℕ) (es : List Entry) (t : ℕ) (T : Table) (ws : List Worked) (s : State)
    (counted : ℕ) : Type 0 where
  pub fits : entries_fit P T (widths_of ws) (entries_of t es) ≡ true
  pub same : looks P used es t T ws s
      ≡ run_found P used (calls_of (apply_scope P)) T (look_up (longest_wins T.keys) ws rules.nothing (entries_of t es)) s
  pub going : Goes counted
      (run_found P used (calls_of (apply_scope P)) T (look_up (longest_wins T.keys) ws rules.nothing (entries_of t es)) s)

looking : (P : Program) (used : ℕ) (es : List Entry) (t : ℕ) (T : Table) (ws : List Worked) (s : State) (counted : ℕ)
    → Goes counted (looks P used es t T ws s) → Looking P used es t T ws s counted
unfolding widths_of
looking P used es t T ws s counted g =
    let m = must-then-goes (is_fine (one_lpm false T.keys) && entries_fit P T (map (λ k. k.width) ws) (entries_of t es))
    _ s g in
    record {
      fits = (and_both (is_fine (one_lpm false T.keys)) (entries_fit P T (map (λ k. k.width) ws) (entries_of t es)) m.0
          ).1;
      same = must-then-is (is_fine (one_lpm false T.keys)
          && entries_fit P T (map (λ k. k.width) ws) (entries_of t es)) _ s m.0;
      going = m.1;
    }

-- what a look-up finds
pub record FoundAt (nums : List ℕ) (action : ℕ) (x : rules.Found) : Type 0 where
  pub entry : Entry
  pub is : x ≡ rules.found entry
  pub position : Holds nums action entry.position
  pub arguments : HoldsAll nums (action + 1) entry.arguments

found_at : (nums : List ℕ) (action : ℕ) (x : rules.Found) (r : Lookup) → Looked nums x r → r ≡ Lookups.Found action
    → FoundAt nums action x
found_at nums action x r (entry_found {e = e} {action = other} p h) q =
    let same : other ≡ action = cc in
    record { entry = e; is = refl; position = rw same at p; arguments = rw same at h }
found_at nums action x r nothing-found q = let z : ◌≡◌ {A = ℕ} 0 1 = cc in absurd (omega arith)

not_found : (nums : List ℕ) (x : rules.Found) (r : Lookup) → Looked nums x r → r ≡ Lookups.Nothing → x ≡ rules.nothing
not_found nums x r (entry_found p h) q = let z : ◌≡◌ {A = ℕ} 0 1 = cc in absurd (omega arith)
not_found nums x r nothing-found q = refl

-- the numbers of a default's arguments
numerals-hold : (nums : List ℕ) (at : ℕ) (ns : List Numeral) → StandsNumerals nums at ns
    → HoldsAll nums at (map (λ n. n.number) ns)
unfolding StandsNumerals HoldsAll
numerals-hold nums at [] s = tt
numerals-hold nums at (n ∷ ns) s = (s.0.holds, numerals-hold nums (at + 1) ns s.1)

-- where a table's actions, its default and the default's arguments stand
module _ {nums ends : List ℕ} {at actions default : ℕ} {T : Table} (f : FoundTable nums ends at actions default T) where
  table-listed : StandsNumerals nums (actions + 1) T.actions
  table-listed = rw f.actions_is f.stands.actions

  table-default : StandsNumeral nums default T.default
  table-default = rw f.default_is f.stands.default

  table-given : StandsNumerals nums (default + 2) T.arguments
  table-given = rw f.default_is f.stands.arguments

-- keys of the widths that the judge found
worked-stand : (P : Program) (widths keys : List ℕ) (slot j : ℕ) (ks : List Key) (ws : List Worked)
    → map (λ w. w.width) ws ≡ map (key_width P) ks
    → ((i : ℕ) (k : Key) → get_elem? ks i ≡ some k
    → (get_or widths (slot + i) 0 ≡ key_width P k) × (get_or widths (slot + i) 0 ≤ widest))
    → KeyNumbers keys j ws → StandsAllWorked widths keys slot j ws
unfolding StandsAllWorked KeyNumbers
worked-stand P widths keys slot j ks [] e h n = tt
worked-stand P widths keys slot j [] (w ∷ ws) e h n = let z : ◌≡◌ {A = ℕ} 0 1 = cc in absurd (omega arith)
worked-stand P widths keys slot j (k ∷ ks) (w ∷ ws) e h n =
    let first : slot + 0 ≡ slot = omega arith in
    let one = h 0 k refl in
    let width : w.width ≡ key_width P k = cc in
    let others : map (λ w. w.width) ws ≡ map (key_width P) ks = cc in
    let is : get_or widths slot 0 ≡ key_width P k = rw first at one.0 in
    let most : get_or widths slot 0 ≤ widest = rw first at one.1 in (
      record { width = is ∙ sym width; number = n.0; most = omega (arith, is, most, width) },
      worked-stand P widths keys (slot + 1) (j + 1) ks ws others (λ i x q.
          let next : slot + suc i ≡ slot + 1 + i = omega arith in
          rw next at (h (suc i) x q)) n.1,
    )

good-answer : {W : ℕ → ℕ → Type 0} {S A : Type 0} {F : S → Type 0} {R : A → Type 0} {most : ℕ} {o : Out S A} {a : A}
    {s : S} {seen : Seen} → Good W F R most o → o ≡ done a s seen → R a
good-answer {a = a} (good {b = b} saw r f q) e = let same : b ≡ a = cc in rw same at r
good-answer is_full e = let z : ◌≡◌ {A = ℕ} 0 1 = cc in absurd (omega arith)

module _ (P : Program) (used : ℕ) (parts : PartsJudged P) (t : ℕ) (T : Table) (is : get_elem? P.tables t ≡ some T)
  where
    table-judged : judge_table P T ≡ ok tt
    table-judged = from_some (rw is at (look-all parts.tables t))

    keys-widths : (s : State) (ws : List Worked) (u : State) (seen : Seen) → StateFits (apply_scope P) s
        → keys_in P used T.keys s ≡ done ws u seen → map (λ w. w.width) ws ≡ map (key_width P) T.keys
    unfolding keys_in calls_of apply_scope
    keys-widths s ws u seen fits e = good-answer ((from-ok (rw table-judged at (keys-wide P used
        (calls_below working_slots P (length P.callables)) (callee_in (ceilings_below P (length P.callables)))
        (calls-below working_slots P parts.callables (length P.callables)) T))).run s fits) e

-- at any stage
module _ (P : Program) {nums directory ends : List ℕ} {scope : coded.Scope} {slots frame : List ℕ} {t : ℕ} {used : ℕ}
    {es : List Entry} {s : State} {at actions default : ℕ}
    (found : Finds tables_of (FoundTable nums ends at actions default) nums directory ends t)
    (st : Stage nums directory ends scope slots frame (apply_scope P) used es s)
    (g : Goes (counter_of slots) (table_in P used es t s)) where
  this : Tabled P used es t s (counter_of slots)
  this = tabled P used es t s (counter_of slots) g

  abbrev T : Table
  T = this.table

  stands : FoundTable nums ends at actions default T
  unfolding tables_of apply_scope
  stands = found.finds P st.scene.scopes.end T st.scene.scopes.program this.is

  key-count : get_or nums at 0 ≤ most_keys
  key-count = omega (arith, stands.stands.key_count.holds.is, stands.stands.key_count.at_most)

  keys-at : (keys : List ℕ) → length keys ≡ most_keys
      → KeysAt nums ends keys 0 (at + 1) (get_or nums at 0) T.keys
  keys-at keys n = record {
    stand = stands.stands.keys;
    counts = stands.stands.key_count.holds.is;
    slots = n;
    inside = omega (arith, key-count);
  }

  module _ {slots₁ frame₁ : List ℕ} (keys₁ : List ℕ)
      (h : Ran nums directory ends scope slots slots₁ frame frame₁ (apply_scope P) (keys_in P used T.keys s)
      (KeyNumbers keys₁ 0)) where
    look : Looking P used es t T h.answer h.state (counter_of slots₁)
    look = looking P used es t T h.answer h.state (counter_of slots₁)
        (going-rest st (keys_in P used T.keys) (looks P used es t T) this.begun h)

    keys-worked : StandsAllWorked directory keys₁ (widths_slot + most_keys * t) 0 h.answer
    unfolding apply_scope
    keys-worked = worked-stand P directory keys₁ (widths_slot + most_keys * t) 0 T.keys h.answer
        (keys-widths P used (parts-judged P st.tables.judged) t T this.is s h.answer h.state h.seen
        st.scene.fits h.is)
        (λ i k q. st.tables.wide t i T k this.is q) h.answers

    sought : SoughtIn nums directory ends keys₁ t at (entries_slot + 1) (get_or directory entries_slot 0) P T h.answer es
    unfolding apply_scope
    sought = record {
      table_is = this.is;
      stands = stands.stands;
      worked = keys-worked;
      entries_stand = st.tables.stand;
      counts = st.tables.count;
      fits = look.fits;
    }

    look-asks : AsksLook nums directory ends keys₁ t at (entries_slot + 1) (get_or directory entries_slot 0)
    unfolding apply_scope
    look-asks = record {
      program = P;
      table_at = T;
      worked = h.answer;
      entry_list = es;
      sought = sought;
      numbers = st.scene.scopes.program.numbers;
      room = st.scene.scopes.program.room;
      few = omega (arith, member-in P.tables t T this.is, st.scene.scopes.program.tables.few);
      slots = omega (arith, st.tables.count, st.tables.few);
    }

    module _ {r : Lookup} (told : TellsLookUp nums directory ends keys₁ t at r) where
      looked : Looked nums (look_up (longest_wins T.keys) h.answer rules.nothing (entries_of t es)) r
      looked = told.told P T h.answer es sought

      -- the rules' choice of an action
      chosen : (x : rules.Found) (position : ℕ) (ns : List ℕ)
          → look_up (longest_wins T.keys) h.answer rules.nothing (entries_of t es) ≡ x
          → run_found P used (calls_of (apply_scope P)) T x ≡ action_in P used T position ns
          → looks P used es t T h.answer h.state ≡ action_in P used T position ns h.state
      chosen x position ns e k = look.same ∙ rw (e, k) refl

      module _ (position : ℕ) (ns : List ℕ)
          (same : looks P used es t T h.answer h.state ≡ action_in P used T position ns h.state) where
        action-goes : Goes (counter_of slots₁) (action_in P used T position ns h.state)
        action-goes = rw same at
            (going-rest st (keys_in P used T.keys) (looks P used es t T) this.begun h)

        table-ran : {slots₂ frame₂ : List ℕ} {x : Ended}
            → Ran nums directory ends scope slots₁ slots₂ frame₁ frame₂ (apply_scope P)
            (action_in P used T position ns h.state) (Ends x)
            → Ran nums directory ends scope slots slots₂ frame frame₂ (apply_scope P) (table_in P used es t s)
            (Ends x)
        table-ran k = rw this.same (ran_then (keys_in P used T.keys) (looks P used es t T) s h (rw same k))

      module _ {entry : ℕ} (q : r ≡ Lookups.Found entry) where
        there : FoundAt nums entry (look_up (longest_wins T.keys) h.answer rules.nothing (entries_of t es))
        there = found_at nums entry _ r looked q

        entry-same : looks P used es t T h.answer h.state
            ≡ action_in P used T there.entry.position there.entry.arguments h.state
        unfolding run_found action_in
        entry-same = chosen (rules.found there.entry) there.entry.position there.entry.arguments there.is refl

        entry_at : ActionAt nums actions (entry + 1) T there.entry.arguments
        entry_at = record {
          listed = table-listed stands;
          given = there.arguments;
        }

      module _ (q : r ≡ Lookups.Nothing) where
        abbrev arguments : List ℕ
        arguments = map (λ n. n.number) T.arguments

        default-same : looks P used es t T h.answer h.state
            ≡ action_in P used T T.default.number arguments h.state
        unfolding run_found action_in
        default-same = chosen rules.nothing T.default.number arguments (not_found nums _ r looked q) refl

        default-at : ActionAt nums actions (default + 2) T arguments
        default-at = record {
          listed = table-listed stands;
          given = numerals-hold nums (default + 2) T.arguments (table-given stands);
        }

-- from the numbers
module _ (nums directory ends : List ℕ) (scope : coded.Scope) (slots frame : List ℕ) (t : ℕ) where
  module _ (a : AsksTable nums directory ends scope slots frame t) where
    pub table-has : Has tables_of nums directory ends t
    unfolding tables_of apply_scope
    table-has =
        let b = tabled a.program a.used a.entry_list t a.state (counter_of slots) a.going in
        record {
          program = a.program;
          end = a.stage.scene.scopes.end;
          stands = a.stage.scene.scopes.program;
          inside = member-in a.program.tables t b.table b.is;
        }

  module _ (at actions default : ℕ)
      (found : Finds tables_of (FoundTable nums ends at actions default) nums directory ends t) where
    module _ (a : AsksTable nums directory ends scope slots frame t) where
      it : FoundTable nums ends at actions default (T a.program found a.stage a.going)
      it = stands a.program found a.stage a.going

      pub table-inside : at < length nums
      table-inside = it.stands.key_count.holds.inside

      pub table-next : at + 1 < 2 ^ 64
      unfolding apply_scope
      table-next = omega (arith, table-inside, a.stage.scene.scopes.program.numbers)

      pub table-keys : AsksKeys nums directory ends scope slots frame (replicate 4 0) 0 (at + 1)
          (get_or nums at 0)
      table-keys = record {
        program = a.program;
        used = a.used;
        entry_list = a.entry_list;
        state = a.state;
        key_list = (T a.program found a.stage a.going).keys;
        stage = a.stage;
        keyed = keys-at a.program found a.stage a.going (replicate 4 0) refl;
        going = (this a.program found a.stage a.going).begun.first;
      }

      pub table-keys-fall : (x : ℕ) → rank (scope.reach) 1500 ≡ x
          → rank (scope.reach) (1400 + get_or nums at 0) < x
      table-keys-fall x e = rank-lower x (scope.reach) 1500 (1400 + get_or nums at 0) e
          (omega (arith, key-count a.program found a.stage a.going))

    module _ (slots₁ frame₁ keys₁ : List ℕ)
        (r : RunsKeys nums directory ends scope slots slots₁ frame frame₁ (replicate 4 0) keys₁ 0
        (at + 1) (get_or nums at 0)) where
      keys-ran : (P : Program) (used : ℕ) (es : List Entry) (s : State)
          → (st : Stage nums directory ends scope slots frame (apply_scope P) used es s)
          → (g : Goes (counter_of slots) (table_in P used es t s))
          → Ran nums directory ends scope slots slots₁ frame frame₁ (apply_scope P)
          (keys_in P used (T P found st g).keys s) (KeyNumbers keys₁ 0)
      keys-ran P used es s st g = r.runs P used es s (T P found st g).keys st
          (keys-at P found st g (replicate 4 0) refl) (this P found st g).begun.first

      module _ (a : AsksTable nums directory ends scope slots frame t) where
        h : Ran nums directory ends scope slots slots₁ frame frame₁ (apply_scope a.program)
            (keys_in a.program a.used (T a.program found a.stage a.going).keys a.state)
            (KeyNumbers keys₁ 0)
        h = keys-ran a.program a.used a.entry_list a.state a.stage a.going

        pub table-look : AsksLook nums directory ends keys₁ t at (entries_slot + 1) (get_or directory entries_slot 0)
        table-look = look-asks a.program found a.stage a.going keys₁ h

        module _ (x : Lookup) (told : TellsLookUp nums directory ends keys₁ t at x) where
          pub entry-action : (entry : ℕ) → x ≡ Lookups.Found entry
              → AsksAction nums directory ends slots₁ frame₁ actions entry (entry + 1)
          entry-action entry q =
              let e = there a.program found a.stage a.going keys₁ h told q in
              record {
                scope = scope;
                program = a.program;
                used = a.used;
                entry_list = a.entry_list;
                state = h.state;
                table = T a.program found a.stage a.going;
                numbers = e.entry.arguments;
                stage = stage-ran a.stage h;
                action = entry_at a.program found a.stage a.going keys₁ h told q;
                inside = e.position.inside;
                near = omega arith;
                going = rw e.position.is (action-goes a.program found a.stage a.going keys₁ h told
                    e.entry.position e.entry.arguments
                    (entry-same a.program found a.stage a.going keys₁ h told q));
              }

          pub default-action : x ≡ Lookups.Nothing
              → AsksAction nums directory ends slots₁ frame₁ actions default (default + 2)
          default-action q =
              let D = T a.program found a.stage a.going in
              record {
                scope = scope;
                program = a.program;
                used = a.used;
                entry_list = a.entry_list;
                state = h.state;
                table = D;
                numbers = map (λ n. n.number) D.arguments;
                stage = stage-ran a.stage h;
                action = default-at a.program found a.stage a.going keys₁ h told q;
                inside = (table-default (it a)).holds.inside;
                near = omega arith;
                going = rw (table-default (it a)).holds.is (action-goes a.program found a.stage a.going keys₁ h
                    told D.default.number (map (λ n. n.number) D.arguments)
                    (default-same a.program found a.stage a.going keys₁ h told q));
              }

      module _ (x : Lookup) (told : TellsLookUp nums directory ends keys₁ t at x) (slots₂ frame₂ : List ℕ)
          (y : Ended) where
        entry-ran : (entry : ℕ) → x ≡ Lookups.Found entry
            → RunsAction nums directory ends slots₁ slots₂ frame₁ frame₂ actions entry (entry + 1) y
            → (P : Program) (used : ℕ) (es : List Entry) (s : State)
            → Stage nums directory ends scope slots frame (apply_scope P) used es s
            → Goes (counter_of slots) (table_in P used es t s)
            → Ran nums directory ends scope slots slots₂ frame frame₂ (apply_scope P) (table_in P used es t s) (Ends y)
        entry-ran entry q k P used es s st g =
            let z = keys-ran P used es s st g in
            let e = there P found st g keys₁ z told q in
            let same = entry-same P found st g keys₁ z told q in
            table-ran P found st g keys₁ z told e.entry.position e.entry.arguments same
            (rw e.position.is at (k.runs scope P used es z.state (T P found st g) e.entry.arguments
            (stage-ran st z) (entry_at P found st g keys₁ z told q)
            (rw e.position.is (action-goes P found st g keys₁ z told e.entry.position e.entry.arguments same))))

        pub entry_runs : (entry : ℕ) → x ≡ Lookups.Found entry
            → RunsAction nums directory ends slots₁ slots₂ frame₁ frame₂ actions entry (entry + 1) y
            → RunsTable nums directory ends scope slots slots₂ frame frame₂ t y
        entry_runs entry q k = record { runs = entry-ran entry q k }

        default-ran : x ≡ Lookups.Nothing
            → RunsAction nums directory ends slots₁ slots₂ frame₁ frame₂ actions default (default + 2) y
            → (P : Program) (used : ℕ) (es : List Entry) (s : State)
            → Stage nums directory ends scope slots frame (apply_scope P) used es s
            → Goes (counter_of slots) (table_in P used es t s)
            → Ran nums directory ends scope slots slots₂ frame frame₂ (apply_scope P) (table_in P used es t s) (Ends y)
        default-ran q k P used es s st g =
            let z = keys-ran P used es s st g in
            let D = T P found st g in
            let ns = map (λ n. n.number) D.arguments in
            let same = default-same P found st g keys₁ z told q in
            let is = (table-default (stands P found st g)).holds.is in
            table-ran P found st g keys₁ z told D.default.number ns same
            (rw is at (k.runs scope P used es z.state D ns (stage-ran st z) (default-at P found st g keys₁ z told q)
            (rw is (action-goes P found st g keys₁ z told D.default.number ns same))))

        pub default-runs : x ≡ Lookups.Nothing
            → RunsAction nums directory ends slots₁ slots₂ frame₁ frame₂ actions default (default + 2) y
            → RunsTable nums directory ends scope slots slots₂ frame frame₂ t y
        default-runs q k = record { runs = default-ran q k }

pub action-fall : (nums directory ends : List ℕ) (scope : coded.Scope) (slots frame : List ℕ) (t : ℕ)
    → AsksTable nums directory ends scope slots frame t → (x : ℕ)
    → rank (scope.reach) 1500 ≡ x → rank (get_or directory callables_slot 0) 1450 < x
unfolding apply_scope
action-fall nums directory ends scope slots frame t a x e =
    let same : scope.reach ≡ get_or directory callables_slot 0
    = omega (arith, a.stage.scene.scopes.reach, a.stage.scene.scopes.program.callables.count) in
    rank-lower x (get_or directory callables_slot 0) 1500 1450 (rw same at e) (omega arith)

pub ruleset table_runs = (
  table-has,
  table-inside,
  table-next,
  table-keys,
  table-keys-fall,
  table-look,
  entry-action,
  default-action,
  entry_runs,
  default-runs,
  action-fall,
)
