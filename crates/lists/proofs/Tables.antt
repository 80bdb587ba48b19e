-- An entry of a table: its patterns and its action behind the number of the table.
use mathlib.Core.Bool.{true}
use mathlib.Core.Option.{some}
use mathlib.Core.Path.{◌≡◌, refl}
use mathlib.Core.List.{List, [], ◌∷◌}
use Prim.Native.Nat.{ℕ, suc, ◌+◌, ◌*◌, ◌^◌, ◌≤◌, ◌<◌}
use native.Mathlib.Omega.{arith}
use native.Mathlib.Numerals.{add-one}
use lib.ListN.{length, get_or, get_elem?}
use Rattle.rules.specs.Syntax.{Key, Table, Program}
use Rattle.rules.specs.Reading.{and_then, ◌>>=◌, pure, meaning, looked_up}
use Rattle.rules.specs.Form.{and_look}
use Rattle.rules.specs.Lists.{Entry, action_at, numbered, read_patterns, read_arguments, read_entry}
use Rattle.rules.proofs.Predicates.{no_member}
use Rattle.rules.proofs.Readers.{looked-in, looked-out}
use Rattle.shape.specs.Scans.{Scan, Past, Fault}
use Rattle.shape.specs.Scans.{forget, scan_of}
use Rattle.program.specs.Stands.{Holds, StandsTable, StandsProgram}
use Rattle.program.specs.Looks.{Has, Finds, tables_of, FoundTable}
use Rattle.program.proofs.Found.{At, member-at}
use Rattle.program.specs.Keys.{WidthsOf}
use Rattle.lists.specs.Listing.{AsksLists}
use Rattle.lists.specs.Parts.{Lacks, WidthsFrom, Keyed, AsksPatterns, JudgesPatterns}
use Rattle.lists.specs.Parts.{read_action, ListsActions, AsksAction, JudgesAction, read_of_table, AsksTable, JudgesOfTable, JudgesEntry}
use Rattle.lists.proofs.Places.{placed-patterns}
use Rattle.lists.proofs.Steps.{then-fault, then-past, Alike, alike-made, alike_then, alike-scan}

-- the widths of a table's keys stand in its four slots
widths-from : (P : Program) (widths : List ℕ) (t : ℕ) (T : Table) → WidthsOf P widths → get_elem? P.tables t ≡ some T
    → (j : ℕ) (ks : List Key)
    → ((i : ℕ) (k : Key) → get_elem? ks i ≡ some k → get_elem? T.keys (j + i) ≡ some k)
    → WidthsFrom P widths (4 * t + j) ks
unfolding WidthsFrom
widths-from P widths t T w e j [] h = tt
widths-from P widths t T w e j (k ∷ ks) h =
    let first : j + 0 ≡ j = omega arith in
    let q : get_elem? T.keys j ≡ some k = rw first at (h 0 k refl) in
    let next : 4 * t + j + 1 ≡ 4 * t + (j + 1) = omega arith in (
      w.is t j T k e q,
      (
        w.most t j T k e q,
        rw next (widths-from P widths t T w e (j + 1) ks
            (λ i x m. let o : j + suc i ≡ j + 1 + i = omega arith in rw o at (h (suc i) x m))),
      ),
    )

module _ (nums directory ends widths : List ℕ) (t : ℕ) where
  pub table-asks : AsksTable nums directory ends widths t → Has tables_of nums directory ends t
  unfolding tables_of
  table-asks h = record { program = h.program; end = h.end; stands = h.stands; inside = h.inside }

  module _ (table actions default : ℕ)
      (found : Finds tables_of (FoundTable nums ends table actions default) nums directory ends t)
    where
      found-table : (P : Program) (end : ℕ) (T : Table) → StandsProgram nums directory ends P end
          → get_elem? P.tables t ≡ some T → FoundTable nums ends table actions default T
      unfolding tables_of
      found-table P end T s e = found.finds P end T s e

      keyed-by : (P : Program) (end : ℕ) (T : Table) → StandsProgram nums directory ends P end → WidthsOf P widths
          → get_elem? P.tables t ≡ some T
          → Keyed P nums ends widths (table + 1) (get_or nums table 0) (4 * t) T.keys
      keyed-by P end T s w e =
          let k : StandsTable nums ends table T = (found-table P end T s e).stands in
          let o : 4 * t + 0 ≡ 4 * t = omega arith in
          record {
            stands = k.keys;
            counted = k.key_count.holds.is;
            known = rw o at (widths-from P widths t T w e 0 T.keys
                (λ i x m. let n : 0 + i ≡ i = omega arith in rw n m));
          }

      lists-by : (P : Program) (end : ℕ) (T : Table) → StandsProgram nums directory ends P end
          → get_elem? P.tables t ≡ some T → ListsActions nums actions T
      lists-by P end T s e =
          let k : FoundTable nums ends table actions default T = found-table P end T s e in
          record { count = rw k.actions_is k.stands.action_count; stand = rw k.actions_is k.stands.actions }

      module _ (h : AsksTable nums directory ends widths t) where
        asked-table : At h.program.tables t
        asked-table = member-at h.program.tables t h.inside

        asked-stands : StandsTable nums ends table asked-table.member
        asked-stands =
            (found-table h.program h.end asked-table.member h.stands asked-table.is).stands

        pub table-inside : table < length nums
        table-inside = asked-stands.key_count.holds.inside

        pub table-next : table + 1 < 2 ^ 64
        table-next = omega (arith, table-inside, h.stands.numbers)

        pub table-patterns : AsksPatterns nums ends widths (table + 1) (get_or nums table 0) (4 * t)
        table-patterns = record {
          program = h.program;
          keys = asked-table.member.keys;
          keyed = keyed-by h.program h.end asked-table.member h.stands h.known asked-table.is;
          numbers = h.stands.numbers;
          room = h.stands.room;
          slots = omega (
            arith,
            asked-stands.key_count.holds.is,
            asked-stands.key_count.at_most,
            h.inside,
            h.stands.tables.few,
          );
        }

        pub table-action : AsksAction nums directory ends actions
        table-action = record {
          asks = record { program = h.program; end = h.end; stands = h.stands };
          table = asked-table.member;
          lists = lists-by h.program h.end asked-table.member h.stands asked-table.is;
        }

      module _ (at : ℕ) (a : Scan) (g : JudgesPatterns nums ends widths (table + 1) (get_or nums table 0) (4 * t) at a)
        where
          pub of-table-past : (n : ℕ) (r : Scan) → a ≡ Past n → JudgesAction nums directory ends actions n r
              → JudgesOfTable nums directory ends widths t at r
          unfolding read_of_table
          of-table-past n r p k = record {
            judged = λ P end T s w e. then-past _ _ nums at n a r (placed-patterns P T.keys)
                (g.judged P T.keys (keyed-by P end T s w e)) p
                λ x. k.judged P end T s (lists-by P end T s e);
          }

          pub of-table-fault : (f i : ℕ) → a ≡ Fault f i → JudgesOfTable nums directory ends widths t at (Fault f i)
          unfolding read_of_table
          of-table-fault f i p = record {
            judged = λ P end T s w e. then-fault _ _ nums at f i a (g.judged P T.keys (keyed-by P end T s w e)) p;
          }

  pub table-slots : AsksTable nums directory ends widths t → 4 * t < 2 ^ 64
  table-slots h = omega (arith, h.inside, h.stands.tables.few)

pub ruleset tables = (
  table-asks,
  table-inside,
  table-next,
  table-slots,
  table-patterns,
  table-action,
  of-table-past,
  of-table-fault,
)

-- an entry is the number of a table and what stands behind it
entry-alike : (P : Program) (T : Table) (t : ℕ)
    → Alike {B = Entry} (read_of_table P T)
    (read_patterns true P T.keys >>= λ patterns. looked_up 10 (numbered (action_at P T)) >>= λ action.
    read_arguments true P action.1.parameters >>= λ arguments.
    pure (record { table = t; patterns = patterns; position = action.0; arguments = arguments }))
unfolding read_of_table read_action
entry-alike P T t = alike_then _ λ patterns. alike_then _ λ action. alike-made _ _

module _ (nums directory ends widths : List ℕ) (at : ℕ) where
  pub entry-asks : (t : ℕ) → AsksLists nums directory ends widths → t < get_or directory 59 0
      → AsksTable nums directory ends widths t
  entry-asks t h l = record {
    program = h.program;
    end = h.end;
    stands = h.stands;
    known = h.known;
    inside = rw h.stands.tables.count at l;
  }

  pub entry-is : (t : ℕ) (r : Scan) → Holds nums at t → t < get_or directory 59 0
      → JudgesOfTable nums directory ends widths t (at + 1) r
      → JudgesEntry nums directory ends widths at r
  unfolding read_entry scan_of ◌>>=◌ and_then meaning numbered and_look
  entry-is t r h l g = record {
    judged = λ P end s w.
        let m : At P.tables t = member-at P.tables t (rw s.tables.count at l) in
        rw (looked-in 10 (numbered (get_elem? P.tables)) nums at h.inside, h.is, m.is, ← add-one at)
        (alike-scan nums (at + 1) r (entry-alike P m.member t)
        (g.judged P end m.member s w m.is));
  }

  pub entry-none : (t : ℕ) → Holds nums at t → get_or directory 59 0 ≤ t
      → JudgesEntry nums directory ends widths at (Fault 10 at)
  unfolding read_entry scan_of forget ◌>>=◌ and_then meaning numbered and_look
  entry-none t h l = record {
    judged = λ P end s w. rw (
      looked-in 10 (numbered (get_elem? P.tables)) nums at h.inside,
      h.is,
      no_member P.tables t (rw s.tables.count at l),
    );
  }

  pub entry-missing : (n i : ℕ) → Lacks nums 10 at n i → JudgesEntry nums directory ends widths at (Fault n i)
  unfolding read_entry scan_of forget ◌>>=◌ and_then
  entry-missing n i h = record {
    judged = λ P end s w.
        rw (h.number_is, h.index_is, looked-out 10 (numbered (get_elem? P.tables)) nums at h.beyond);
  }

pub ruleset entries = (entry-asks, entry-is, entry-none, entry-missing)
