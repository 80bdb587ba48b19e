-- The lists together: the entries, the store behind them, and the packet, with nothing behind that.
use mathlib.Core.Bool.{true}
use mathlib.Core.Path.{◌≡◌, refl}
use mathlib.Core.List.{List}
use Prim.Native.Nat.{ℕ, ◌-◌, ◌≤◌, ◌<◌}
use native.Mathlib.Omega.{arith}
use lib.ListN.{length, get_or, drop}
use Rattle.rules.specs.Syntax.{Program}
use Rattle.rules.specs.Reading.{bad, and_then, ◌>>=◌, pure}
use Rattle.rules.specs.Lists.{slots_of, read_entries, read_cells, read_store}
use Rattle.shape.specs.Scans.{Scan, Past, told}
use Rattle.shape.specs.Walks.{Laid, Lays}
use Rattle.program.specs.Stands.{StandsProgram}
use Rattle.std.specs.Prelude.{Ok, Err}
use Rattle.rules.specs.declared.Fault as rules
use Rattle.rules.specs.Answers.{number_of}
use Rattle.program.specs.Keys.{WidthsOf}
use Rattle.lists.specs.Listing.{read_last, listing, listed_of, entries_left, offsets_left, AsksLists, JudgesLists}
use Rattle.lists.specs.Parts.{lay_entries, JudgesEntryList, AsksCells, lay_offsets, JudgesCells, JudgesLast}
use Rattle.lists.proofs.Places.{EntryListAt, placed-entries, CellsAt, placed-cells, LastAt, placed-last}
use Rattle.lists.proofs.Steps.{Read, past-read, fault-read}

-- a program's end is where its entries begin
abbrev end_of : List ℕ → ℕ
end_of directory = get_or directory 69 0

pub lists-store : (nums directory ends widths : List ℕ) (store : ℕ) → AsksLists nums directory ends widths
    → AsksCells nums directory ends 0 (get_or directory 9 0) store store
lists-store nums directory ends widths store h = record {
  program = h.program;
  end = h.end;
  stands = h.stands;
  counted = omega (arith, h.stands.globals.count);
  later = omega arith;
}

-- a fault of the entries
pub lists-no-entries : (nums directory ends widths entries starts offsets : List ℕ) (e : rules.Fault)
    → JudgesEntryList nums directory ends widths (end_of directory) entries starts (told (Err e))
    → JudgesLists nums directory ends widths entries entries offsets offsets (Err e)
unfolding listing ◌>>=◌ and_then listed_of entries_left offsets_left
lists-no-entries nums directory ends widths entries starts offsets e w = record {
  judged = λ P end s known.
      let g : read_entries true P (drop (end_of directory) nums) (end_of directory) ≡ bad (number_of e.reason) e.index
      = fault-read (read_entries true P) nums (end_of directory) _ _ (told (Err e)) (w.judged P end s known).scan refl in
      rw (← s.ending) (record { answer = rw g; entries_are = rw g; offsets_are = rw g });
}

-- what is known behind the entries
module _ (nums directory ends widths entries starts : List ℕ) (store : ℕ)
    (w : JudgesEntryList nums directory ends widths (end_of directory) entries starts (Past store))
  where
    read-entries : (P : Program) (end : ℕ) → StandsProgram nums directory ends P end → WidthsOf P widths
        → Read (EntryListAt P) (read_entries true P) nums (end_of directory) store
    read-entries P end s known =
        past-read nums (end_of directory) store (Past store) (placed-entries P) (w.judged P end s known).scan refl

    module _ (offsets slots : List ℕ) where
      store-judged : (b : Scan)
          → JudgesCells nums directory ends 0 (get_or directory 9 0) store store offsets slots b
          → (P : Program) (end : ℕ) → StandsProgram nums directory ends P end
          → Lays (read_cells P P.globals) (lay_offsets P 0 (store - store)) nums store offsets slots b
      store-judged b v P end s = v.judged P end s (omega (arith, s.globals.count))

      -- a fault of the store
      pub lists-no-store : (e : rules.Fault)
          → JudgesCells nums directory ends 0 (get_or directory 9 0) store store offsets slots (told (Err e))
          → JudgesLists nums directory ends widths entries entries offsets offsets (Err e)
      unfolding listing read_store ◌>>=◌ and_then listed_of entries_left offsets_left
      lists-no-store e v = record {
        judged = λ P end s known.
            let d : Read (EntryListAt P) (read_entries true P) nums (end_of directory) store
            = read-entries P end s known in
            let g : read_cells P P.globals (drop store nums) store ≡ bad (number_of e.reason) e.index
            = fault-read (read_cells P P.globals) nums store _ _ (told (Err e))
            (store-judged (told (Err e)) v P end s).scan refl in
            rw (← s.ending)
            (record { answer = rw (d.gave, g); entries_are = rw (d.gave, g); offsets_are = rw (d.gave, g) });
      }

      module _ (last : ℕ)
          (v : JudgesCells nums directory ends 0 (get_or directory 9 0) store store offsets slots (Past last))
        where
          read-cells : (P : Program) (end : ℕ) → StandsProgram nums directory ends P end
              → Read (CellsAt P P.globals) (read_cells P P.globals) nums store last
          read-cells P end s =
              past-read nums store last (Past last) (placed-cells P P.globals)
              (store-judged (Past last) v P end s).scan refl

          pub lists_length : AsksLists nums directory ends widths → store ≤ last
          lists_length h = omega (arith, (read-cells h.program h.end h.stands).stands.after)

          -- a fault of the packet, or a number left over
          pub lists-no-packet : (e : rules.Fault) → JudgesLast nums last (told (Err e))
              → JudgesLists nums directory ends widths entries entries offsets offsets (Err e)
          unfolding listing read_store ◌>>=◌ and_then listed_of entries_left offsets_left
          lists-no-packet x u = record {
            judged = λ P end s known.
                let d : Read (EntryListAt P) (read_entries true P) nums (end_of directory) store
                = read-entries P end s known in
                let e : Read (CellsAt P P.globals) (read_cells P P.globals) nums store last
                = read-cells P end s in
                let g : read_last P (drop last nums) last ≡ bad (number_of x.reason) x.index
                = fault-read (read_last P) nums last _ _ (told (Err x)) (u.judged P s.version) refl in
                rw (← s.ending) (record {
                  answer = rw (d.gave, e.gave, g);
                  entries_are = rw (d.gave, e.gave, g);
                  offsets_are = rw (d.gave, e.gave, g);
                });
          }

          -- neither
          pub lists-fine : (next : ℕ) → JudgesLast nums last (Past next)
              → JudgesLists nums directory ends widths entries starts offsets slots
              (Ok (record { store = store; length = last - store }))
          unfolding listing read_store pure ◌>>=◌ and_then listed_of entries_left offsets_left Laid lay_entries lay_offsets
          lists-fine next u = record {
            judged = λ P end s known.
                let d : Read (EntryListAt P) (read_entries true P) nums (end_of directory) store
                = read-entries P end s known in
                let e : Read (CellsAt P P.globals) (read_cells P P.globals) nums store last
                = read-cells P end s in
                let g : Read (LastAt P) (read_last P) nums last next
                = past-read nums last next (Past next) (placed-last P) (u.judged P s.version) refl in
                let o : store - store ≡ 0 = omega arith in
                let m : last - store ≡ length (slots_of e.value) = omega (arith, e.stands.after) in
                rw (← s.ending) (record {
                  answer = rw (d.gave, e.gave, g.gave, m, ← d.stands.after);
                  entries_are = rw (d.gave, e.gave, g.gave) (rw d.gave at (w.judged P end s known).laid);
                  offsets_are = rw (d.gave, e.gave, g.gave)
                      (rw (e.gave, o) at (store-judged (Past last) v P end s).laid);
                });
          }

pub lists-numbers : (nums directory ends widths : List ℕ) → AsksLists nums directory ends widths → 0 < length nums
lists-numbers nums directory ends widths h = h.stands.version.inside

pub ruleset together = (
  lists-store,
  lists-numbers,
  lists-no-entries,
  lists-no-store,
  lists_length,
  lists-no-packet,
  lists-fine,
)
