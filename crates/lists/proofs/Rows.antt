-- Entries one after the other, with where each begins in the slots.
use mathlib.Core.Bool.{true}
use mathlib.Core.Path.{◌≡◌, refl, ◌∙◌}
use mathlib.Core.List.{List, ◌∷◌}
use Prim.Native.Nat.{ℕ, zero, suc, ◌+◌, ◌-◌, ◌≤◌, ◌<◌}
use native.Mathlib.Omega.{arith}
use native.Mathlib.Nat.{sub-zero}
use native.Mathlib.Numerals.{add-one, sub-one}
use lib.ListN.{length, get_or, set, drop}
use borrow.Author.Tests.{le-leb, lt-leb}
use Rattle.rules.specs.Syntax.{Program}
use Rattle.rules.specs.Reading.{Got, got, bad, and_then, ◌>>=◌, pure, meaning, within, repeat}
use Rattle.rules.specs.Lists.{Entry, most_entries, read_entry, read_entries}
use Rattle.rules.proofs.Readers.{looked-in, looked-out}
use Rattle.shape.specs.Scans.{Scan, Past, Fault}
use Rattle.shape.specs.Scans.{forget, scan_of}
use Rattle.shape.specs.Walks.{Laid, Lays}
use Rattle.program.specs.Stands.{Holds, StandsProgram}
use Rattle.program.specs.Keys.{WidthsOf}
use Rattle.lists.specs.Listing.{starts_from}
use Rattle.lists.specs.Parts.{Lacks, JudgesEntry, lay_starts, JudgesEntries, lay_entries, JudgesEntryList}
use Rattle.lists.proofs.Places.{PlacedAt, placed-entry, EntryAt, EntriesAt, placed-repeat}
use Rattle.lists.proofs.Steps.{Read, past-read, fault-read, alike-made, lays-bad}

module _ (nums directory ends widths : List ℕ) (count at slot : ℕ) (found : List ℕ) where
  pub entries_none : count ≡ 0 → JudgesEntries nums directory ends widths count at slot found found (Past at)
  unfolding repeat pure scan_of forget Laid lay_starts starts_from
  entries_none e = record { judged = λ P end s w. rw e (record { scan = refl; laid = refl }) }

  -- an entry, and those behind it
  with-first : (P : Program) (left n : ℕ) (filled : List ℕ) (r : Scan)
      → Read (EntryAt P) (read_entry true P) nums at n
      → Lays (repeat left (read_entry true P)) (lay_starts (slot + 1) n) nums n (set found slot at) filled r
      → Lays (repeat (suc left) (read_entry true P)) (lay_starts slot at) nums at found filled r
  unfolding repeat pure scan_of ◌>>=◌ and_then Laid lay_starts starts_from
  with-first P left n filled r d w = record {
    scan = rw d.gave (w.scan ∙ (alike-made (repeat left (read_entry true P)) _).alike (drop n nums) n);
    laid = rw d.gave (go (repeat left (read_entry true P) (drop n nums) n) w.laid);
  }
    where
      go : (y : Got (List Entry)) → Laid y (lay_starts (slot + 1) n) (set found slot at) filled
          → Laid (and_then y (λ rest. pure (d.value ∷ rest))) (lay_starts slot at) found filled
      go (got es rest next) l = rw (add-one slot, d.stands.after) at l
      go (bad fault index) l = tt

  module _ (a : Scan) (more : count ≡ 0 → ⊥) (g : JudgesEntry nums directory ends widths at a) where
    pub entries-past : (n : ℕ) (filled : List ℕ) (r : Scan) → a ≡ Past n
        → JudgesEntries nums directory ends widths (count - 1) n (slot + 1) (set found slot at) filled r
        → JudgesEntries nums directory ends widths count at slot found filled r
    entries-past n filled r p k = record { judged = λ P end s w. go P end s w count more (k.judged P end s w) }
      where
        go : (P : Program) (end : ℕ) → StandsProgram nums directory ends P end → WidthsOf P widths → (c : ℕ)
            → (c ≡ 0 → ⊥)
            → Lays (repeat (c - 1) (read_entry true P)) (lay_starts (slot + 1) n) nums n (set found slot at) filled r
            → Lays (repeat c (read_entry true P)) (lay_starts slot at) nums at found filled r
        go P end s w zero x l = absurd (x refl)
        go P end s w (suc c) x l = with-first P c n filled r
            (past-read nums at n a (placed-entry P) (g.judged P end s w) p) (rw (sub-one (suc c)) at l)

    pub entries-fault : (f i : ℕ) (filled : List ℕ) → a ≡ Fault f i
        → JudgesEntries nums directory ends widths count at slot found filled (Fault f i)
    unfolding repeat ◌>>=◌ and_then
    entries-fault f i filled p = record { judged = λ P end s w. go P end s w count more }
      where
        go : (P : Program) (end : ℕ) → StandsProgram nums directory ends P end → WidthsOf P widths → (c : ℕ)
            → (c ≡ 0 → ⊥)
            → Lays (repeat c (read_entry true P)) (lay_starts slot at) nums at found filled (Fault f i)
        go P end s w zero x = absurd (x refl)
        go P end s w (suc c) x = lays-bad _ _ nums at f i found filled
            (rw (fault-read (read_entry true P) nums at f i a (g.judged P end s w) p))

-- so many entries, of which some are done: what the rest is judged to be and leaves, all are and do
pub record EntriesLeft (nums directory ends widths : List ℕ) (count at : ℕ) (found : List ℕ) (done next : ℕ)
    (laid : List ℕ) : Type 0 where
  pub rest : (filled : List ℕ) (r : Scan)
      → JudgesEntries nums directory ends widths (count - done) next (done + 1) laid filled r
      → JudgesEntries nums directory ends widths count at 1 found filled r

pub rows-first : (nums directory ends widths : List ℕ) (count at : ℕ) (found : List ℕ)
    → EntriesLeft nums directory ends widths count at found 0 at found
rows-first nums directory ends widths count at found = record { rest = λ filled r h. rw sub-zero at h }

module _ (nums directory ends widths : List ℕ) (count at : ℕ) (found : List ℕ) (done next : ℕ) (laid : List ℕ)
    (w : EntriesLeft nums directory ends widths count at found done next laid)
  where
    module _ (m : done < count) (a : Scan) (g : JudgesEntry nums directory ends widths next a) where
      more : count - done ≡ 0 → ⊥
      more e = omega (arith, e)

      fewer : count - done - 1 ≡ count - (done + 1)
      fewer = omega arith

      pub rows-past : (n : ℕ) → a ≡ Past n
          → EntriesLeft nums directory ends widths count at found (done + 1) n (set laid (done + 1) next)
      rows-past n p = record {
        rest = λ filled r h.
            w.rest filled r
            (entries-past nums directory ends widths (count - done) next (done + 1) laid a more g n filled r p
            (rw (← fewer) at h));
      }

      pub rows-fault : (f i : ℕ) (filled : List ℕ) → a ≡ Fault f i
          → JudgesEntries nums directory ends widths count at 1 found filled (Fault f i)
      rows-fault f i filled p = w.rest filled (Fault f i)
          (entries-fault nums directory ends widths (count - done) next (done + 1) laid a more g f i filled p)

    pub rows-none : count ≤ done → JudgesEntries nums directory ends widths count at 1 found laid (Past next)
    rows-none m = w.rest laid (Past next)
        (entries_none nums directory ends widths (count - done) next (done + 1) laid (omega arith))

pub ruleset rows = (rows-first, rows-past, rows-fault, rows-none)

-- the list of them
module _ (nums : List ℕ) (at : ℕ) (P : Program) where
  list-reads : (count : ℕ) → Holds nums at count → count ≤ 64
      → read_entries true P (drop at nums) at ≡ repeat count (read_entry true P) (drop (at + 1) nums) (at + 1)
  unfolding read_entries ◌>>=◌ and_then meaning within
  list-reads count h m = rw (
    ← h.is,
    looked-in 10 (within 0 most_entries) nums at h.inside,
    within,
    le-leb 0 (get_or nums at 0) (omega arith),
    le-leb (get_or nums at 0) 64 (rw h.is m),
    add-one at,
  )

  list-above : (count : ℕ) → Holds nums at count → 64 < count → read_entries true P (drop at nums) at ≡ bad 10 at
  unfolding read_entries ◌>>=◌ and_then meaning within
  list-above count h m = rw (
    looked-in 10 (within 0 most_entries) nums at h.inside,
    h.is,
    within,
    le-leb 0 count (omega arith),
    lt-leb count 64 m,
  )

  list-beyond : length nums ≤ at → read_entries true P (drop at nums) at ≡ bad 10 at
  unfolding read_entries ◌>>=◌ and_then
  list-beyond h = rw (looked-out 10 (within 0 most_entries) nums at h)

module _ (nums directory ends widths : List ℕ) (at : ℕ) (found filled : List ℕ) where
  counted : (P : Program) (n : ℕ) (y : Got (List Entry)) → PlacedAt (EntriesAt P n) nums (at + 1) y
      → Laid y (lay_starts 1 (at + 1)) (set found 0 n) filled → Laid y (lay_entries at) found filled
  unfolding PlacedAt Laid lay_starts lay_entries
  counted P n (got es left next) p l = rw (add-one at, ← p.1.counted) at l
  counted P n (bad fault index) p l = tt

  pub list-is : (count : ℕ) (r : Scan) → Holds nums at count → count ≤ 64
      → JudgesEntries nums directory ends widths count (at + 1) 1 (set found 0 count) filled r
      → JudgesEntryList nums directory ends widths at found filled r
  unfolding scan_of
  list-is count r h m g = record {
    judged = λ P end s w. record {
      scan = rw (list-reads nums at P count h m) (g.judged P end s w).scan;
      laid = rw (list-reads nums at P count h m)
          (counted P count (repeat count (read_entry true P) (drop (at + 1) nums) (at + 1))
          ((placed-repeat P count).placed nums (at + 1)) (g.judged P end s w).laid);
    };
  }

  pub list-high : (count : ℕ) → Holds nums at count → 64 < count
      → JudgesEntryList nums directory ends widths at found filled (Fault 10 at)
  list-high count h m =
      record { judged = λ P end s w. lays-bad _ _ nums at 10 at found filled (list-above nums at P count h m) }

  pub list-missing : (n i : ℕ) → Lacks nums 10 at n i
      → JudgesEntryList nums directory ends widths at found filled (Fault n i)
  list-missing n i h = rw (h.number_is, h.index_is)
      (record { judged = λ P end s w. lays-bad _ _ nums at 10 at found filled (list-beyond nums at P h.beyond) })

pub ruleset entry_lists = (list-is, list-high, list-missing)
