-- Where the cells of a store stand among its numbers, and what changing one of them changes.
use mathlib.Core.Option.{some}
use mathlib.Core.Path.{◌≡◌, refl, sym, ap, ◌∙◌}
use mathlib.Core.List.{List, [], ◌∷◌, ◌++◌, append_assoc}
use Prim.Native.Nat.{ℕ, zero, suc, ◌+◌, ◌-◌, ◌≤◌, ◌<◌}
use native.Mathlib.Numerals.{add-one}
use native.Mathlib.Omega.{arith}
use lib.ListN.{length, get_or, get_elem?, set, length-append, get_or-append}
use lib.Seq.{get_or-append-add}
use Rattle.rules.specs.Syntax.{Global, Program}
use Rattle.rules.specs.Form.{Shape, shape_in}
use Rattle.rules.specs.Lists.{Cell, slots_of_cell, slots_of}
use Rattle.rules.proofs.Predicates.{All2, nil, cons}
use Rattle.rules.proofs.Fits.{CellFits, variable_fits, valid_fits, invalid_fits, GlobalFits, global_fits, all2-length}
use Rattle.lists.specs.Listing.{shape_size, offsets_from}
use Rattle.store.specs.Mirrors.{most_stored, MirrorsStore}
use Rattle.store.proofs.Flat.{Order, under, beyond, order}

-- how many numbers stand before a cell
unfoldable pub start_of : List Cell → ℕ → ℕ
start_of [] g = 0
start_of (c ∷ cs) zero = 0
start_of (c ∷ cs) (suc g) = length (slots_of_cell c) + start_of cs g

pub cell-size : {shape : Shape} {c : Cell} → CellFits shape c → length (slots_of_cell c) ≡ shape_size (some shape)
unfolding slots_of_cell shape_size
cell-size (variable_fits h) = refl
cell-size (valid_fits h) = ap suc (all2-length h)
cell-size (invalid_fits h) = ap suc (all2-length h)

pub global-size : {P : Program} {g : Global} {c : Cell} → GlobalFits P g c
    → length (slots_of_cell c) ≡ shape_size (shape_in P g.ty)
global-size (global_fits e h) = rw e (cell-size h)

-- the offsets are those of a store that fits
pub offset-is : {P : Program} {gs : List Global} {cells : List Cell} → All2 (GlobalFits P) gs cells
    → (before g : ℕ) → g ≤ length gs → get_or (offsets_from P before gs) g 0 ≡ before + start_of cells g
unfolding offsets_from start_of
offset-is nil before zero h = omega arith
offset-is nil before (suc g) h = absurd (omega arith)
offset-is (cons k ks) before zero h = omega arith
offset-is {P} (cons {a = x} k ks) before (suc g) h =
    offset-is ks (before + shape_size (shape_in P x.ty)) g (omega arith) ∙ omega (arith, global-size k)

start_first : (cells : List Cell) → start_of cells 0 ≡ 0
unfolding start_of
start_first [] = refl
start_first (c ∷ cs) = refl

pub start-next : (cells : List Cell) (g : ℕ) (c : Cell) → get_elem? cells g ≡ some c
    → start_of cells (g + 1) ≡ start_of cells g + length (slots_of_cell c)
unfolding start_of
start-next [] g c e = let z : ◌≡◌ {A = ℕ} 0 1 = cc in absurd (omega arith)
start-next (x ∷ cs) zero c e =
    let same : x ≡ c = cc in
    rw same (omega (arith, start_first cs))
start-next (x ∷ cs) (suc g) c e = rw (add-one (suc g)) (omega (arith, rw (add-one g) at (start-next cs g c e)))

-- the numbers before a cell and behind it
pub record Around (cells : List Cell) (g : ℕ) (c : Cell) : Type 0 where
  pub front : List ℕ
  pub back : List ℕ
  pub start : length front ≡ start_of cells g
  pub is : slots_of cells ≡ front ++ (slots_of_cell c ++ back)
  pub changed : (d : Cell) → slots_of (set cells g d) ≡ front ++ (slots_of_cell d ++ back)

pub around : (cells : List Cell) (g : ℕ) (c : Cell) → get_elem? cells g ≡ some c → Around cells g c
unfolding slots_of start_of
around [] g c e = let z : ◌≡◌ {A = ℕ} 0 1 = cc in absurd (omega arith)
around (x ∷ cs) zero c e =
    let same : x ≡ c = cc in
    record { front = []; back = slots_of cs; start = refl; is = rw same; changed = λ d. refl }
around (x ∷ cs) (suc g) c e =
    let r : Around cs g c = around cs g c e in
    record {
      front = slots_of_cell x ++ r.front;
      back = r.back;
      start = length-append (slots_of_cell x) r.front ∙ rw r.start;
      is = rw (r.is, append_assoc);
      changed = λ d. rw (r.changed d, append_assoc);
    }

-- three parts of a list, by position
module _ (front middle back : List ℕ) where
  abbrev whole : List ℕ
  whole = front ++ (middle ++ back)

  whole_length : length whole ≡ length front + length middle + length back
  whole_length = simp length-append (omega arith)

  in-front : (k : ℕ) → k < length front → get_or whole k 0 ≡ get_or front k 0
  in-front k h = get_or-append front (middle ++ back) 0 k h

  in-middle : (j : ℕ) → j < length middle → get_or whole (length front + j) 0 ≡ get_or middle j 0
  in-middle j h = get_or-append-add front (middle ++ back) j 0 ∙ get_or-append middle back 0 j h

  in-back : (k j : ℕ) → k ≡ length front + (length middle + j) → get_or whole k 0 ≡ get_or back j 0
  in-back k j e = rw e (get_or-append-add front (middle ++ back) (length middle + j) 0 ∙ get_or-append-add middle back j 0)

-- numbers replaced from a slot on
pub record Replaced (slots slots' : List ℕ) (start : ℕ) (ns : List ℕ) : Type 0 where
  pub same : length slots' ≡ length slots
  pub inside : (j : ℕ) → j < length ns → get_or slots' (start + j) 0 ≡ get_or ns j 0
  pub before : (k : ℕ) → k < start → get_or slots' k 0 ≡ get_or slots k 0
  pub behind : (k : ℕ) → start + length ns ≤ k → get_or slots' k 0 ≡ get_or slots k 0

module _ (slots slots' front old new back : List ℕ) (size : length new ≡ length old)
    (is : (k : ℕ) → k < length (whole front old back) → get_or slots k 0 ≡ get_or (whole front old back) k 0)
    (r : Replaced slots slots' (length front) new) where
  part-changed : (k : ℕ) → k < length (whole front new back) → Order k (length front)
      → Order k (length front + length new)
      → get_or slots' k 0 ≡ get_or (whole front new back) k 0
  part-changed k h (under i) o =
      let l : k < length (whole front old back) = omega (arith, whole_length front old back) in
      r.before k i ∙ (is k l ∙ (in-front front old back k i ∙ sym (in-front front new back k i)))
  part-changed k h (beyond i) (under o) =
      let e : k ≡ length front + (k - length front) = omega arith in
      let l : k - length front < length new = omega arith in
      rw e (r.inside (k - length front) l ∙ sym (in-middle front new back (k - length front) l))
  part-changed k h (beyond i) (beyond o) =
      let l : k < length (whole front old back)
      = omega (arith, whole_length front old back, whole_length front new back) in
      let j : ℕ = k - (length front + length new) in
      r.behind k o
      ∙ (is k l ∙ (in-back front old back k j (omega arith) ∙ sym (in-back front new back k j (omega arith))))

-- a cell in slots that mirror the store
module _ (slots : List ℕ) (cells : List Cell) (g : ℕ) (c : Cell) (e : get_elem? cells g ≡ some c)
    (m : MirrorsStore slots cells) where
  abbrev a : Around cells g c
  a = around cells g c e

  pub cell-inside : start_of cells g + length (slots_of_cell c) ≤ most_stored
  cell-inside = omega (arith, m.most, ap length a.is, whole_length a.front (slots_of_cell c) a.back, a.start)

  pub cell-reads : (j : ℕ) → j < length (slots_of_cell c) → get_or slots (start_of cells g + j) 0 ≡ get_or (slots_of_cell c) j 0
  cell-reads j h =
      let l : start_of cells g + j < length (slots_of cells)
      = omega (arith, ap length a.is, whole_length a.front (slots_of_cell c) a.back, a.start) in
      m.is (start_of cells g + j) l ∙ rw (a.is, ← a.start) (in-middle a.front (slots_of_cell c) a.back j h)

  pub cell-changed : (slots' : List ℕ) (d : Cell) → length (slots_of_cell d) ≡ length (slots_of_cell c)
      → Replaced slots slots' (start_of cells g) (slots_of_cell d) → MirrorsStore slots' (set cells g d)
  cell-changed slots' d size r =
      let n : length (slots_of (set cells g d)) ≡ length (slots_of cells)
      = omega (
        arith,
        ap length a.is,
        whole_length a.front (slots_of_cell c) a.back,
        ap length (a.changed d),
        whole_length a.front (slots_of_cell d) a.back,
      ) in
      record {
        count = r.same ∙ m.count;
        most = omega (arith, m.most);
        is = λ k h. rw (a.changed d)
            (part-changed slots slots' a.front (slots_of_cell c) (slots_of_cell d) a.back size
            (rw a.is at m.is) (rw (← a.start) at r) k (rw (a.changed d) at h) (order k (length a.front))
            (order k (length a.front + length (slots_of_cell d))));
      }
