-- Headers: the valid mark read, and what setting it makes of the cell and its slots.
use Rattle.program.specs.declared.Scope as coded
use mathlib.Core.Bool.{Bool, true, false}
use mathlib.Core.Option.{Option, some}
use mathlib.Core.Path.{◌≡◌, refl, sym, ap, ◌∙◌}
use mathlib.Core.List.{List, [], ◌∷◌}
use Prim.Native.Nat.{ℕ, zero, suc, ◌+◌, ◌≤◌, ◌<◌}
use native.Mathlib.Omega.{arith}
use lib.ListN.{length, get_or, set, length-set, length-map}
use Rattle.rules.specs.Reading.{most_globals}
use Rattle.rules.specs.Form.{and_look, a_header, Scope}
use Rattle.rules.specs.Lists.{Cell, header_cell, mark_of, slots_of_cell}
use Rattle.rules.specs.Running.{State, header_only, shape_for, valid_in, zeroed, make_valid, make_invalid, change_store}
use Rattle.rules.proofs.Predicates.{All2, nil, cons, SomeOf, is_some, some_then, from_some}
use Rattle.rules.proofs.Fits.{CellFits, valid_fits, invalid_fits, StateFits, make-valid, make-invalid, store-change, with-store}
use Rattle.shape.specs.Directory.{offsets_slot}
use Rattle.store.specs.Mirrors.{store_slots, Scene}
use Rattle.store.specs.Changes.{AsksHeader, Marked, ReadsMark, ChangesHeader}
use Rattle.store.specs.Fills.{AsksClear, Clears}
use Rattle.store.proofs.Cells.{start_of, cell-inside, cell-reads}
use Rattle.store.proofs.Declaring.{shaped-header}
use Rattle.store.proofs.Stored.{CellOf, cell-of, fields_in}
use Rattle.store.proofs.Changing.{set-replaced, Made, store-becomes}

-- a header's cell
record MarkIn (c : Cell) : Type 0 where
  valid : Bool
  is : valid_in c ≡ some valid
  told : get_or (slots_of_cell c) 0 0 ≡ mark_of valid

mark-in : {widths : List ℕ} {c : Cell} → CellFits (a_header widths) c → MarkIn c
unfolding valid_in slots_of_cell
mark-in (valid_fits h) = record { valid = true; is = refl; told = refl }
mark-in (invalid_fits h) = record { valid = false; is = refl; told = refl }

-- zeros are zeroed already
zeros-zeroed : {widths ns : List ℕ} → All2 (λ _ n. n ≡ 0) widths ns → zeroed ns ≡ ns
unfolding zeroed
zeros-zeroed nil = refl
zeros-zeroed (cons {b = n} e es) = rw (e, zeros-zeroed es)

record Validated (c : Cell) : Type 0 where
  cell : Cell
  is : make_valid c ≡ some cell
  slots : slots_of_cell cell ≡ set (slots_of_cell c) 0 1

validated : {widths : List ℕ} {c : Cell} → CellFits (a_header widths) c → Validated c
unfolding make_valid slots_of_cell mark_of
validated (valid_fits {ns = ns} h) = record { cell = header_cell true ns; is = refl; slots = refl }
validated (invalid_fits {ns = ns} h) = record {
  cell = header_cell true (zeroed ns);
  is = refl;
  slots = ap (λ ms. 1 ∷ ms) (zeros-zeroed h);
}

record Invalidated (c : Cell) : Type 0 where
  cell : Cell
  is : make_invalid c ≡ some cell
  size : length (slots_of_cell cell) ≡ length (slots_of_cell c)
  zeros : (j : ℕ) → get_or (slots_of_cell cell) j 0 ≡ 0

zeroed-zero : (ns : List ℕ) (j : ℕ) → get_or (zeroed ns) j 0 ≡ 0
unfolding zeroed
zeroed-zero [] j = refl
zeroed-zero (n ∷ ns) zero = refl
zeroed-zero (n ∷ ns) (suc j) = zeroed-zero ns j

cleared-zero : (ns : List ℕ) (j : ℕ) → get_or (0 ∷ zeroed ns) j 0 ≡ 0
cleared-zero ns zero = refl
cleared-zero ns (suc j) = zeroed-zero ns j

invalidated : {widths : List ℕ} {c : Cell} → CellFits (a_header widths) c → Invalidated c
unfolding make_invalid slots_of_cell mark_of zeroed
invalidated (valid_fits {ns = ns} h) = record {
  cell = header_cell false (zeroed ns);
  is = refl;
  size = ap suc (length-map ns (λ _. 0));
  zeros = cleared-zero ns;
}
invalidated (invalid_fits {ns = ns} h) = record {
  cell = header_cell false (zeroed ns);
  is = refl;
  size = ap suc (length-map ns (λ _. 0));
  zeros = cleared-zero ns;
}

-- in whatever state stands there
module _ (nums directory ends : List ℕ) (scope : coded.Scope) (slots frame : List ℕ) (g : ℕ) (Γ : Scope) (s : State) (widths : List ℕ)
    (h : Scene nums directory ends scope slots frame Γ s)
    (is : and_look (shape_for Γ g) header_only ≡ some widths) where
  pub header_at : CellOf directory s.store g (a_header widths)
  header_at = cell-of nums directory ends scope slots frame Γ s h g (a_header widths)
      (shaped-header Γ g widths is)

  pub header-inside : start_of s.store g + length (slots_of_cell header_at.cell) < store_slots
  header-inside = omega (arith, cell-inside slots s.store g header_at.cell header_at.found h.store)

  numbers : (j : ℕ) → j < length (slots_of_cell header_at.cell)
      → get_or slots (start_of s.store g + j) 0 ≡ get_or (slots_of_cell header_at.cell) j 0
  numbers = cell-reads slots s.store g header_at.cell header_at.found h.store

  marked : Marked s g (get_or slots (get_or directory (offsets_slot + g) 0) 0)
  unfolding and_look
  marked =
      let m = mark-in header_at.fits in
      let first : get_or directory (offsets_slot + g) 0 ≡ start_of s.store g + 0 = omega (arith, header_at.start) in
      record {
        valid = m.valid;
        is = rw header_at.found m.is;
        told = rw first (numbers 0 (omega (arith, fields_in header_at.fits)) ∙ m.told);
      }

  -- a change that every header of these widths takes leaves a state that fits
  pub still-fits : (f : Cell → Option Cell)
      → ((c : Cell) → CellFits (a_header widths) c → SomeOf (CellFits (a_header widths)) (f c))
      → SomeOf (StateFits Γ) (change_store f g s)
  unfolding change_store
  still-fits f k =
      some_then (from_some (rw (shaped-header Γ g widths is) at (store-change h.fits.store-fits g)) f k) λ cells q.
      is_some (with-store Γ h.fits q)

  made-valid : Made make_valid slots (set slots (get_or directory (offsets_slot + g) 0) 1) (start_of s.store g) header_at.cell
  made-valid =
      let v = validated header_at.fits in
      let first : get_or directory (offsets_slot + g) 0 ≡ start_of s.store g + 0 = omega (arith, header_at.start) in
      record {
        cell = v.cell;
        is = v.is;
        size = ap length v.slots ∙ length-set (slots_of_cell header_at.cell) 0 1;
        replaced = rw (v.slots, first) (set-replaced slots (slots_of_cell header_at.cell) (start_of s.store g) 0 1
            (omega (arith, header-inside, h.store.count)) (omega (arith, fields_in header_at.fits)) numbers);
      }

  made-invalid : (slots' : List ℕ) → Clears slots slots' (get_or directory (offsets_slot + g) 0) (get_or directory (offsets_slot + g + 1) 0)
      → Made make_invalid slots slots' (start_of s.store g) header_at.cell
  made-invalid slots' k =
      let v = invalidated header_at.fits in
      record {
        cell = v.cell;
        is = v.is;
        size = v.size;
        replaced = record {
          same = k.same;
          inside = λ j l. k.inside (start_of s.store g + j) (omega (arith, header_at.start))
              (omega (arith, header_at.next, v.size)) ∙ sym (v.zeros j);
          before = λ i l. k.before i (omega (arith, header_at.start));
          behind = λ i l. k.behind i (omega (arith, header_at.next, v.size));
        };
      }

-- the mark
module _ (directory slots : List ℕ) (g : ℕ) where
  pub record HeaderRoom : Type 0 where
    pub few : g < most_globals
    pub inside : get_or directory (offsets_slot + g) 0 < store_slots
    pub next : get_or directory (offsets_slot + g + 1) 0 ≤ store_slots

  pub header-room : AsksHeader directory slots g → HeaderRoom
  header-room a =
      let c = header_at a.nums directory a.ends a.scope slots a.frame g a.scope_of a.state
      a.widths a.scene a.is in
      let i = header-inside a.nums directory a.ends a.scope slots a.frame g a.scope_of
      a.state
      a.widths a.scene a.is in
      record {
        few = c.few;
        inside = omega (arith, i, c.start);
        next = omega (arith, i, c.next);
      }

  pub header-clears : AsksHeader directory slots g → AsksClear slots (get_or directory (offsets_slot + g) 0) (get_or directory (offsets_slot + g + 1) 0)
  header-clears a =
      let c = header_at a.nums directory a.ends a.scope slots a.frame g a.scope_of a.state
      a.widths a.scene a.is in
      record {
        up = omega (arith, c.start, c.next);
        most = omega (arith, (header-room a).next, a.scene.store.count);
      }

  pub mark-read : ReadsMark directory slots g (get_or slots (get_or directory (offsets_slot + g) 0) 0)
  mark-read = record {
    reads = λ nums ends scope frame Γ s widths h is. marked nums directory ends scope slots frame g
        Γ s
        widths h is;
  }

  pub header-validated : ChangesHeader make_valid directory slots (set slots (get_or directory (offsets_slot + g) 0) 1) g
  header-validated = record {
    changes = λ nums ends scope frame Γ s widths h is. store-becomes nums directory ends scope
        slots frame Γ
        s h g (a_header widths) (header_at nums directory ends scope slots frame g Γ s widths h is) make_valid
        (set slots (get_or directory (offsets_slot + g) 0) 1) (made-valid nums directory ends scope slots frame g Γ s widths h is)
        (still-fits nums directory ends scope slots frame g Γ s widths h is make_valid λ c k. make-valid k);
  }

  pub header-invalidated : (slots' : List ℕ) → Clears slots slots' (get_or directory (offsets_slot + g) 0) (get_or directory (offsets_slot + g + 1) 0)
      → ChangesHeader make_invalid directory slots slots' g
  header-invalidated slots' k = record {
    changes = λ nums ends scope frame Γ s widths h is. store-becomes nums directory ends scope
        slots frame Γ
        s h g (a_header widths) (header_at nums directory ends scope slots frame g Γ s widths h is)
        make_invalid slots'
        (made-invalid nums directory ends scope slots frame g Γ s widths h is slots' k)
        (still-fits nums directory ends scope slots frame g Γ s widths h is make_invalid λ c q. make-invalid q);
  }

pub ruleset marks = (header-clears, mark-read, header-validated, header-invalidated)
