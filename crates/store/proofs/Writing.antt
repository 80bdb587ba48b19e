-- What a write makes of a state: of the frame, and of a global's cell.
use Rattle.program.specs.declared.Scope as coded
use mathlib.Core.Bool.{true}
use mathlib.Core.Option.{Option, some}
use mathlib.Core.Path.{◌≡◌, refl, sym, ap, ◌∙◌}
use mathlib.Core.List.{List}
use Prim.Native.Nat.{ℕ, suc, ◌+◌, ◌<◌}
use native.Mathlib.Omega.{arith}
use lib.ListN.{length, get_or, get_elem?, set, length-set}
use Rattle.rules.specs.Syntax.{Ty, local, parameter, global, field}
use Rattle.rules.specs.Form.{and_look, Shape, a_variable, a_header, global_at, Scope}
use Rattle.rules.specs.Lists.{Cell, variable_cell, header_cell, mark_of, slots_of_cell}
use Rattle.rules.specs.Running.{State, change, declared, set_variable, set_field, with_locals, with_parameters, put}
use Rattle.rules.proofs.Fits.{Fit, CellFits, variable_fits, valid_fits, invalid_fits, all2-length}
use Rattle.shape.specs.Directory.{offsets_slot}
use Rattle.program.proofs.Found.{member-in}
use Rattle.store.specs.Mirrors.{Scene}
use Rattle.store.specs.Places.{field_tag, local_tag, parameter_tag, variable_tag, AsksFramed}
use Rattle.store.specs.Changes.{Becomes, WritesFramed, AsksCell, WritesCell}
use Rattle.store.proofs.Flat.{look_at, change-is, behind}
use Rattle.store.proofs.Spots.{first_number, second_number, named-local, named-parameter, named-global, named-field}
use Rattle.store.proofs.Cells.{start_of, cell-inside, cell-reads, Replaced}
use Rattle.store.proofs.Declaring.{declared-variable, declared-field}
use Rattle.store.proofs.Stored.{CellOf, cell-of, cell-some, fields_in}
use Rattle.store.proofs.Changing.{set-replaced, the-some, Made, store-becomes, put-fits, spot-writes}

-- a number put into a list
put_in : (n : ℕ) (ns : List ℕ) (i : ℕ) → i < length ns → change (λ _. some n) ns i ≡ some (set ns i n)
put_in n ns i h = change-is (λ _. some n) ns i (get_or ns i 0) n (look_at ns i h) refl

-- the frame
module _ (nums : List ℕ) (scope : coded.Scope) (frame : List ℕ) (at number : ℕ) where
  abbrev i : ℕ
  i = first_number nums at

  module _ (directory ends slots : List ℕ) (Γ : Scope) (s : State) (t : Ty)
      (h : Scene nums directory ends scope slots frame Γ s) where
    abbrev ps : List ℕ
    ps = s.parameters

    abbrev ls : List ℕ
    ls = s.locals

    local-becomes : declared Γ (local i) ≡ some t → Fit t number
        → Becomes nums directory ends scope slots slots frame (set frame (scope.parameter_count + i) number) Γ s
        (put (local i) number s)
    unfolding declared put with_locals and_look
    local-becomes d fit =
        let k : i < length ls = omega (arith, all2-length h.fits.locals-fit, member-in Γ.locals i t d) in
        let e : scope.parameter_count + i ≡ length ps + i
        = omega (arith, all2-length h.fits.parameters-fit, h.scopes.parameter_count) in
        let made : put (local i) number s ≡ some (with_locals s (set ls i number)) = rw (put_in number ls i k) in
        let r : Replaced frame (set frame (length ps + i) number) (length ps) (set ls i number)
        = set-replaced frame ls (length ps) i number h.frames.room k h.frames.local in
        rw e (record {
          state = with_locals s (set ls i number);
          is = made;
          scene = record {
            scopes = h.scopes;
            offset = h.offset;
            fits = the-some made (put-fits Γ (local i) s t number h.fits d fit);
            store = h.store;
            frames = record {
              room = omega (arith, h.frames.room, length-set ls i number, length-set frame (length ps + i) number);
              parameter = λ j l. r.before j l ∙ h.frames.parameter j l;
              local = r.inside;
            };
            packet = h.packet;
          };
          counter = refl;
          keeps = record { same = r.same; free = λ j l. r.behind j (omega (arith, length-set ls i number)) };
        })

    parameter-becomes : declared Γ (parameter i) ≡ some t → Fit t number
        → Becomes nums directory ends scope slots slots frame (set frame i number) Γ s
        (put (parameter i) number s)
    unfolding declared put with_parameters and_look
    parameter-becomes d fit =
        let m = behind (get_elem? Γ.parameters i) (λ p. some p.ty) t d in
        let k : i < length ps
        = omega (arith, all2-length h.fits.parameters-fit, member-in Γ.parameters i m.found m.is) in
        let made : put (parameter i) number s ≡ some (with_parameters s (set ps i number)) = rw (put_in number ps i k) in
        let first : (j : ℕ) → 0 + j ≡ j = λ j. omega arith in
        let r : Replaced frame (set frame (0 + i) number) 0 (set ps i number)
        = set-replaced frame ps 0 i number (omega (arith, h.frames.room)) k
        (λ j l. rw (first j) (h.frames.parameter j l)) in
        let q : Replaced frame (set frame i number) 0 (set ps i number) = rw (first i) at r in
        let n : length (set ps i number) ≡ length ps = length-set ps i number in
        record {
          state = with_parameters s (set ps i number);
          is = made;
          scene = record {
            scopes = h.scopes;
            offset = h.offset;
            fits = the-some made (put-fits Γ (parameter i) s t number h.fits d fit);
            store = h.store;
            frames = record {
              room = omega (arith, h.frames.room, length-set frame i number);
              parameter = λ j l. rw (first j) at (q.inside j l);
              local = λ j l. rw n (q.behind (length ps + j) (omega arith) ∙ h.frames.local j l);
            };
            packet = h.packet;
          };
          counter = refl;
          keeps = record { same = q.same; free = λ j l. q.behind j (omega arith) };
        }

  pub local-writes : AsksFramed local_tag nums scope frame at
      → WritesFramed nums scope frame (set frame (scope.parameter_count + i) number) at number
  local-writes asks = record {
    framed = λ directory ends slots. spot-writes nums directory ends scope slots slots frame
        (set frame (scope.parameter_count + i) number) at number local_tag (at + 1) (local i) (named-local nums at) asks.is
        (local-becomes directory ends slots);
  }

  pub parameter-writes : AsksFramed parameter_tag nums scope frame at
      → WritesFramed nums scope frame (set frame i number) at number
  parameter-writes asks = record {
    framed = λ directory ends slots. spot-writes nums directory ends scope slots slots frame
        (set frame i number) at number parameter_tag (at + 1) (parameter i) (named-parameter nums at) asks.is
        (parameter-becomes directory ends slots);
  }

-- a cell whose variable or field is set, and one whose field is not, since it is invalid
record Set (f : Cell → Option Cell) (c : Cell) (j n : ℕ) : Type 0 where
  cell : Cell
  is : f c ≡ some cell
  slots : slots_of_cell cell ≡ set (slots_of_cell c) j n

variable-set : {t : Ty} {c : Cell} (n : ℕ) → CellFits (a_variable t) c → Set (set_variable n) c 0 n
unfolding set_variable slots_of_cell
variable-set n (variable_fits h) = record { cell = variable_cell n; is = refl; slots = refl }

field-set : {widths : List ℕ} {c : Cell} (f n : ℕ) → CellFits (a_header widths) c → f < length widths
    → get_or (slots_of_cell c) 0 0 ≡ 1 → Set (set_field f n) c (suc f) n
unfolding set_field slots_of_cell mark_of and_look
field-set f n (valid_fits {ns = ns} h) i e = record {
  cell = header_cell true (set ns f n);
  is = rw (put_in n ns f (omega (arith, all2-length h)));
  slots = refl;
}
field-set f n (invalid_fits h) i e = absurd (omega arith)

field-kept : {widths : List ℕ} {c : Cell} (f n : ℕ) → CellFits (a_header widths) c → (get_or (slots_of_cell c) 0 0 ≡ 1 → ⊥)
    → set_field f n c ≡ some c
unfolding set_field slots_of_cell mark_of
field-kept f n (valid_fits h) x = absurd (x refl)
field-kept f n (invalid_fits h) x = refl

-- the store
module _ (nums directory slots : List ℕ) (at number : ℕ) where
  abbrev g : ℕ
  g = first_number nums at

  abbrev f : ℕ
  f = second_number nums at

  module _ (ends : List ℕ) (scope : coded.Scope) (frame : List ℕ) (Γ : Scope) (s : State) (t : Ty)
      (h : Scene nums directory ends scope slots frame Γ s) where
    abbrev cell_of : (shape : Shape) → global_at Γ.program g ≡ some shape → CellOf directory s.store g shape
    cell_of = cell-of nums directory ends scope slots frame Γ s h g

    -- a number of a cell is set
    made-set : (change : Cell → Option Cell) (shape : Shape) (c : CellOf directory s.store g shape) (j slot : ℕ)
        → slot ≡ start_of s.store g + j → j < length (slots_of_cell c.cell) → Set change c.cell j number
        → Made change slots (set slots slot number) (start_of s.store g) c.cell
    made-set change shape c j slot e l v = record {
      cell = v.cell;
      is = v.is;
      size = ap length v.slots ∙ length-set (slots_of_cell c.cell) j number;
      replaced = rw (v.slots, e) (set-replaced slots (slots_of_cell c.cell) (start_of s.store g) j number
          (omega (arith, cell-inside slots s.store g c.cell c.found h.store, h.store.count)) l
          (cell-reads slots s.store g c.cell c.found h.store));
    }

    variable-becomes : declared Γ (global g) ≡ some t → Fit t number
        → Becomes nums directory ends scope slots (set slots (get_or directory (offsets_slot + g) 0) number) frame frame Γ s
        (put (global g) number s)
    unfolding put
    variable-becomes d fit =
        let c = cell_of (a_variable t) (declared-variable Γ g t d) in
        store-becomes nums directory ends scope slots frame Γ s h g (a_variable t) c (set_variable number)
        (set slots (get_or directory (offsets_slot + g) 0) number)
        (made-set (set_variable number) (a_variable t) c 0 (get_or directory (offsets_slot + g) 0) (omega (arith, c.start))
        (cell-some c.cell)
        (variable-set number c.fits))
        (put-fits Γ (global g) s t number h.fits d fit)

    -- a header's mark
    mark-slot : (shape : Shape) (c : CellOf directory s.store g shape)
        → get_or (slots_of_cell c.cell) 0 0 ≡ get_or slots (get_or directory (offsets_slot + g) 0) 0
    mark-slot shape c =
        let first : get_or directory (offsets_slot + g) 0 ≡ start_of s.store g + 0 = omega (arith, c.start) in
        sym (rw first (cell-reads slots s.store g c.cell c.found h.store 0 (cell-some c.cell)))

    field-becomes : get_or slots (get_or directory (offsets_slot + g) 0) 0 ≡ 1 → declared Γ (field g f) ≡ some t → Fit t number
        → Becomes nums directory ends scope slots (set slots (get_or directory (offsets_slot + g) 0 + 1 + f) number) frame frame Γ s
        (put (field g f) number s)
    unfolding put
    field-becomes valid d fit =
        let k = declared-field Γ g f t d in
        let c = cell_of (a_header k.widths) k.is in
        let i : f < length k.widths = member-in k.widths f k.width k.found in
        store-becomes nums directory ends scope slots frame Γ s h g (a_header k.widths) c (set_field f number)
        (set slots (get_or directory (offsets_slot + g) 0 + 1 + f) number)
        (made-set (set_field f number) (a_header k.widths) c (suc f) (get_or directory (offsets_slot + g) 0 + 1 + f)
        (omega (arith, c.start))
        (omega (arith, fields_in c.fits))
        (field-set f number c.fits i (mark-slot (a_header k.widths) c ∙ valid)))
        (put-fits Γ (field g f) s t number h.fits d fit)

    field-stays : (get_or slots (get_or directory (offsets_slot + g) 0) 0 ≡ 1 → ⊥) → declared Γ (field g f) ≡ some t → Fit t number
        → Becomes nums directory ends scope slots slots frame frame Γ s (put (field g f) number s)
    unfolding put
    field-stays invalid d fit =
        let k = declared-field Γ g f t d in
        let c = cell_of (a_header k.widths) k.is in
        store-becomes nums directory ends scope slots frame Γ s h g (a_header k.widths) c
        (set_field f number) slots
        (record {
          cell = c.cell;
          is = field-kept f number c.fits (λ e. invalid (sym (mark-slot (a_header k.widths) c) ∙ e));
          size = refl;
          replaced = record {
            same = refl;
            inside = cell-reads slots s.store g c.cell c.found h.store;
            before = λ j l. refl;
            behind = λ j l. refl;
          };
        })
        (put-fits Γ (field g f) s t number h.fits d fit)

  pub variable-writes : AsksCell variable_tag nums directory slots at
      → WritesCell nums directory slots (set slots (get_or directory (offsets_slot + g) 0) number) at number
  variable-writes asks = record {
    stored = λ ends scope frame. spot-writes nums directory ends scope slots
        (set slots (get_or directory (offsets_slot + g) 0) number) frame frame at number variable_tag (at + 1) (global g)
        (named-global nums at)
        asks.asks.is (variable-becomes ends scope frame);
  }

  module _ (asks : AsksCell field_tag nums directory slots at) where
    pub field-writes : get_or slots (get_or directory (offsets_slot + g) 0) 0 ≡ 1
        → WritesCell nums directory slots (set slots (get_or directory (offsets_slot + g) 0 + 1 + f) number) at number
    field-writes valid = record {
      stored = λ ends scope frame. spot-writes nums directory ends scope slots
          (set slots (get_or directory (offsets_slot + g) 0 + 1 + f) number) frame frame at number field_tag (at + 2) (field g f)
          (named-field nums at)
          asks.asks.is (λ Γ s t h. field-becomes ends scope frame Γ s t h valid);
    }

    pub field-unwritten : (get_or slots (get_or directory (offsets_slot + g) 0) 0 ≡ 1 → ⊥) → WritesCell nums directory slots slots at number
    field-unwritten invalid = record {
      stored = λ ends scope frame. spot-writes nums directory ends scope slots slots frame frame at
          number
          field_tag (at + 2) (field g f) (named-field nums at) asks.asks.is
          (λ Γ s t h. field-stays ends scope frame Γ s t h invalid);
    }

pub ruleset writings = (local-writes, parameter-writes, variable-writes, field-writes, field-unwritten)
