-- The places of the store: a global's cell, and the slots of its numbers.
use Rattle.program.specs.declared.Scope as coded
use mathlib.Core.Option.{Option, some}
use mathlib.Core.Path.{◌≡◌, refl, sym, ap, ◌∙◌}
use mathlib.Core.List.{List}
use Prim.Native.Nat.{ℕ, suc, ◌+◌, ◌≤◌, ◌<◌}
use native.Mathlib.Omega.{arith}
use lib.ListN.{length, get_or, get_elem?}
use Rattle.rules.specs.Numbers.{most_bytes}
use Rattle.rules.specs.Words.{widest}
use Rattle.rules.specs.Syntax.{Ty, global, field}
use Rattle.rules.specs.Reading.{most_globals}
use Rattle.rules.specs.Form.{and_look, Shape, a_variable, a_header, shape_in, global_at, Scope}
use Rattle.rules.specs.Lists.{Cell, variable_cell, header_cell, slots_of_cell}
use Rattle.rules.specs.Running.{State, declared, variable_in, field_in, held}
use Rattle.rules.proofs.Predicates.{SomeOf, is_some, from_some}
use Rattle.rules.proofs.Fits.{CellFits, variable_fits, valid_fits, invalid_fits, store-look, all2-length}
use Rattle.shape.specs.Directory.{offsets_slot}
use Rattle.program.specs.Codes.{ty_of}
use Rattle.program.specs.Stands.{HoldsWithin}
use Rattle.program.specs.Looks.{Has, Finds, globals_of, FoundGlobal}
use Rattle.program.proofs.Found.{member-in}
use Rattle.program.proofs.Members.{width-at, bits_of}
use Rattle.lists.specs.Listing.{shape_size}
use Rattle.store.specs.Mirrors.{store_slots, Scene}
use Rattle.store.specs.Places.{field_tag, variable_tag, AsksStored, ReadsStored, AsksHeaderTy, FindsHeaderTy}
use Rattle.store.proofs.Flat.{look_at, behind}
use Rattle.store.proofs.Declaring.{declared-variable, declared-field}
use Rattle.store.proofs.Spots.{first_number, second_number, named-global, named-field, Spot, Asked, asked, spot-reads}
use Rattle.store.proofs.Cells.{start_of, cell-size, start-next, offset-is, cell-inside, cell-reads}
use Rattle.store.proofs.Shapes.{global-variable}

-- the cell of a global
pub record CellOf (directory : List ℕ) (cells : List Cell) (g : ℕ) (shape : Shape) : Type 0 where
  pub few : g < most_globals
  pub cell : Cell
  pub found : get_elem? cells g ≡ some cell
  pub fits : CellFits shape cell
  pub start : get_or directory (offsets_slot + g) 0 ≡ start_of cells g
  pub next : get_or directory (offsets_slot + g + 1) 0 ≡ start_of cells g + length (slots_of_cell cell)

record Fitting (cells : List Cell) (g : ℕ) (shape : Shape) : Type 0 where
  cell : Cell
  found : get_elem? cells g ≡ some cell
  fits : CellFits shape cell

fitting : {shape : Shape} {o : Option Cell} (cells : List Cell) (g : ℕ) → get_elem? cells g ≡ o
    → SomeOf (CellFits shape) o
    → Fitting cells g shape
fitting cells g e (is_some {a = c} h) = record { cell = c; found = e; fits = h }

pub cell-of : (nums directory ends : List ℕ) (scope : coded.Scope) (slots frame : List ℕ) (Γ : Scope) (s : State)
    → Scene nums directory ends scope slots frame Γ s → (g : ℕ) (shape : Shape)
    → global_at Γ.program g ≡ some shape → CellOf directory s.store g shape
unfolding global_at
cell-of nums directory ends scope slots frame Γ s h g shape e =
    let b = behind (get_elem? Γ.program.globals g) (λ x. shape_in Γ.program x.ty) shape e in
    let i : g < length Γ.program.globals = member-in Γ.program.globals g b.found b.is in
    let look = store-look h.fits.store-fits g in
    let c : Fitting s.store g shape = fitting s.store g refl (from_some (rw e at look)) in
    let first = h.offset.is g (omega arith) ∙ offset-is h.fits.store-fits 0 g (omega arith) in
    let behind : offsets_slot + (g + 1) ≡ offsets_slot + g + 1 = omega arith in
    let last = rw behind at (h.offset.is (g + 1) (omega arith)) ∙ offset-is h.fits.store-fits 0 (g + 1) (omega arith) in
    record {
      few = omega (arith, h.scopes.program.globals.few);
      cell = c.cell;
      found = c.found;
      fits = c.fits;
      start = omega (arith, first);
      next = omega (arith, last, start-next s.store g c.cell c.found);
    }

-- what a cell holds is among its numbers, and there are some
pub cell-some : (c : Cell) → 0 < length (slots_of_cell c)
unfolding slots_of_cell
cell-some (variable_cell n) = omega arith
cell-some (header_cell valid ns) = omega arith

variable-in : {t : Ty} {c : Cell} → CellFits (a_variable t) c → variable_in c ≡ some (get_or (slots_of_cell c) 0 0)
unfolding variable_in slots_of_cell
variable-in (variable_fits h) = refl

pub fields_in : {widths : List ℕ} {c : Cell} → CellFits (a_header widths) c
    → length (slots_of_cell c) ≡ suc (length widths)
unfolding shape_size
fields_in h = cell-size h

field-in : {widths : List ℕ} {c : Cell} (f : ℕ) → CellFits (a_header widths) c → f < length widths
    → field_in f c ≡ some (get_or (slots_of_cell c) (suc f) 0)
unfolding field_in slots_of_cell
field-in f (valid_fits {ns = ns} h) i = look_at ns f (omega (arith, all2-length h))
field-in f (invalid_fits {ns = ns} h) i = look_at ns f (omega (arith, all2-length h))

-- what the indices of a place of the store ask
pub record StoreRoom (nums : List ℕ) (last g slot : ℕ) : Type 0 where
  pub few : length nums ≤ most_bytes
  pub behind : last < length nums
  pub global : g < most_globals
  pub inside : slot < store_slots

module _ (nums directory ends slots : List ℕ) (at : ℕ) where
  abbrev g : ℕ
  g = first_number nums at

  abbrev f : ℕ
  f = second_number nums at

  abbrev field_slot : ℕ
  field_slot = get_or directory (offsets_slot + g) 0 + 1 + f

  -- in whatever state stands there
  module _ (scope : coded.Scope) (frame : List ℕ) (Γ : Scope) (s : State) (t : Ty)
      (h : Scene nums directory ends scope slots frame Γ s) where
    abbrev cell_of : (shape : Shape) → global_at Γ.program g ≡ some shape → CellOf directory s.store g shape
    cell_of = cell-of nums directory ends scope slots frame Γ s h g

    variable-inside : declared Γ (global g) ≡ some t → get_or directory (offsets_slot + g) 0 < store_slots
    variable-inside d =
        let c = cell_of (a_variable t) (declared-variable Γ g t d) in
        omega (arith, c.start, cell-inside slots s.store g c.cell c.found h.store, cell-some c.cell)

    variable-spot : (n : ℕ) → Finds globals_of (FoundGlobal n) nums directory ends g → declared Γ (global g) ≡ some t
        → Spot slots (global g) s t n (get_or directory (offsets_slot + g) 0)
    unfolding held and_look
    variable-spot n k d =
        let e = declared-variable Γ g t d in
        let c = cell_of (a_variable t) e in
        let v = global-variable nums directory ends g Γ.program h.scopes.end h.scopes.program t n e k in
        let first : get_or directory (offsets_slot + g) 0 ≡ start_of s.store g + 0 = omega (arith, c.start) in
        record {
          most = v.most;
          typed = v.is;
          inside = omega (arith, variable-inside d, h.store.count);
          holds = rw (
            c.found,
            first,
            cell-reads slots s.store g c.cell c.found h.store 0
                (cell-some c.cell),
          )
              (variable-in c.fits);
        }

    field-inside : declared Γ (field g f) ≡ some t → field_slot < store_slots
    field-inside d =
        let k = declared-field Γ g f t d in
        let c = cell_of (a_header k.widths) k.is in
        omega (
          arith,
          c.start,
          cell-inside slots s.store g c.cell c.found h.store,
          fields_in c.fits,
          member-in k.widths f k.width k.found,
        )

    field-width : (r : ℕ) → FindsHeaderTy nums directory ends g r → (d : declared Γ (field g f) ≡ some t)
        → HoldsWithin 1 widest nums (r + 1 + f) (declared-field Γ g f t d).width
    field-width r q d =
        let k = declared-field Γ g f t d in
        width-at nums (r + 1) k.widths
        (q.finds Γ.program h.scopes.end k.widths h.scopes.program k.is).stand f
        k.width k.found

    field-spot : (r : ℕ) → FindsHeaderTy nums directory ends g r → declared Γ (field g f) ≡ some t
        → Spot slots (field g f) s t (get_or nums (r + 1 + f) 0) field_slot
    unfolding held and_look
    field-spot r q d =
        let k = declared-field Γ g f t d in
        let c = cell_of (a_header k.widths) k.is in
        let w = field-width r q d in
        let i : f < length k.widths = member-in k.widths f k.width k.found in
        let first : field_slot ≡ start_of s.store g + suc f = omega (arith, c.start) in
        let l : suc f < length (slots_of_cell c.cell) = omega (arith, fields_in c.fits) in
        record {
          most = omega (arith, w.holds.is, w.at_most);
          typed = ap ty_of w.holds.is ∙ (bits_of k.width w.at_least ∙ sym k.typed);
          inside = omega (arith, field-inside d, h.store.count);
          holds = rw (c.found, first, cell-reads slots s.store g c.cell c.found h.store (suc f) l)
              (field-in f c.fits i);
        }

  module _ (asks : AsksStored variable_tag nums directory ends slots at) where
    abbrev asked_variable : Asked nums directory ends asks.scope slots asks.frame at variable_tag
        (at + 1) (global g)
        (named-global nums at) asks.is
    asked_variable = asked nums directory ends asks.scope slots asks.frame at variable_tag (at + 1)
        (global g)
        (named-global nums at) asks.is asks.asks

    pub variable-room : StoreRoom nums (at + 1) g (get_or directory (offsets_slot + g) 0)
    variable-room =
        let a = asked_variable in
        let e = declared-variable a.scope_of g a.ty a.declares in
        record {
          few = a.few;
          behind = a.behind;
          global = (cell_of asks.scope asks.frame a.scope_of a.state a.ty a.scene (a_variable a.ty)
              e).few;
          inside = variable-inside asks.scope asks.frame a.scope_of a.state a.ty a.scene a.declares;
        }

    pub variable-global : Has globals_of nums directory ends g
    unfolding global_at globals_of
    variable-global =
        let a = asked_variable in
        let P = a.scope_of.program in
        let b = behind (get_elem? P.globals g) (λ x. shape_in P x.ty) (a_variable a.ty)
        (declared-variable a.scope_of g a.ty a.declares) in
        record {
          program = P;
          end = a.scene.scopes.end;
          stands = a.scene.scopes.program;
          inside = member-in P.globals g b.found b.is;
        }

    pub variable-reads : (n : ℕ) → Finds globals_of (FoundGlobal n) nums directory ends g
        → ReadsStored nums directory ends slots at (record { ty = n; number = get_or slots (get_or directory (offsets_slot + g) 0) 0 })
    variable-reads n k = record {
      stored = λ scope frame. spot-reads nums directory ends scope slots frame at variable_tag (at + 1)
          (global g)
          (named-global nums at) asks.is slots n (get_or directory (offsets_slot + g) 0)
          (λ Γ s t h d. variable-spot scope frame Γ s t h n k d);
    }

  module _ (asks : AsksStored field_tag nums directory ends slots at) where
    abbrev asked_field : Asked nums directory ends asks.scope slots asks.frame at field_tag (at + 2)
        (field g f)
        (named-field nums at) asks.is
    asked_field = asked nums directory ends asks.scope slots asks.frame at field_tag (at + 2) (field g f)
        (named-field nums at) asks.is asks.asks

    pub field_room : StoreRoom nums (at + 2) g field_slot
    field_room =
        let a = asked_field in
        let k = declared-field a.scope_of g f a.ty a.declares in
        record {
          few = a.few;
          behind = a.behind;
          global = (cell_of asks.scope asks.frame a.scope_of a.state a.ty a.scene
              (a_header k.widths) k.is).few;
          inside = field-inside asks.scope asks.frame a.scope_of a.state a.ty a.scene a.declares;
        }

    pub field-header : AsksHeaderTy nums directory ends g
    field-header =
        let a = asked_field in
        let k = declared-field a.scope_of g f a.ty a.declares in
        record {
          program = a.scope_of.program;
          end = a.scene.scopes.end;
          widths = k.widths;
          stands = a.scene.scopes.program;
          is = k.is;
        }

    pub field-typed : (r : ℕ) → FindsHeaderTy nums directory ends g r → r + 1 + f < length nums
    field-typed r q =
        let a = asked_field in
        (field-width asks.scope asks.frame a.scope_of a.state a.ty a.scene r q a.declares
        ).holds.inside

    pub field-reads : (r : ℕ) → FindsHeaderTy nums directory ends g r → ReadsStored nums directory ends slots at
        (record { ty = get_or nums (r + 1 + f) 0; number = get_or slots field_slot 0 })
    field-reads r q = record {
      stored = λ scope frame. spot-reads nums directory ends scope slots frame at field_tag (at + 2) (field g f)
          (named-field nums at) asks.is slots (get_or nums (r + 1 + f) 0) field_slot
          (λ Γ s t h d. field-spot scope frame Γ s t h r q d);
    }

pub ruleset stored = (variable-global, variable-reads, field-header, field-typed, field-reads)
