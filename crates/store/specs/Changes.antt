-- What is asked and promised where a state changes: a place is written, a header is set valid or invalid. The step
-- counter and the free slots of the frame stay.
use Rattle.program.specs.declared.Scope as coded
use Rattle.std.specs.Prelude.{Bool, ◌≡◌, List, ℕ, ◌+◌, ◌≤◌, length, get_or}
use Rattle.std.proofs.Math.Option.{Option, some}
use Rattle.std.proofs.Math.ListN.{get_elem?}
use Rattle.rules.specs.Syntax.{Ty, Place}
use Rattle.rules.specs.Form.{and_look, Scope}
use Rattle.rules.specs.Lists.{Cell, mark_of}
use Rattle.rules.specs.Running.{State, header_only, shape_for, declared, valid_in, change_store, put}
use Rattle.rules.proofs.Fits.{Fit}
use Rattle.store.specs.Mirrors.{counter_slot, Scene}
use Rattle.store.specs.Places.{NamesPlace, AsksPlace, AsksStored}

-- a frame of which only the first slots, a body's own, may have changed
pub record KeepsFree (frame frame' : List ℕ) (own : ℕ) : Type 0 where
  pub same : length frame' ≡ length frame
  pub free : (i : ℕ) → own ≤ i → get_or frame' i 0 ≡ get_or frame i 0

-- what the rules make of a state stands in the slots afterwards
pub record Becomes (nums directory ends : List ℕ) (scope : coded.Scope) (slots slots' frame frame' : List ℕ) (Γ : Scope) (s : State)
    (made : Option State) : Type 0 where
  pub state : State
  pub is : made ≡ some state
  pub scene : Scene nums directory ends scope slots' frame' Γ state
  pub counter : get_or slots' counter_slot 0 ≡ get_or slots counter_slot 0
  pub keeps : KeepsFree frame frame' (length s.parameters + length s.locals)

-- a global that is a header and is seen
pub record AsksHeader (directory slots : List ℕ) (g : ℕ) : Type 0 where
  pub nums : List ℕ
  pub ends : List ℕ
  pub scope : coded.Scope
  pub frame : List ℕ
  pub scope_of : Scope
  pub state : State
  pub widths : List ℕ
  pub scene : Scene nums directory ends scope slots frame scope_of state
  pub is : and_look (shape_for scope_of g) header_only ≡ some widths

-- its valid mark
pub record Marked (s : State) (g mark : ℕ) : Type 0 where
  pub valid : Bool
  pub is : and_look (get_elem? s.store g) valid_in ≡ some valid
  pub told : mark ≡ mark_of valid

pub record ReadsMark (directory slots : List ℕ) (g r : ℕ) : Type 0 where
  pub reads : (nums ends : List ℕ) (scope : coded.Scope) (frame : List ℕ) (Γ : Scope) (s : State) (widths : List ℕ)
      → Scene nums directory ends scope slots frame Γ s → and_look (shape_for Γ g) header_only ≡ some widths
      → Marked s g r

-- its change
pub record ChangesHeader (change : Cell → Option Cell) (directory slots slots' : List ℕ) (g : ℕ) : Type 0 where
  pub changes : (nums ends : List ℕ) (scope : coded.Scope) (frame : List ℕ) (Γ : Scope) (s : State) (widths : List ℕ)
      → Scene nums directory ends scope slots frame Γ s → and_look (shape_for Γ g) header_only ≡ some widths
      → Becomes nums directory ends scope slots slots' frame frame Γ s (change_store change g s)

-- a place is written
pub record WritesPlace (nums directory ends : List ℕ) (scope : coded.Scope) (slots slots' frame frame' : List ℕ) (at number : ℕ)
    : Type 0 where
  pub writes : (Γ : Scope) (s : State) (p : Place) (t : Ty) → Scene nums directory ends scope slots frame Γ s
      → NamesPlace nums at p → declared Γ p ≡ some t → Fit t number
      → Becomes nums directory ends scope slots slots' frame frame' Γ s (put p number s)

-- one of a tag that stands in the frame; and one that stands in the store
pub record WritesFramed (nums : List ℕ) (scope : coded.Scope) (frame frame' : List ℕ) (at number : ℕ) : Type 0 where
  pub framed : (directory ends slots : List ℕ)
      → WritesPlace nums directory ends scope slots slots frame frame' at number

pub record AsksCell (tag : ℕ) (nums directory slots : List ℕ) (at : ℕ) : Type 0 where
  pub ends : List ℕ
  pub asks : AsksStored tag nums directory ends slots at

pub record WritesCell (nums directory slots slots' : List ℕ) (at number : ℕ) : Type 0 where
  pub stored : (ends : List ℕ) (scope : coded.Scope) (frame : List ℕ)
      → WritesPlace nums directory ends scope slots slots' frame frame at number

-- one of any tag
pub record AsksWrite (nums directory : List ℕ) (scope : coded.Scope) (slots frame : List ℕ) (at : ℕ) : Type 0 where
  pub ends : List ℕ
  pub asks : AsksPlace nums directory ends scope slots frame at

pub record Writes (nums directory : List ℕ) (scope : coded.Scope) (slots slots' frame frame' : List ℕ) (at number : ℕ) : Type 0 where
  pub written : (ends : List ℕ)
      → WritesPlace nums directory ends scope slots slots' frame frame' at number
