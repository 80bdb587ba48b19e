-- What is asked and promised where a place is read. What is asked is that some state stands in the slots; what is
-- promised holds of whatever state stands there.
use Rattle.program.specs.declared.Scope as coded
use Rattle.std.proofs.Math.Option.{some}
use Rattle.std.specs.Prelude.{◌≡◌, List, ℕ, ◌+◌, ◌≤◌, length, get_or}
use Rattle.rules.specs.Words.{widest}
use Rattle.rules.specs.Syntax.{Ty, Place, Program}
use Rattle.rules.specs.Reading.{most_fields}
use Rattle.rules.specs.Form.{a_header, global_at, Scope}
use Rattle.rules.specs.Running.{State, declared, held}
use Rattle.rules.proofs.Fits.{Fit}
use Rattle.program.specs.Codes.{ty_of, place_tag}
use Rattle.program.specs.Stands.{Holds, HoldsWithin, StandsPlace, StandsWidths, StandsProgram}
use Rattle.values.specs.declared.Value.{Value}
use Rattle.store.specs.Mirrors.{Scene}

-- a place is named at an index: its tag, and the numbers behind it
pub record NamesPlace (nums : List ℕ) (at : ℕ) (p : Place) : Type 0 where
  pub tag : Holds nums at (place_tag p)
  pub stands : StandsPlace nums at p

-- one that is declared
pub record AsksPlace (nums directory ends : List ℕ) (scope : coded.Scope) (slots frame : List ℕ) (at : ℕ) : Type 0 where
  pub scope_of : Scope
  pub state : State
  pub place : Place
  pub ty : Ty
  pub scene : Scene nums directory ends scope slots frame scope_of state
  pub names : NamesPlace nums at place
  pub declares : declared scope_of place ≡ some ty

-- what a place is declared with, by the number of its type, and what it holds
pub record HeldAs (Γ : Scope) (p : Place) (s : State) (ty number : ℕ) : Type 0 where
  pub declares : declared Γ p ≡ some (ty_of ty)
  pub holds : held p s ≡ some number
  pub most : ty ≤ widest
  pub fit : Fit (ty_of ty) number

pub record ReadsPlace (nums directory ends : List ℕ) (scope : coded.Scope) (slots frame : List ℕ) (at : ℕ) (r : Value) : Type 0 where
  pub reads : (Γ : Scope) (s : State) (p : Place) (t : Ty) → Scene nums directory ends scope slots frame Γ s
      → NamesPlace nums at p → declared Γ p ≡ some t → HeldAs Γ p s r.ty r.number

-- the tags of places, as they are written
abbrev pub local_tag : ℕ
local_tag = 2

abbrev pub parameter_tag : ℕ
parameter_tag = 3

abbrev pub variable_tag : ℕ
variable_tag = 4

abbrev pub field_tag : ℕ
field_tag = 5

-- a place of a tag that stands in the frame; and one that stands in the store
pub record AsksFramed (tag : ℕ) (nums : List ℕ) (scope : coded.Scope) (frame : List ℕ) (at : ℕ) : Type 0 where
  pub directory : List ℕ
  pub ends : List ℕ
  pub slots : List ℕ
  pub asks : AsksPlace nums directory ends scope slots frame at
  pub is : get_or nums at 0 ≡ tag

pub record ReadsFramed (nums : List ℕ) (scope : coded.Scope) (frame : List ℕ) (at : ℕ) (r : Value) : Type 0 where
  pub framed : (directory ends slots : List ℕ) → ReadsPlace nums directory ends scope slots frame at r

pub record AsksStored (tag : ℕ) (nums directory ends slots : List ℕ) (at : ℕ) : Type 0 where
  pub scope : coded.Scope
  pub frame : List ℕ
  pub asks : AsksPlace nums directory ends scope slots frame at
  pub is : get_or nums at 0 ≡ tag

pub record ReadsStored (nums directory ends slots : List ℕ) (at : ℕ) (r : Value) : Type 0 where
  pub stored : (scope : coded.Scope) (frame : List ℕ) → ReadsPlace nums directory ends scope slots frame at r

-- where the type of a global that is a header stands: how many fields it has, and their widths behind
pub record AsksHeaderTy (nums directory ends : List ℕ) (g : ℕ) : Type 0 where
  pub program : Program
  pub end : ℕ
  pub widths : List ℕ
  pub stands : StandsProgram nums directory ends program end
  pub is : global_at program g ≡ some (a_header widths)

pub record HeaderTyAt (nums : List ℕ) (at : ℕ) (widths : List ℕ) : Type 0 where
  pub count : HoldsWithin 1 most_fields nums at (length widths)
  pub stand : StandsWidths nums (at + 1) widths

pub record FindsHeaderTy (nums directory ends : List ℕ) (g r : ℕ) : Type 0 where
  pub finds : (P : Program) (end : ℕ) (widths : List ℕ) → StandsProgram nums directory ends P end
      → global_at P g ≡ some (a_header widths) → HeaderTyAt nums r widths
