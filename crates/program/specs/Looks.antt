-- What a look at a part of a program finds: where the directory says that it stands.
use Rattle.std.proofs.Math.Option.{Option, none, some}
use Rattle.std.specs.Prelude.{◌≡◌, List, ℕ, zero, suc, ◌+◌, ◌≤◌, ◌<◌, length, get_or}
use Rattle.std.proofs.Math.ListN.{get_elem?}
use Rattle.rules.specs.Words.{widest}
use Rattle.rules.specs.Syntax.{Ty, GlobalTy, variable, header, HeaderTy, Global, Callable, Table, ParserState, Program}
use Rattle.rules.specs.Reading.{deepest, most_headers}
use Rattle.program.specs.Codes.{ty_of, header_number, callable_kind_number}
use Rattle.program.specs.Stands.{StandsParameters, StandsTypes, StandsStmt, StandsHeader, StandsTable, StandsState, StandsProgram, actions_at, default_at}

-- some program stands there, with a member of this number in one of its lists
pub record Has {A : Type 0} (list : Program → List A) (nums directory ends : List ℕ) (i : ℕ) : Type 0 where
  pub program : Program
  pub end : ℕ
  pub stands : StandsProgram nums directory ends program end
  pub inside : i < length (list program)

-- what is found of a member of this number, whatever program stands there
pub record Finds {A : Type 0} (list : Program → List A) (Found : A → Type 0) (nums directory ends : List ℕ) (i : ℕ)
    : Type 0 where
  pub finds : (P : Program) (end : ℕ) (x : A) → StandsProgram nums directory ends P end → get_elem? (list P) i ≡ some x
      → Found x

-- the lists
unfoldable pub headers_of : Program → List HeaderTy
headers_of P = P.headers

unfoldable pub globals_of : Program → List Global
globals_of P = P.globals

unfoldable pub callables_of : Program → List Callable
callables_of P = P.callables

unfoldable pub tables_of : Program → List Table
tables_of P = P.tables

unfoldable pub states_of : Program → List ParserState
states_of P = P.states

-- a global's type as it is written
unfoldable pub GlobalNumber : ℕ → GlobalTy → Type 0
GlobalNumber n (variable t) = (n ≤ widest) × (ty_of n ≡ t)
GlobalNumber n (header h) = (n ≡ header_number h) × (h < most_headers)

unfoldable pub FoundGlobal : ℕ → Global → Type 0
FoundGlobal n g = GlobalNumber n g.ty

-- what a callable of a kind returns
unfoldable pub returns_of : ℕ → ℕ → Option Ty
returns_of zero returns = none
returns_of (suc kind) returns = some (ty_of returns)

-- a callable's kind, what it returns, where its parameters begin and how many they are
pub record FoundHead (nums : List ℕ) (kind returns parameters count : ℕ) (c : Callable) : Type 0 where
  pub kind_is : kind ≡ callable_kind_number c.returns
  pub returns_is : returns_of kind returns ≡ c.returns
  pub returns_most : returns ≤ widest
  pub parameters_stand : StandsParameters nums parameters c.parameters
  pub count_is : count ≡ length c.parameters

-- where its locals begin and how many they are, and where its body stands
pub record FoundFrame (nums ends : List ℕ) (locals count body : ℕ) (c : Callable) : Type 0 where
  pub locals_stand : StandsTypes nums locals c.locals
  pub count_is : count ≡ length c.locals
  pub body_stands : StandsStmt nums ends deepest body c.body

-- where a header type stands; where a table stands, its actions and its default
unfoldable pub FoundHeader : List ℕ → ℕ → HeaderTy → Type 0
FoundHeader nums at h = StandsHeader nums at h

pub record FoundTable (nums ends : List ℕ) (at actions default : ℕ) (T : Table) : Type 0 where
  pub stands : StandsTable nums ends at T
  pub actions_is : actions ≡ actions_at ends at T
  pub default_is : default ≡ default_at ends at T

-- where a state stands
unfoldable pub FoundState : List ℕ → List ℕ → ℕ → ParserState → Type 0
FoundState nums ends at s = StandsState nums ends at s

-- so many keys, each of which has its end
unfoldable pub KeysInside : List ℕ → ℕ → ℕ → Type 0
KeysInside ends at zero = Unit
KeysInside ends at (suc count) = (at + 1 < length ends) × KeysInside ends (get_or ends (at + 1) 0) count
