-- What is asked and promised around a call: where its arguments go, and what comes back.
use Rattle.program.specs.declared.Scope as coded
use Rattle.std.specs.Prelude.{Bool, true, false, ◌≡◌, List, ℕ, ◌+◌, ◌≤◌, ◌<◌, length, get_or, set}
use Rattle.rules.specs.Syntax.{Value, value, Expr, Args, Parameter, place_in}
use Rattle.rules.specs.Reading.{most_parameters, most_locals}
use Rattle.rules.specs.Form.{comes_back, Scope}
use Rattle.rules.specs.Running.{State, Ending, returned_value, Out, M, pure, write_back, come_back, after_body, after_call}
use Rattle.rules.proofs.Predicates.{All2}
use Rattle.rules.proofs.Fits.{FitParameter}
use Rattle.program.specs.Codes.{direction_number, arg_count}
use Rattle.program.specs.Stands.{Holds, StandsExpr, StandsArgs, StandsParameters}
use Rattle.program.specs.Scopes.{StandsScope}
use Rattle.store.specs.Mirrors.{Scene}
use Rattle.store.specs.Changes.{KeepsFree}
use Rattle.steps.specs.declared.Ended.{Ended}
use Rattle.steps.specs.Outcomes.{Goes, Ran, Gave, Ends, EndsRun, Laid}

-- the slots of a body's own
abbrev pub own_of : Scope → ℕ
own_of Γ = length Γ.parameters + length Γ.locals

abbrev pub most_own : ℕ
most_own = most_parameters + most_locals

pub record AsksOwn (scope : coded.Scope) : Type 0 where
  pub nums : List ℕ
  pub directory : List ℕ
  pub ends : List ℕ
  pub scope_of : Scope
  pub stands : StandsScope nums directory ends scope scope_of
  pub few : own_of scope_of ≤ most_own

pub record Owns (scope : coded.Scope) (r : ℕ) : Type 0 where
  pub is : (nums directory ends : List ℕ) (Γ : Scope) → StandsScope nums directory ends scope Γ → r ≡ own_of Γ

-- a number in a slot
pub record AsksKeep (slots : List ℕ) (slot : ℕ) : Type 0 where
  pub inside : slot < length slots

pub record Keeps (slots slots' : List ℕ) (slot number : ℕ) : Type 0 where
  pub is : slots' ≡ set slots slot number

-- one argument of a call that is over: what comes back of it, if anything does
unfoldable pub one_back : Scope → Parameter → Expr → ℕ → M State (Unit {0})
one_back Γ p e n = elim (comes_back p.direction) [
  | true ↦ write_back Γ (place_in e) (value p.ty n)
  | false ↦ pure tt
]

pub record LeftOne (nums directory ends : List ℕ) (scope : coded.Scope) (slots frame : List ℕ) (at parameters slot : ℕ) (Γ : Scope)
    (s : State) (e : Expr) (p : Parameter) (n : ℕ) : Type 0 where
  pub depth : ℕ
  pub scene : Scene nums directory ends scope slots frame Γ s
  pub stands : StandsExpr nums ends depth at e
  pub direction : Holds nums parameters (direction_number p.direction)
  pub own : own_of Γ ≤ slot
  pub inside : slot < length frame
  pub is : get_or frame slot 0 ≡ n
  pub fit : FitParameter p n

pub record AsksOneBack (nums directory : List ℕ) (scope : coded.Scope) (slots frame : List ℕ) (at parameters slot : ℕ) : Type 0 where
  pub ends : List ℕ
  pub scope_of : Scope
  pub state : State
  pub expr : Expr
  pub parameter : Parameter
  pub number : ℕ
  pub left : LeftOne nums directory ends scope slots frame at parameters slot scope_of state expr parameter number
  pub counted : ℕ
  pub going : Goes counted (one_back scope_of parameter expr number state)

pub record RanBack (nums directory ends : List ℕ) (scope : coded.Scope) (slots slots' frame frame' : List ℕ) (Γ : Scope)
    (o : Out State (Unit {0})) : Type 0 where
  pub ran : Ran nums directory ends scope slots slots' frame frame' Γ o (λ _. Unit {0})
  pub keeps : KeepsFree frame frame' (own_of Γ)

pub record BacksOne (nums directory : List ℕ) (scope : coded.Scope) (slots slots' frame frame' : List ℕ) (at parameters slot : ℕ) : Type 0 where
  pub backs : (ends : List ℕ) (Γ : Scope) (s : State) (e : Expr) (p : Parameter) (n counted : ℕ)
      → LeftOne nums directory ends scope slots frame at parameters slot Γ s e p n
      → Goes counted (one_back Γ p e n s)
      → RanBack nums directory ends scope slots slots' frame frame' Γ (one_back Γ p e n s)

-- the arguments of a call that is over, and the numbers that the callee left in free slots one after the other
pub record Left (nums directory ends : List ℕ) (scope : coded.Scope) (slots frame : List ℕ) (at parameters count slot : ℕ) (Γ : Scope)
    (s : State) (xs : Args) (ps : List Parameter) (ns : List ℕ) : Type 0 where
  pub depth : ℕ
  pub scene : Scene nums directory ends scope slots frame Γ s
  pub stand : StandsArgs nums ends depth at xs
  pub parameters_stand : StandsParameters nums parameters ps
  pub counts : count ≡ arg_count xs
  pub own : own_of Γ ≤ slot
  pub room : slot + count ≤ length frame
  pub fit : All2 FitParameter ps ns
  pub laid : Laid frame slot ns

pub record AsksBack (nums directory ends : List ℕ) (scope : coded.Scope) (slots frame : List ℕ) (at parameters count slot : ℕ) : Type 0 where
  pub scope_of : Scope
  pub state : State
  pub args : Args
  pub list : List Parameter
  pub numbers : List ℕ
  pub left : Left nums directory ends scope slots frame at parameters count slot scope_of state args list numbers
  pub counted : ℕ
  pub going : Goes counted (come_back scope_of args list numbers state)

pub record Backs (nums directory ends : List ℕ) (scope : coded.Scope) (slots slots' frame frame' : List ℕ) (at parameters count slot : ℕ)
    : Type 0 where
  pub backs : (Γ : Scope) (s : State) (xs : Args) (ps : List Parameter) (ns : List ℕ)
      (counted : ℕ)
      → Left nums directory ends scope slots frame at parameters count slot Γ s xs ps ns
      → Goes counted (come_back Γ xs ps ns s)
      → Ran nums directory ends scope slots slots' frame frame' Γ (come_back Γ xs ps ns s) (λ _. Unit {0})

-- whether they come back, by how the callee's body ended
pub record TellsBack (ended : Ended) (r : Bool) : Type 0 where
  pub back : r ≡ true → EndsRun ended → ⊥
  pub none : r ≡ false → EndsRun ended

-- the same behind the callee's body, which ended in some way: the call's tag is given, and the slots are the first free ones
pub record AsksFinish (nums directory ends : List ℕ) (scope : coded.Scope) (slots frame : List ℕ) (at parameters count : ℕ) (ended : Ended)
    : Type 0 where
  pub scope_of : Scope
  pub state : State
  pub args : Args
  pub list : List Parameter
  pub numbers : List ℕ
  pub inside : at < length nums
  pub few : own_of scope_of ≤ most_own
  pub left : Left nums directory ends scope slots frame (at + 3) parameters count (own_of scope_of) scope_of state args list
      numbers
  pub ending : Ending
  pub told : Ends ended ending
  pub counted : ℕ
  pub going : Goes counted (after_body ending (come_back scope_of args list numbers) state)

pub record Finishes (nums directory ends : List ℕ) (scope : coded.Scope) (slots slots' frame frame' : List ℕ) (at parameters count : ℕ)
    (ended : Ended) : Type 0 where
  pub finishes : (Γ : Scope) (s : State) (xs : Args) (ps : List Parameter) (ns : List ℕ) (ending : Ending) (counted : ℕ)
      → Left nums directory ends scope slots frame (at + 3) parameters count (own_of Γ) Γ s xs ps ns → Ends ended ending
      → Goes counted (after_body ending (come_back Γ xs ps ns) s)
      → Ran nums directory ends scope slots slots' frame frame' Γ (after_body ending (come_back Γ xs ps ns) s) (Ends ended)

-- how a call statement goes on
pub record AfterCall (ended r : Ended) : Type 0 where
  pub goes_on : (ending : Ending) → Ends ended ending → Ends r (after_call ending)

-- the value that a body returned
pub record Returns (ended : Ended) (ty number : ℕ) : Type 0 where
  pub is : (v : Value) → Ends ended (returned_value v) → Gave ty number v
