-- What the judgement of a call and of its arguments asks and promises.
use Rattle.program.specs.declared.Scope as coded
use Rattle.std.specs.Prelude.{Bool, true, false, ◌&&◌, ◌||◌, ◌≡◌, List, [], ◌∷◌, ℕ, suc, ◌+◌, ◌-◌, ◌≤◌, ◌<◌, ltb, eqb, length, Result, Ok, Err, Some, None}
use Rattle.std.specs.Prelude.{Option as Optional}
use Rattle.std.proofs.Math.Option.{Option}
use Rattle.rules.specs.declared.Fault.{Fault}
use Rattle.rules.specs.Answers.{number_of}
use Rattle.rules.specs.Numbers.{most_bytes}
use Rattle.rules.specs.Words.{widest}
use Rattle.rules.specs.Syntax.{Ty, Parameter, Args}
use Rattle.rules.specs.Reading.{most_arguments}
use Rattle.rules.specs.Form.{Res, ok, fault, ◌>>=◌, named, need, callable_below, Scope, Given, types_agree, places_agree, judge_given, judge_args}
use Rattle.program.specs.Codes.{ty_of, direction_number, arg_count}
use Rattle.program.specs.Stands.{Holds, HoldsWithin, StandsArgs, StandsParameters}
use Rattle.program.specs.Scopes.{StandsScope}
use Rattle.program.specs.Looks.{returns_of}
use Rattle.bodies.specs.declared.Callee.{Callee}
use Rattle.bodies.specs.declared.Agreed.{Agreed}
use Rattle.bodies.specs.declared.Parameter as coded_parameter
use Rattle.bodies.specs.declared.Wanted.{Wanted}

-- what a call calls, and whether its arguments agree; or the first fault
abbrev pub Called : Type 0
Called = Result Callee Fault

abbrev pub Passed : Type 0
Passed = Result Agreed Fault

-- whether arguments agree with parameters, in number and type, and in place
pub record Agreement : Type 0 where
  pub types : Bool
  pub places : Bool

unfoldable pub agreement : List Parameter → List Given → Agreement
agreement ps xs = record { types = types_agree ps xs; places = places_agree ps xs }

unfoldable pub told_passed : Passed → Res Agreement
told_passed (Ok a) = ok (record { types = a.types; places = a.places })
told_passed (Err f) = fault (number_of f.reason) f.index

-- so many arguments for the parameters that are left
pub record AsksArgs (nums directory ends : List ℕ) (scope : coded.Scope) (depth at count parameters left : ℕ) : Type 0 where
  pub scope_of : Scope
  pub arguments : Args
  pub wanted : List Parameter
  pub seen : StandsScope nums directory ends scope scope_of
  pub stand : StandsArgs nums ends depth at arguments
  pub counted : count ≡ arg_count arguments
  pub few : count ≤ most_arguments
  pub wanted_stand : StandsParameters nums parameters wanted
  pub left_is : left ≡ length wanted

pub record JudgesArgs (nums directory ends : List ℕ) (scope : coded.Scope) (depth at count parameters left : ℕ)
    (r : Passed) : Type 0 where
  pub judged : (Γ : Scope) (xs : Args) (ps : List Parameter) → StandsScope nums directory ends scope Γ
      → StandsArgs nums ends depth at xs → count ≡ arg_count xs → StandsParameters nums parameters ps → left ≡ length ps
      → told_passed r ≡ (judge_args Γ xs >>= λ given. ok (agreement ps given))

-- the parameter that comes next
pub record AsksWanted (nums : List ℕ) (parameters left : ℕ) : Type 0 where
  pub numbers : length nums ≤ most_bytes
  pub wanted : List Parameter
  pub stand : StandsParameters nums parameters wanted
  pub left_is : left ≡ length wanted

pub record NextWanted (nums : List ℕ) (p : coded_parameter.Parameter) (next left : ℕ) (ps : List Parameter) : Type 0 where
  pub parameter : Parameter
  pub others : List Parameter
  pub same : ps ≡ parameter ∷ others
  pub direction_is : p.direction ≡ direction_number parameter.direction
  pub ty_is : ty_of p.ty ≡ parameter.ty
  pub others_stand : StandsParameters nums next others
  pub left_is : left ≡ length others

pub record NoneWanted (left : ℕ) (ps : List Parameter) : Type 0 where
  pub same : ps ≡ []
  pub left_is : left ≡ 0

unfoldable pub WantedIf : List ℕ → Optional coded_parameter.Parameter → ℕ → ℕ → List Parameter → Type 0
WantedIf nums (Some p) next left ps = NextWanted nums p next left ps
WantedIf nums None next left ps = NoneWanted left ps

pub record IsWanted (nums : List ℕ) (parameters left : ℕ) (w : Wanted) : Type 0 where
  pub told : (ps : List Parameter) → StandsParameters nums parameters ps → left ≡ length ps
      → WantedIf nums w.parameter w.next w.left ps

-- an argument against its parameter, and those behind it
unfoldable pub weighed : Optional coded_parameter.Parameter → ℕ → Bool → Agreed → Agreed
weighed (Some p) t writable behind = record {
  types = eqb p.ty t && behind.types;
  places = (ltb p.direction 2 || writable) && behind.places;
}
weighed None t writable behind = record { types = false; places = true }

pub record Weighs (w : Wanted) (t : ℕ) (writable : Bool) (behind r : Agreed) : Type 0 where
  pub told : r ≡ weighed w.parameter t writable behind

-- a call: what stands behind its tag, and what the callable returns
pub record StandsCall (nums ends : List ℕ) (depth at callable : ℕ) (arguments : Args) : Type 0 where
  pub levels : 0 < depth
  pub holds : Holds nums (at + 1) callable
  pub count : HoldsWithin 0 most_arguments nums (at + 2) (arg_count arguments)
  pub stand : StandsArgs nums ends (depth - 1) (at + 3) arguments

unfoldable pub judge_call : Scope → ℕ → ℕ → Args → Res (Option Ty)
judge_call Γ at f xs = do
  c ← named (suc at) (callable_below Γ.program Γ.reach f)
  given ← judge_args Γ xs
  agree ← judge_given at c.parameters given
  ok c.returns

unfoldable pub told_call : Called → Res (Option Ty)
told_call (Ok c) = ok (returns_of c.kind c.returns)
told_call (Err f) = fault (number_of f.reason) f.index

unfoldable pub CalledMost : Called → Type 0
CalledMost (Ok c) = c.returns ≤ widest
CalledMost (Err f) = Unit

pub record AsksCall (nums directory ends : List ℕ) (scope : coded.Scope) (depth at : ℕ) : Type 0 where
  pub scope_of : Scope
  pub callable : ℕ
  pub arguments : Args
  pub seen : StandsScope nums directory ends scope scope_of
  pub stands : StandsCall nums ends depth at callable arguments

pub record JudgesCall (nums directory ends : List ℕ) (scope : coded.Scope) (depth at : ℕ) (r : Called) : Type 0 where
  pub judged : (Γ : Scope) (f : ℕ) (xs : Args) → StandsScope nums directory ends scope Γ
      → StandsCall nums ends depth at f xs → told_call r ≡ judge_call Γ at f xs
  pub most : CalledMost r

-- a call whose arguments are judged: 7, then 8
pub record Settles (at kind returns : ℕ) (types places : Bool) (r : Called) : Type 0 where
  pub told : told_call r ≡ (need 7 at types >>= λ _. need 8 at places >>= λ _. ok (returns_of kind returns))
  pub most : CalledMost r
