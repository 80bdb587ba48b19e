-- What a body sees: how many callables it reaches; where its parameters stand and how many they are;
-- the same of its locals; the number of its kind and the type that it returns.
use Rattle.program.specs.declared.Kind.{Kind}
use Rattle.program.specs.declared.Kind.TheVariants as kinds
use Rattle.program.specs.declared.Scope as coded
use Rattle.std.specs.Prelude.{◌≡◌, List, ℕ, zero, suc, ◌≤◌, length}
use Rattle.rules.specs.Words.{widest}
use Rattle.rules.specs.Form.{Body, in_function, in_action, in_apply, in_state, Scope}
use Rattle.program.specs.Codes.{ty_of}
use Rattle.program.specs.Stands.{StandsParameters, StandsTypes, StandsProgram}

-- the numbers of the kinds
abbrev pub kind_number : Kind → ℕ
kind_number kinds.Action = 0
kind_number kinds.Function = 1
kind_number kinds.Apply = 2
kind_number kinds.State = 3

-- the kind of any number: every number behind those of the others is a state's
unfoldable pub kind_numbered : ℕ → Kind
kind_numbered zero = kinds.Action
kind_numbered (suc zero) = kinds.Function
kind_numbered (suc (suc zero)) = kinds.Apply
kind_numbered (suc (suc (suc kind))) = kinds.State

unfoldable pub body_numbered : ℕ → ℕ → Body
body_numbered zero returns = in_action
body_numbered (suc zero) returns = in_function (ty_of returns)
body_numbered (suc (suc zero)) returns = in_apply
body_numbered (suc (suc (suc kind))) returns = in_state

pub record StandsScope (nums directory ends : List ℕ) (scope : coded.Scope) (Γ : Scope) : Type 0 where
  pub end : ℕ
  pub program : StandsProgram nums directory ends Γ.program end
  pub reach : scope.reach ≡ Γ.reach
  pub reaches : Γ.reach ≤ length Γ.program.callables
  pub parameters : StandsParameters nums (scope.parameters) Γ.parameters
  pub parameter_count : scope.parameter_count ≡ length Γ.parameters
  pub locals : StandsTypes nums (scope.locals) Γ.locals
  pub local_count : scope.local_count ≡ length Γ.locals
  pub body : body_numbered scope.kind scope.returns ≡ Γ.body
  pub returns : scope.returns ≤ widest

-- of a body without parameters and locals
abbrev pub without_frame : ℕ → Kind → coded.Scope
without_frame reach kind = record {
  reach = reach;
  parameters = 0;
  parameter_count = 0;
  locals = 0;
  local_count = 0;
  kind = kind_number kind;
  returns = 0;
}
