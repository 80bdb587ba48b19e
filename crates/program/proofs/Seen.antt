-- What a callable's body sees, and what the apply body and keys see, as the code has it.
use mathlib.Core.Option.{Option, none, some}
use mathlib.Core.Bool.{Bool, true, false}
use mathlib.Core.Path.{◌≡◌, refl, sym, ◌∙◌}
use mathlib.Core.List.{List, [], ◌∷◌}
use Prim.Native.Nat.{ℕ}
use native.Mathlib.Omega.{arith}
use lib.ListN.{get_or, get_elem?}
use Rattle.rules.specs.Syntax.{Ty, Callable, Program}
use Rattle.rules.specs.Form.{body_of, scope_of, apply_scope, state_scope}
use Rattle.program.specs.Codes.{ty_of, callable_kind_number}
use Rattle.program.specs.Stands.{StandsParameters, StandsTypes, StandsProgram}
use Rattle.program.specs.Looks.{returns_of, FoundHead, FoundFrame}
use Rattle.program.specs.declared.Kind.{Kind}
use Rattle.program.specs.declared.Kind.TheVariants as kinds
use Rattle.program.specs.contracts.Kind.{the_type}
use Rattle.program.specs.declared.Scope as coded
use denote.Enum.Bare.{sameb, same_true, same_false}
use Rattle.program.specs.Scopes.{body_numbered, StandsScope, without_frame}
use Rattle.program.proofs.Found.{member-in}

-- the kinds of bodies, as the code tells them apart
abbrev pub is_kind : Kind → Kind → Bool
is_kind = sameb the_type

pub one_kind : (b : Bool) (j k : Kind) → b ≡ is_kind j k → b ≡ true → j ≡ k
one_kind b j k e t = same_true the_type tt j k (sym e ∙ t)

pub two_kinds : (b : Bool) (j k : Kind) → b ≡ is_kind j k → b ≡ false → j ≡ k → ⊥
two_kinds b j k e f = same_false the_type j k (sym e ∙ f)

body_is : (kind returns : ℕ) (x : Option Ty) → kind ≡ callable_kind_number x → returns_of kind returns ≡ x
    → body_numbered kind returns ≡ body_of x
unfolding callable_kind_number returns_of body_numbered body_of
body_is kind returns none k e = rw k
body_is kind returns (some t) k e =
    let f : some (ty_of returns) ≡ some t = rw k at e in
    let same : ty_of returns ≡ t = cc in
    rw (k, same)

-- a callable's scope
abbrev pub callable_scope : ℕ → ℕ → ℕ → ℕ → ℕ → ℕ → ℕ → coded.Scope
callable_scope n parameters count locals local_count kind returns = record {
  reach = n;
  parameters = parameters;
  parameter_count = count;
  locals = locals;
  local_count = local_count;
  kind = kind;
  returns = returns;
}

pub callable-scope : (nums directory ends : List ℕ) (n kind returns parameters count locals local_count body : ℕ)
    (P : Program) (end : ℕ) (c : Callable) → StandsProgram nums directory ends P end
    → get_elem? P.callables n ≡ some c → FoundHead nums kind returns parameters count c
    → FoundFrame nums ends locals local_count body c
    → StandsScope nums directory ends (callable_scope n parameters count locals local_count kind returns) (scope_of P n c)
unfolding scope_of
callable-scope nums directory ends n kind returns parameters count locals local_count body P end c s e h f = record {
  end = end;
  program = s;
  reach = refl;
  reaches = omega (arith, member-in P.callables n c e);
  parameters = h.parameters_stand;
  parameter_count = h.count_is;
  locals = f.locals_stand;
  local_count = f.count_is;
  body = body_is kind returns c.returns h.kind_is h.returns_is;
  returns = h.returns_most;
}

-- the apply body's scope
abbrev pub apply_slots : List ℕ → coded.Scope
apply_slots directory = without_frame (get_or directory 42 0) kinds.Apply

pub apply-scope : (nums directory ends : List ℕ) (P : Program) (end : ℕ) → StandsProgram nums directory ends P end
    → StandsScope nums directory ends (apply_slots directory) (apply_scope P)
unfolding apply_scope StandsParameters StandsTypes body_numbered
apply-scope nums directory ends P end s = record {
  end = end;
  program = s;
  reach = s.callables.count;
  reaches = omega arith;
  parameters = tt;
  parameter_count = refl;
  locals = tt;
  local_count = refl;
  body = refl;
  returns = omega arith;
}

-- a state's scope
abbrev pub state_slots : List ℕ → coded.Scope
state_slots directory = without_frame (get_or directory 42 0) kinds.State

pub state-scope : (nums directory ends : List ℕ) (P : Program) (end : ℕ) → StandsProgram nums directory ends P end
    → StandsScope nums directory ends (state_slots directory) (state_scope P)
unfolding state_scope StandsParameters StandsTypes body_numbered
state-scope nums directory ends P end s = record {
  end = end;
  program = s;
  reach = s.callables.count;
  reaches = omega arith;
  parameters = tt;
  parameter_count = refl;
  locals = tt;
  local_count = refl;
  body = refl;
  returns = omega arith;
}
