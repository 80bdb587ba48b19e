-- The places of a frame: parameters, and locals behind them.
use Rattle.program.specs.declared.Scope as coded
use mathlib.Core.Option.{some}
use mathlib.Core.Path.{◌≡◌, sym, ap, ◌∙◌}
use mathlib.Core.List.{List}
use Prim.Native.Nat.{ℕ, ◌+◌, ◌*◌, ◌≤◌, ◌<◌}
use native.Mathlib.Omega.{arith}
use lib.ListN.{length, get_or, get_elem?}
use Rattle.rules.specs.Numbers.{most_bytes}
use Rattle.rules.specs.Syntax.{Ty, local, parameter}
use Rattle.rules.specs.Form.{Scope}
use Rattle.rules.specs.Running.{State, declared, held}
use Rattle.rules.proofs.Fits.{all2-length}
use Rattle.program.specs.Stands.{HoldsTy}
use Rattle.program.proofs.Found.{member-in}
use Rattle.program.proofs.Members.{parameter-at, type_at}
use Rattle.store.specs.Mirrors.{Scene}
use Rattle.store.specs.Places.{local_tag, parameter_tag, AsksFramed, ReadsFramed}
use Rattle.store.proofs.Flat.{look_at, Behind, behind}
use Rattle.store.proofs.Spots.{first_number, named-local, named-parameter, Spot, asked, spot-reads}

-- what a place's indices ask: where its number stands, its type, and what it holds
pub record FrameRoom (nums frame : List ℕ) (at ty_at slot : ℕ) : Type 0 where
  pub few : length nums ≤ most_bytes
  pub behind : at + 1 < length nums
  pub typed : ty_at < length nums
  pub inside : slot < length frame

module _ (nums : List ℕ) (scope : coded.Scope) (frame : List ℕ) (at : ℕ) where
  abbrev i : ℕ
  i = first_number nums at

  abbrev local_ty_at : ℕ
  local_ty_at = scope.locals + i

  abbrev local_slot : ℕ
  local_slot = scope.parameter_count + i

  abbrev parameter_ty_at : ℕ
  parameter_ty_at = scope.parameters + 2 * i + 1

  -- in whatever state stands there
  module _ (directory ends slots : List ℕ) (Γ : Scope) (s : State) (t : Ty)
      (h : Scene nums directory ends scope slots frame Γ s) where
    local_typed : declared Γ (local i) ≡ some t → HoldsTy nums local_ty_at t
    unfolding declared
    local_typed d = type_at nums (scope.locals) Γ.locals h.scopes.locals i t d

    local_spot : declared Γ (local i) ≡ some t → Spot frame (local i) s t (get_or nums local_ty_at 0) local_slot
    unfolding declared held
    local_spot d =
        let ls : length s.locals ≡ length Γ.locals = all2-length h.fits.locals-fit in
        let ps : length s.parameters ≡ length Γ.parameters = all2-length h.fits.parameters-fit in
        let k : i < length s.locals = omega (arith, member-in Γ.locals i t d) in
        let e : local_slot ≡ length s.parameters + i = omega (arith, h.scopes.parameter_count) in
        let ty : HoldsTy nums local_ty_at t = local_typed d in
        record {
          most = ty.most;
          typed = ty.is;
          inside = omega (arith, h.frames.room);
          holds = look_at s.locals i k ∙ ap some (sym (rw e (h.frames.local i k)));
        }

    parameter-typed : declared Γ (parameter i) ≡ some t → HoldsTy nums parameter_ty_at t
    unfolding declared
    parameter-typed d =
        let m : Behind (get_elem? Γ.parameters i) (λ p. some p.ty) t
        = behind (get_elem? Γ.parameters i) (λ p. some p.ty) t d in
        let e : m.found.ty ≡ t = cc in
        rw (← e) (parameter-at nums (scope.parameters) Γ.parameters h.scopes.parameters i m.found m.is).ty

    parameter-spot : declared Γ (parameter i) ≡ some t → Spot frame (parameter i) s t (get_or nums parameter_ty_at 0) i
    unfolding declared held
    parameter-spot d =
        let m : Behind (get_elem? Γ.parameters i) (λ p. some p.ty) t
        = behind (get_elem? Γ.parameters i) (λ p. some p.ty) t d in
        let ps : length s.parameters ≡ length Γ.parameters = all2-length h.fits.parameters-fit in
        let k : i < length s.parameters = omega (arith, member-in Γ.parameters i m.found m.is) in
        let ty : HoldsTy nums parameter_ty_at t = parameter-typed d in
        record {
          most = ty.most;
          typed = ty.is;
          inside = omega (arith, h.frames.room);
          holds = look_at s.parameters i k ∙ ap some (sym (h.frames.parameter i k));
        }

  module _ (asks : AsksFramed local_tag nums scope frame at) where
    pub local-room : FrameRoom nums frame at local_ty_at local_slot
    local-room =
        let a = asked nums asks.directory asks.ends scope asks.slots frame at local_tag (at + 1)
        (local i)
        (named-local nums at) asks.is asks.asks in
        record {
          few = a.few;
          behind = a.behind;
          typed = (local_typed asks.directory asks.ends asks.slots a.scope_of a.state
              a.ty
              a.scene a.declares).inside;
          inside = (local_spot asks.directory asks.ends asks.slots a.scope_of a.state
              a.ty
              a.scene a.declares).inside;
        }

    pub local-reads : ReadsFramed nums scope frame at
        (record { ty = get_or nums local_ty_at 0; number = get_or frame local_slot 0 })
    local-reads = record {
      framed = λ directory ends slots. spot-reads nums directory ends scope slots frame at local_tag
          (at + 1)
          (local i)
          (named-local nums at) asks.is frame (get_or nums local_ty_at 0) local_slot
          (local_spot directory ends slots);
    }

  module _ (asks : AsksFramed parameter_tag nums scope frame at) where
    pub parameter-room : FrameRoom nums frame at parameter_ty_at i
    parameter-room =
        let a = asked nums asks.directory asks.ends scope asks.slots frame at parameter_tag
        (at + 1)
        (parameter i) (named-parameter nums at) asks.is asks.asks in
        record {
          few = a.few;
          behind = a.behind;
          typed = (parameter-typed asks.directory asks.ends asks.slots a.scope_of a.state
              a.ty a.scene a.declares).inside;
          inside = (parameter-spot asks.directory asks.ends asks.slots a.scope_of a.state
              a.ty a.scene a.declares).inside;
        }

    pub parameter-reads : ReadsFramed nums scope frame at
        (record { ty = get_or nums parameter_ty_at 0; number = get_or frame i 0 })
    parameter-reads = record {
      framed = λ directory ends slots. spot-reads nums directory ends scope slots frame at
          parameter_tag (at + 1)
          (parameter i) (named-parameter nums at) asks.is frame (get_or nums parameter_ty_at 0) i
          (parameter-spot directory ends slots);
    }

pub ruleset frames = (local-reads, parameter-reads)
