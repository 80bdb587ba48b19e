-- What a global is, by the number of its type: a variable's type, or where a header's type stands.
use mathlib.Core.Option.{some}
use mathlib.Core.Path.{◌≡◌}
use mathlib.Core.List.{List}
use Prim.Native.Nat.{ℕ, ◌-◌, ◌≤◌}
use native.Mathlib.Omega.{arith}
use lib.ListN.{get_elem?}
use Rattle.rules.specs.Words.{widest}
use Rattle.rules.specs.Syntax.{Ty, GlobalTy, variable, header, HeaderTy, Program}
use Rattle.rules.specs.Form.{a_variable, a_header, shape_in, global_at}
use Rattle.program.specs.Codes.{ty_of, header_number}
use Rattle.program.specs.Stands.{StandsProgram}
use Rattle.program.specs.Looks.{Has, Finds, headers_of, globals_of, GlobalNumber, FoundGlobal, FoundHeader}
use Rattle.program.proofs.Found.{member-in}
use Rattle.store.specs.Places.{AsksHeaderTy, FindsHeaderTy}
use Rattle.store.proofs.Flat.{behind}

pub record VariableNumber (t : Ty) (n : ℕ) : Type 0 where
  pub most : n ≤ widest
  pub is : ty_of n ≡ t

pub record HeaderNumbered (P : Program) (widths : List ℕ) (n : ℕ) : Type 0 where
  pub high : 128 ≤ n
  pub member : HeaderTy
  pub found : get_elem? P.headers (n - 128) ≡ some member
  pub is : member.widths ≡ widths

variable-numbered : (P : Program) (t : Ty) (n : ℕ) (x : GlobalTy) → GlobalNumber n x → shape_in P x ≡ some (a_variable t)
    → VariableNumber t n
unfolding GlobalNumber shape_in
variable-numbered P t n (variable u) k e =
    let same : u ≡ t = cc in
    rw (← same) (record { most = k.0; is = k.1 })
variable-numbered P t n (header h) k e =
    let b = behind (get_elem? P.headers h) (λ ty. some (a_header ty.widths)) (a_variable t) e in
    let z : ◌≡◌ {A = ℕ} 0 1 = cc b.leads in
    absurd (omega arith)

header-numbered : (P : Program) (widths : List ℕ) (n : ℕ) (x : GlobalTy) → GlobalNumber n x
    → shape_in P x ≡ some (a_header widths) → HeaderNumbered P widths n
unfolding GlobalNumber shape_in header_number
header-numbered P widths n (variable u) k e = let z : ◌≡◌ {A = ℕ} 0 1 = cc in absurd (omega arith)
header-numbered P widths n (header h) k e =
    let b = behind (get_elem? P.headers h) (λ ty. some (a_header ty.widths)) (a_header widths) e in
    let q : n - 128 ≡ h = omega (arith, k.0) in
    record { high = omega (arith, k.0); member = b.found; found = rw q b.is; is = cc b.leads }

module _ (nums directory ends : List ℕ) (g : ℕ) (P : Program) (end : ℕ) (s : StandsProgram nums directory ends P end)
  where
    pub global-variable : (t : Ty) (n : ℕ) → global_at P g ≡ some (a_variable t)
        → Finds globals_of (FoundGlobal n) nums directory ends g → VariableNumber t n
    unfolding global_at globals_of FoundGlobal
    global-variable t n e f =
        let b = behind (get_elem? P.globals g) (λ x. shape_in P x.ty) (a_variable t) e in
        variable-numbered P t n b.found.ty (f.finds P end b.found s b.is) b.leads

    pub global-header : (widths : List ℕ) (n : ℕ) → global_at P g ≡ some (a_header widths)
        → Finds globals_of (FoundGlobal n) nums directory ends g → HeaderNumbered P widths n
    unfolding global_at globals_of FoundGlobal
    global-header widths n e f =
        let b = behind (get_elem? P.globals g) (λ x. shape_in P x.ty) (a_header widths) e in
        header-numbered P widths n b.found.ty (f.finds P end b.found s b.is) b.leads

-- where a header's type stands
module _ (nums directory ends : List ℕ) (g : ℕ) where
  module _ (asks : AsksHeaderTy nums directory ends g) where
    pub type-global : Has globals_of nums directory ends g
    unfolding global_at globals_of
    type-global =
        let b = behind (get_elem? asks.program.globals g) (λ x. shape_in asks.program x.ty)
        (a_header asks.widths) asks.is in
        record {
          program = asks.program;
          end = asks.end;
          stands = asks.stands;
          inside = member-in asks.program.globals g b.found b.is;
        }

    pub type-high : (n : ℕ) → Finds globals_of (FoundGlobal n) nums directory ends g → 128 ≤ n
    type-high n f = (global-header nums directory ends g asks.program asks.end asks.stands asks.widths n
        asks.is f).high

    pub type-header : (n : ℕ) → Finds globals_of (FoundGlobal n) nums directory ends g
        → Has headers_of nums directory ends (n - 128)
    unfolding headers_of
    type-header n f =
        let h = global-header nums directory ends g asks.program asks.end asks.stands asks.widths n
        asks.is f in
        record {
          program = asks.program;
          end = asks.end;
          stands = asks.stands;
          inside = member-in asks.program.headers (n - 128) h.member h.found;
        }

  pub type-found : (n r : ℕ) → Finds globals_of (FoundGlobal n) nums directory ends g
      → Finds headers_of (FoundHeader nums r) nums directory ends (n - 128) → FindsHeaderTy nums directory ends g r
  unfolding headers_of FoundHeader
  type-found n r f k = record {
    finds = λ P end widths s e.
        let h = global-header nums directory ends g P end s widths n e f in
        let w = k.finds P end h.member s h.found in
        rw (← h.is) (record { count = w.count; stand = w.widths });
  }

pub ruleset types = (type-global, type-high, type-header, type-found)
