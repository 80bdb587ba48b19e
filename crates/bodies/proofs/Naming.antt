-- What the looks at names rest on: a name that is inside its list has what stands there, any other has nothing.
use Rattle.program.specs.declared.Kind.{Kind}
use Rattle.program.specs.declared.Kind.TheVariants as kinds
use Rattle.program.specs.declared.Scope as coded
use mathlib.Core.Bool.{Bool, true, false}
use mathlib.Core.Option.{some}
use mathlib.Core.Path.{◌≡◌, refl, ◌∙◌}
use mathlib.Core.List.{List}
use Prim.Native.Nat.{ℕ, suc, ◌+◌, ◌-◌, ◌*◌, ◌≤◌, ◌<◌}
use native.Mathlib.Omega.{arith}
use native.Mathlib.Numerals.{add-one}
use lib.ListN.{length, get_or}
use lib.Dec.{leb}
use Rattle.std.specs.Prelude.{Ok, Some, None}
use Rattle.std.specs.Prelude.{Option as Optional}
use Rattle.rules.specs.declared.Reason.TheVariants as reason
use Rattle.rules.specs.Numbers.{most_bytes}
use Rattle.rules.specs.Words.{widest}
use Rattle.rules.specs.Syntax.{GlobalTy, variable, header, Program}
use Rattle.rules.specs.Syntax.{Direction, by_none, by_in, by_out, by_inout}
use Rattle.rules.specs.Form.{fault, ◌>>=◌, named, need, and_look, a_variable, shape_in, global_at, callee_may_write, Scope, sees_globals, writable_as, writable}
use Rattle.rules.specs.Form.{judge_field, judge_place}
use Rattle.rules.proofs.Predicates.{no_member}
use Rattle.program.specs.Codes.{ty_of, header_number, direction_number}
use Rattle.program.specs.Stands.{Holds, HoldsWithin, HoldsTy, StandsWidths, StandsHeader, StandsProgram}
use Rattle.program.specs.Scopes.{kind_number, kind_numbered, body_numbered, StandsScope}
use Rattle.program.proofs.Numbered.{kind-body}
use Rattle.program.proofs.Seen.{is_kind, one_kind, two_kinds}
use Rattle.program.specs.Looks.{Has, Finds, headers_of, globals_of, GlobalNumber, FoundGlobal, FoundHeader}
use Rattle.program.proofs.Found.{At, member-at}
use Rattle.program.proofs.Members.{StandsParameter, parameter-at, type_at, width-at, bits_of, header-high}
use Rattle.bodies.specs.declared.Found.{Found}
use Rattle.bodies.specs.declared.Found.TheVariants.{Variable, Header}
use Rattle.bodies.specs.Claims.{Typed, refused, told_ty, TyMost}
use Rattle.bodies.specs.Leaves.{AsksSlot, SlotTyped, local_ty, parameter_ty, AsksProgram, FoundShape, FindsGlobal, FindsHeader, SeenTyped, AsksField, FieldTyped, IsWritableParameter}

-- what stands at a local's, a parameter's and a field's number
record HoldsLocal (nums : List ℕ) (scope : coded.Scope) (i : ℕ) (Γ : Scope) : Type 0 where
  member : At Γ.locals i
  stands : HoldsTy nums (scope.locals + i) member.member

record HoldsParameter (nums : List ℕ) (scope : coded.Scope) (i : ℕ) (Γ : Scope) : Type 0 where
  member : At Γ.parameters i
  stands : StandsParameter nums (scope.parameters + 2 * i) member.member

record HoldsField (nums : List ℕ) (header i : ℕ) (widths : List ℕ) : Type 0 where
  member : At widths i
  stands : HoldsWithin 1 widest nums (header + 1 + i) member.member

written : (d : Direction) → leb 2 (direction_number d) ≡ callee_may_write d
unfolding direction_number callee_may_write
written by_none = refl
written by_in = refl
written by_out = refl
written by_inout = refl

-- a global by the number of its type
record NumberedGlobal (P : Program) (i n : ℕ) : Type 0 where
  member : At P.globals i
  numbered : GlobalNumber n member.member.ty

variable-shape : (P : Program) (n : ℕ) (t : GlobalTy) → n ≤ widest → GlobalNumber n t
    → shape_in P t ≡ some (a_variable (ty_of n))
unfolding shape_in GlobalNumber header_number
variable-shape P n (variable t) h g = rw g.1
variable-shape P n (header i) h g = absurd (omega (arith, g.0))

header-shape : (P : Program) (n : ℕ) (t : GlobalTy) → widest < n → GlobalNumber n t
    → shape_in P t ≡ shape_in P (header (n - 128))
unfolding GlobalNumber header_number
header-shape P n (variable t) h g = absurd (omega (arith, g.0))
header-shape P n (header i) h g =
    let e : n - 128 ≡ i = omega (arith, g.0) in
    rw e

-- the fault of a name of nothing
pub none_found : (at : ℕ) → told_ty (refused reason.Unnamed (at + 1)) ≡ fault 6 (suc at)
unfolding told_ty
none_found at = rw (add-one at)

-- locals
module _ (nums : List ℕ) (scope : coded.Scope) (at : ℕ) where
  abbrev number : ℕ
  number = get_or nums (at + 1) 0

  local-of : (directory ends : List ℕ) (Γ : Scope) → StandsScope nums directory ends scope Γ → number < scope.local_count
      → HoldsLocal nums scope number Γ
  local-of directory ends Γ s h =
      let m : At Γ.locals number = member-at Γ.locals number (omega (arith, h, s.local_count)) in
      record {
        member = m;
        stands = type_at nums (scope.locals) Γ.locals s.locals number m.member m.is;
      }

  module _ (asks : AsksSlot nums scope at) (h : number < scope.local_count) where
    abbrev some_local : HoldsLocal nums scope number asks.asks.scope_of
    some_local = local-of asks.directory asks.ends asks.asks.scope_of asks.asks.seen h

    pub local-inside : scope.locals + number < length nums
    local-inside = some_local.stands.inside

    pub local-small : scope.locals + number < most_bytes
    local-small = omega (arith, local-inside)

    pub local_typed : SlotTyped nums scope (local_ty nums at) (Ok (get_or nums (scope.locals + number) 0))
    unfolding told_ty TyMost local_ty judge_place named
    local_typed = record {
      typed = λ directory ends. record {
        judged = λ Γ s.
            let m : HoldsLocal nums scope number Γ = local-of directory ends Γ s h in
            rw (m.member.is, m.stands.is);
        most = some_local.stands.most;
      };
    }

  pub local-none : scope.local_count ≤ number
      → SlotTyped nums scope (local_ty nums at) (refused reason.Unnamed (at + 1))
  unfolding TyMost local_ty judge_place named
  local-none h = record {
    typed = λ directory ends. record {
      judged = λ Γ s. none_found at ∙ rw (no_member Γ.locals number (omega (arith, h, s.local_count)));
      most = tt;
    };
  }

  -- parameters
  parameter-of : (directory ends : List ℕ) (Γ : Scope) → StandsScope nums directory ends scope Γ
      → number < scope.parameter_count → HoldsParameter nums scope number Γ
  parameter-of directory ends Γ s h =
      let m : At Γ.parameters number = member-at Γ.parameters number (omega (arith, h, s.parameter_count)) in
      record {
        member = m;
        stands = parameter-at nums (scope.parameters) Γ.parameters s.parameters number m.member m.is;
      }

  module _ (asks : AsksSlot nums scope at) (h : number < scope.parameter_count) where
    abbrev some_parameter : HoldsParameter nums scope number asks.asks.scope_of
    some_parameter = parameter-of asks.directory asks.ends asks.asks.scope_of asks.asks.seen h

    pub parameter-inside : scope.parameters + 2 * number + 1 < length nums
    parameter-inside = some_parameter.stands.ty.inside

    pub direction-inside : scope.parameters + 2 * number < length nums
    direction-inside = some_parameter.stands.direction.inside

    pub parameter-small : scope.parameters + 2 * number + 1 < most_bytes
    parameter-small = omega (arith, parameter-inside)

    pub parameter-typed : SlotTyped nums scope (parameter_ty nums at)
        (Ok (get_or nums (scope.parameters + 2 * number + 1) 0))
    unfolding told_ty TyMost parameter_ty judge_place named ◌>>=◌
    parameter-typed = record {
      typed = λ directory ends. record {
        judged = λ Γ s.
            let m : HoldsParameter nums scope number Γ = parameter-of directory ends Γ s h in
            rw (m.member.is, m.stands.ty.is);
        most = some_parameter.stands.ty.most;
      };
    }

    pub parameter-writable : IsWritableParameter nums scope at (leb 2 (get_or nums (scope.parameters + 2 * number) 0))
    unfolding writable writable_as
    parameter-writable = record {
      told = λ directory ends Γ s.
          let m : HoldsParameter nums scope number Γ = parameter-of directory ends Γ s h in
          rw (m.member.is, m.stands.direction.is) (written m.member.member.direction);
    }

  pub parameter-none : scope.parameter_count ≤ number
      → SlotTyped nums scope (parameter_ty nums at) (refused reason.Unnamed (at + 1))
  unfolding TyMost parameter_ty judge_place named ◌>>=◌
  parameter-none h = record {
    typed = λ directory ends. record {
      judged = λ Γ s. none_found at ∙ rw (no_member Γ.parameters number (omega (arith, h, s.parameter_count)));
      most = tt;
    };
  }

  pub parameter-unwritable : scope.parameter_count ≤ number → IsWritableParameter nums scope at false
  unfolding writable writable_as
  parameter-unwritable h = record {
    told = λ directory ends Γ s. rw (no_member Γ.parameters number (omega (arith, h, s.parameter_count)));
  }

pub ruleset slots = (
  local-inside,
  local_typed,
  local-none,
  parameter-inside,
  direction-inside,
  parameter-typed,
  parameter-none,
  parameter-writable,
  parameter-unwritable,
)

-- header types and globals
module _ (nums directory ends : List ℕ) (i : ℕ) where
  pub header-has : AsksProgram nums directory ends → i < get_or directory 0 0 → Has headers_of nums directory ends i
  unfolding headers_of
  header-has asks h = record {
    program = asks.program;
    end = asks.end;
    stands = asks.stands;
    inside = omega (arith, h, asks.stands.headers.count);
  }

  pub header_is : (at : ℕ) → i < get_or directory 0 0 → Finds headers_of (FoundHeader nums at) nums directory ends i
      → FindsHeader nums directory ends i (Some (Header at))
  unfolding headers_of FoundHeader FoundShape shape_in and_look
  header_is at h f = record {
    found = λ P end s.
        let m : At P.headers i = member-at P.headers i (omega (arith, h, s.headers.count)) in
        let t : StandsHeader nums at m.member = f.finds P end m.member s m.is in
        record {
          widths = m.member.widths;
          is = rw m.is;
          count = t.count.holds;
          stand = t.widths;
        };
  }

  pub header-none : get_or directory 0 0 ≤ i → FindsHeader nums directory ends i None
  unfolding FoundShape shape_in and_look
  header-none h = record {
    found = λ P end s. rw (no_member P.headers i (omega (arith, h, s.headers.count)));
  }

  pub global-has : AsksProgram nums directory ends → i < get_or directory 9 0 → Has globals_of nums directory ends i
  unfolding globals_of
  global-has asks h = record {
    program = asks.program;
    end = asks.end;
    stands = asks.stands;
    inside = omega (arith, h, asks.stands.globals.count);
  }

  pub global-none : get_or directory 9 0 ≤ i → FindsGlobal nums directory ends i None
  unfolding FoundShape global_at and_look
  global-none h = record {
    found = λ P end s. rw (no_member P.globals i (omega (arith, h, s.globals.count)));
  }

  module _ (n : ℕ) (h : i < get_or directory 9 0) (f : Finds globals_of (FoundGlobal n) nums directory ends i) where
    global_of : (P : Program) (end : ℕ) → StandsProgram nums directory ends P end → NumberedGlobal P i n
    unfolding globals_of FoundGlobal
    global_of P end s =
        let m : At P.globals i = member-at P.globals i (omega (arith, h, s.globals.count)) in
        record { member = m; numbered = f.finds P end m.member s m.is }

    pub variable-is : n ≤ widest → FindsGlobal nums directory ends i (Some (Variable n))
    unfolding FoundShape global_at and_look
    variable-is low = record {
      found = λ P end s.
          let g : NumberedGlobal P i n = global_of P end s in
          (low, rw g.member.is (variable-shape P n g.member.member.ty low g.numbered));
    }

    pub header-number : AsksProgram nums directory ends → widest < n → 128 ≤ n
    header-number asks high =
        let g : NumberedGlobal asks.program i n = global_of asks.program asks.end asks.stands in
        header-high n g.member.member.ty high g.numbered

    pub global-header : (r : Optional Found) → widest < n → FindsHeader nums directory ends (n - 128) r
        → FindsGlobal nums directory ends i r
    unfolding global_at and_look
    global-header r high q = record {
      found = λ P end s.
          let g : NumberedGlobal P i n = global_of P end s in
          rw (g.member.is, header-shape P n g.member.member.ty high g.numbered) (q.found P end s);
    }

pub ruleset globals =
    (header-has, header_is, header-none, global-has, global-none, variable-is, header-number, global-header)

-- where globals are seen
seen_other : (kind : Kind) (returns : ℕ) → (kind ≡ kinds.Function → ⊥)
    → sees_globals (body_numbered (kind_number kind) returns) ≡ true
unfolding sees_globals body_numbered
seen_other kinds.Action returns x = refl
seen_other kinds.Function returns x = absurd (x refl)
seen_other kinds.Apply returns x = refl
seen_other kinds.State returns x = refl

module _ (scope : coded.Scope) (at t : ℕ) (k : Kind) (own : k ≡ kind_numbered scope.kind) (b : Bool)
    (same : b ≡ is_kind k kinds.Function) where
  pub seen-told : t ≤ widest → b ≡ false → SeenTyped scope at t (Ok t)
  unfolding told_ty TyMost need ◌>>=◌
  seen-told m x = record {
    judged = λ body e.
        rw (← e, ← kind-body k scope.kind scope.returns own, seen_other k scope.returns (two_kinds b _ _ same x));
    most = m;
  }

  pub seen-not : b ≡ true → SeenTyped scope at t (refused reason.Form at)
  unfolding told_ty TyMost need ◌>>=◌ sees_globals body_numbered
  seen-not x =
      let f : k ≡ kinds.Function = one_kind b _ _ same x in
      record { judged = λ body e. rw (← e, ← kind-body k scope.kind scope.returns own, f); most = tt }

-- a field
module _ (nums : List ℕ) (at header : ℕ) where
  abbrev field_number : ℕ
  field_number = get_or nums (at + 2) 0

  width-of : (widths : List ℕ) → Holds nums header (length widths) → StandsWidths nums (header + 1) widths
      → field_number < get_or nums header 0 → HoldsField nums header field_number widths
  width-of widths c s h =
      let m : At widths field_number = member-at widths field_number (omega (arith, h, c.is)) in
      record { member = m; stands = width-at nums (header + 1) widths s field_number m.member m.is }

  module _ (asks : AsksField nums at header) (h : field_number < get_or nums header 0) where
    abbrev some_field : HoldsField nums header field_number asks.widths
    some_field = width-of asks.widths asks.count asks.stand h

    pub field-inside : header + 1 + field_number < length nums
    field-inside = some_field.stands.holds.inside

    pub field-small : header + 1 + field_number < most_bytes
    field-small = omega (arith, field-inside)

    pub field-most : get_or nums (header + 1 + field_number) 0 ≤ widest
    field-most = omega (arith, some_field.stands.holds.is, some_field.stands.at_most)

    pub field_told : (scope : coded.Scope) (r : Typed) → SeenTyped scope at (get_or nums (header + 1 + field_number) 0) r
        → FieldTyped nums scope at header r
    unfolding judge_field named ◌>>=◌
    field_told scope r t = record {
      judged = λ b e widths c s.
          let m : HoldsField nums header field_number widths = width-of widths c s h in
          t.judged b e
          ∙ rw (m.member.is, m.stands.holds.is, bits_of m.member.member m.stands.at_least);
      most = t.most;
    }

  pub field-none : (scope : coded.Scope) → get_or nums header 0 ≤ field_number
      → FieldTyped nums scope at header (refused reason.Unnamed (at + 2))
  unfolding told_ty TyMost judge_field named ◌>>=◌
  field-none scope h = record {
    judged = λ b e widths c s.
        let n : at + 2 ≡ suc (suc at) = omega arith in
        rw (no_member widths field_number (omega (arith, h, c.is)), n);
    most = tt;
  }

pub ruleset fields = (seen-told, seen-not, field-inside, field-most, field_told, field-none)
