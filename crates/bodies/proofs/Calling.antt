-- What calls rest on: the parameters that are left, and how arguments are held against them.
use Rattle.program.specs.declared.Kind.{Kind}
use Rattle.program.specs.declared.Kind.TheVariants as kinds
use Rattle.program.specs.declared.Scope as coded
use mathlib.Core.Bool.{Bool, true, false, ◌&&◌, ◌||◌}
use mathlib.Core.Path.{◌≡◌, refl, sym, ◌∙◌}
use mathlib.Core.List.{List, [], ◌∷◌}
use Prim.Native.Nat.{ℕ, ◌+◌, ◌-◌, ◌≤◌, ◌<◌}
use native.Mathlib.Omega.{arith}
use lib.ListN.{length, get_or}
use lib.Dec.{ltb, eqb}
use borrow.Author.Tests.{ne_eqb}
use Rattle.std.specs.Prelude.{Ok, Some, None}
use Rattle.rules.specs.declared.Reason.TheVariants as reason
use Rattle.rules.specs.Words.{widest}
use Rattle.rules.specs.Syntax.{Ty, Parameter}
use Rattle.rules.specs.Form.{Res, ok, fault, ◌>>=◌, need, function_ty, may_call, Body}
use Rattle.program.specs.Codes.{ty_of}
use Rattle.program.specs.Stands.{StandsParameters}
use Rattle.program.specs.Looks.{returns_of}
use Rattle.program.specs.Scopes.{kind_number, kind_numbered, body_numbered}
use Rattle.program.proofs.Numbered.{kind-body, kind-returns}
use Rattle.program.proofs.Seen.{is_kind}
use Rattle.bodies.specs.declared.Agreed.{Agreed}
use Rattle.bodies.specs.declared.Parameter as coded_parameter
use Rattle.bodies.specs.declared.Wanted.{Wanted}
use Rattle.bodies.specs.Claims.{refused, told_ty, TyMost}
use Rattle.bodies.specs.Leaves.{TellsIn, takes_two, lead_by, lead_length, OperandsAt, value_in, value_ty}
use Rattle.bodies.specs.Calls.{AsksWanted, NextWanted, WantedIf, IsWanted, weighed, Weighs, told_call, CalledMost, Settles}

-- where operands stand, by the tag
module _ (nums : List ℕ) (at : ℕ) where
  pub binary-operands : get_or nums at 0 ≡ 9 → OperandsAt nums at (at + 2) true
  unfolding lead_length lead_by takes_two
  binary-operands k = record { first_is = rw k; two_is = rw k }

  pub cast-operands : get_or nums at 0 ≡ 10 → OperandsAt nums at (at + 2) false
  unfolding lead_length lead_by takes_two
  cast-operands k = record { first_is = rw k; two_is = rw k }

  pub slice-operands : get_or nums at 0 ≡ 11 → OperandsAt nums at (at + 3) false
  unfolding lead_length lead_by takes_two
  slice-operands k = record { first_is = rw k; two_is = rw k }

  pub joined-operands : get_or nums at 0 ≡ 12 → OperandsAt nums at (at + 1) true
  unfolding lead_length lead_by takes_two
  joined-operands k = record { first_is = rw k; two_is = rw k }

  pub other-operands : (get_or nums at 0 ≡ 9 → ⊥) → (get_or nums at 0 ≡ 10 → ⊥) → (get_or nums at 0 ≡ 11 → ⊥)
      → (get_or nums at 0 ≡ 12 → ⊥) → OperandsAt nums at (at + 1) false
  unfolding lead_length lead_by takes_two
  other-operands a b c d = record {
    first_is = rw (ne_eqb (get_or nums at 0) 11 c, ne_eqb (get_or nums at 0) 9 a, ne_eqb (get_or nums at 0) 10 b);
    two_is = rw (ne_eqb (get_or nums at 0) 9 a, ne_eqb (get_or nums at 0) 12 d);
  }

pub ruleset operands = (binary-operands, cast-operands, slice-operands, joined-operands, other-operands)

-- the value of a call, by what it calls and the body that it stands in
abbrev valued : ℕ → ℕ → Bool → Res Ty
valued at returns true = fault 8 at
valued at returns false = ok (ty_of returns)

value-is : (at : ℕ) (kind k : Kind) (returns returned : ℕ)
    → value_ty at (kind_number kind) returns (body_numbered (kind_number k) returned)
    ≡ valued at returns (is_kind kind kinds.Action || is_kind k kinds.State)
unfolding value_ty value_in may_call function_ty returns_of body_numbered need ◌>>=◌
value-is at kinds.Action kinds.Action returns returned = refl
value-is at kinds.Action kinds.Function returns returned = refl
value-is at kinds.Action kinds.Apply returns returned = refl
value-is at kinds.Action kinds.State returns returned = refl
value-is at kinds.Function kinds.Action returns returned = refl
value-is at kinds.Function kinds.Function returns returned = refl
value-is at kinds.Function kinds.Apply returns returned = refl
value-is at kinds.Function kinds.State returns returned = refl
value-is at kinds.Apply kinds.Action returns returned = refl
value-is at kinds.Apply kinds.Function returns returned = refl
value-is at kinds.Apply kinds.Apply returns returned = refl
value-is at kinds.Apply kinds.State returns returned = refl
value-is at kinds.State kinds.Action returns returned = refl
value-is at kinds.State kinds.Function returns returned = refl
value-is at kinds.State kinds.Apply returns returned = refl
value-is at kinds.State kinds.State returns returned = refl

module _ (scope : coded.Scope) (at kind returns : ℕ) (j k : Kind) (callee : j ≡ kind_numbered kind)
    (own : k ≡ kind_numbered scope.kind) (b action state : Bool) (e : b ≡ (action || state))
    (is_action : action ≡ is_kind j kinds.Action) (is_state : state ≡ is_kind k kinds.State) where
  value-same : (body : Body) → body_numbered scope.kind scope.returns ≡ body
      → value_ty at kind returns body ≡ valued at returns b
  unfolding value_ty
  value-same body i =
      rw (← i, ← kind-body k scope.kind scope.returns own, ← kind-returns j kind returns callee)
      (value-is at j k returns scope.returns ∙ rw (e, is_action, is_state) refl)

  pub no_value : b ≡ true → TellsIn scope (value_ty at kind returns) (refused reason.Form at)
  unfolding told_ty TyMost
  no_value h = record {
    judged = λ body i. rw (value-same body i, h) refl;
    most = tt;
  }

  pub some-value : returns ≤ widest → b ≡ false → TellsIn scope (value_ty at kind returns) (Ok returns)
  unfolding told_ty TyMost
  some-value m h = record {
    judged = λ body i. rw (value-same body i, h) refl;
    most = m;
  }

module _ (at kind returns : ℕ) where
  -- a call whose arguments are judged
  module _ (types places : Bool) where
    pub settled : returns ≤ widest → types ≡ true → places ≡ true
        → Settles at kind returns types places (Ok (record { kind = kind; returns = returns }))
    unfolding told_call CalledMost need ◌>>=◌
    settled m e f = record { told = rw (e, f); most = m }

    pub unsettled-place : types ≡ true → places ≡ false → Settles at kind returns types places (refused reason.Form at)
    unfolding told_call CalledMost need ◌>>=◌
    unsettled-place e f = record { told = rw (e, f); most = tt }

    pub unsettled-type : types ≡ false → Settles at kind returns types places (refused reason.Type at)
    unfolding told_call CalledMost need ◌>>=◌
    unsettled-type e = record { told = rw e; most = tt }

pub ruleset settling = (no_value, some-value, settled, unsettled-place, unsettled-type)

-- the parameter that comes next
module _ (nums : List ℕ) (parameters left : ℕ) where
  next_of : (n : ℕ) → (n ≡ 0 → ⊥) → (ps : List Parameter) → StandsParameters nums parameters ps → n ≡ length ps
      → NextWanted nums (record { direction = get_or nums parameters 0; ty = get_or nums (parameters + 1) 0 })
      (parameters + 2) (n - 1) ps × (parameters + 1 < length nums)
  unfolding StandsParameters
  next_of n x [] s e = absurd (x e)
  next_of n x (p ∷ ps) s e = (
    record {
      parameter = p;
      others = ps;
      same = refl;
      direction_is = s.0.is;
      ty_is = s.1.0.is;
      others_stand = s.1.1;
      left_is = omega (arith, e);
    },
    s.1.0.inside,
  )

  pub none-wanted : left ≡ 0
      → IsWanted nums parameters left (record { parameter = None; next = parameters; left = 0 })
  unfolding WantedIf
  none-wanted k = record { told = λ ps s e. record { same = nothing ps (sym e ∙ k); left_is = refl } }
    where
      nothing : (ps : List Parameter) → length ps ≡ 0 → ps ≡ []
      nothing [] q = refl
      nothing (p ∷ ps) q = absurd (omega arith)

  pub next-wanted : (left ≡ 0 → ⊥)
      → IsWanted nums parameters left (record {
        parameter = Some (record { direction = get_or nums parameters 0; ty = get_or nums (parameters + 1) 0 });
        next = parameters + 2;
        left = left - 1;
      })
  unfolding WantedIf
  next-wanted more = record { told = λ ps s e. (next_of left more ps s e).0 }

  module _ (asks : AsksWanted nums parameters left) (more : left ≡ 0 → ⊥) where
    pub wanted-type-inside : parameters + 1 < length nums
    wanted-type-inside = (next_of left more asks.wanted asks.stand asks.left_is).1

    pub wanted-inside : parameters < length nums
    wanted-inside = omega (arith, wanted-type-inside)

pub ruleset wanting = (none-wanted, next-wanted, wanted-type-inside, wanted-inside)

-- an argument against its parameter
module _ (w : Wanted) (t : ℕ) (writable : Bool) (behind : Agreed) where
  pub weighs-next : (p : coded_parameter.Parameter) → w.parameter ≡ Some p → (place a b : Bool)
      → place ≡ (ltb p.direction 2 || writable)
      → a ≡ (eqb p.ty t && behind.types) → b ≡ (place && behind.places)
      → Weighs w t writable behind (record { types = a; places = b })
  unfolding weighed
  weighs-next p k place a b e f g = record { told = rw (k, f, g, e) }

  pub weighs-none : w.parameter ≡ None → Weighs w t writable behind (record { types = false; places = true })
  unfolding weighed
  weighs-none k = record { told = rw k }

pub ruleset weighing = (weighs-next, weighs-none)
