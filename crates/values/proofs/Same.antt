-- The promises determine their answers: two values that one allows are equal.
use mathlib.Core.Bool.{true}
use mathlib.Core.Option.{Option, some}
use mathlib.Core.Path.{◌≡◌, sym, ◌∙◌}
use Prim.Native.Nat.{ℕ}
use borrow.Author.Tests.{eqb-true}
use Rattle.rules.specs.Syntax as syntax
use Rattle.rules.specs.Form.{same_ty}
use Rattle.rules.proofs.Fits.{same_ty-refl}
use Rattle.program.specs.Codes.{ty_of}
use Rattle.program.proofs.Members.{same-types}
use Rattle.values.specs.declared.Value.{Value}
use Rattle.values.specs.Claims.{value_of, Gives, AsksBinary, GivesBinary}

-- a value is the value of one type's number and one number
type-once : (t u : ℕ) → ty_of t ≡ ty_of u → t ≡ u
type-once t u e =
    let same : same_ty (ty_of t) (ty_of u) ≡ true = rw e (same_ty-refl (ty_of u)) in
    eqb-true t u (sym (same-types t u) ∙ same)

value-once : (r s : Value) {o : Option syntax.Value} → o ≡ some (value_of r.ty r.number)
    → o ≡ some (value_of s.ty s.number) → r ≡ s
unfolding value_of
value-once r s e q =
    let ty : ty_of r.ty ≡ ty_of s.ty = cc in
    let number : r.number ≡ s.number = cc in
    rw (type-once r.ty s.ty ty, number)

pub gives-once : {o : Option syntax.Value} (r s : Value) → Gives o r.ty r.number → Gives o s.ty s.number
    → r ≡ s
gives-once r s g h = value-once r s g.given h.given

pub binary-once : (operator t n u m : ℕ) → AsksBinary operator t n u m → (r s : Value)
    → GivesBinary operator t n u m r.ty r.number → GivesBinary operator t n u m s.ty s.number → r ≡ s
binary-once operator t n u m asks r s g h =
    value-once r s (g.given asks.of asks.numbered) (h.given asks.of asks.numbered)
