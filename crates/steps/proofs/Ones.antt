-- Expressions with one operand, by their tags.
use mathlib.Core.Option.{Option, none, some}
use mathlib.Core.Path.{◌≡◌, refl, ◌∙◌, sym}
use mathlib.Core.List.{List}
use Prim.Native.Nat.{ℕ, ◌+◌, ◌<◌, ◌^◌}
use native.Mathlib.Omega.{arith}
use lib.ListN.{length, get_or}
use Rattle.rules.specs.Words.{widest}
use Rattle.rules.specs.Syntax.{Value, Expr, negation, complement, cast, slice}
use Rattle.rules.specs.Running.{not_on, complement_on, cast_on, slice_on}
use Rattle.program.specs.Stands.{Holds, HoldsWithin, StandsExpr, on_bool, on-bits, on-place, on-valid, on-not, on-complement, on-binary, on-cast, on-slice, on-concatenation, on_call}
use Rattle.program.proofs.Views.{expr-begins}
use Rattle.values.specs.Claims.{value_of, Gives, AsksOne, AsksCast}
use Rattle.steps.specs.Operands.{on_one, AsksOneOn, GivesOne}

-- the expression at a tag, and what it makes of its operand
pub data OneOf (nums : List ℕ) (at : ℕ) : ℕ → Expr → Type 0 where
  is-not : {a : Expr} → OneOf nums at 7 (negation at a)
  is-complement : {a : Expr} → OneOf nums at 8 (complement at a)
  is-cast : {width : ℕ} {a : Expr} → HoldsWithin 1 widest nums (at + 1) width → OneOf nums at 10 (cast at width a)
  is_slice : {high low : ℕ} {a : Expr} → Holds nums (at + 1) high → Holds nums (at + 2) low
      → OneOf nums at 11 (slice at high low a)

pub nothing : {A B : Type 0} {a : A} → ◌≡◌ {A = Option A} none (some a) → B
nothing e = let z : ◌≡◌ {A = ℕ} 0 1 = cc in absurd (omega arith)

one_of : {nums ends : List ℕ} {depth at : ℕ} {e : Expr} {answer : Value} (v : Value) → StandsExpr nums ends depth at e
    → on_one e v ≡ some answer → OneOf nums at (get_or nums at 0) e
unfolding on_one
one_of v (on_bool t n) e = nothing e
one_of v (on-bits t w n) e = nothing e
one_of v (on-place t p) e = nothing e
one_of v (on-valid t g) e = nothing e
one_of v (on-not t a) e = rw t.holds.is is-not
one_of v (on-complement t a) e = rw t.holds.is is-complement
one_of v (on-binary t o a b) e = nothing e
one_of v (on-cast t w a) e = rw t.holds.is (is-cast w)
one_of v (on-slice t h l a) e = rw t.holds.is (is_slice h.holds l.holds)
one_of v (on-concatenation t a b) e = nothing e
one_of v (on_call t f n xs) e = nothing e

-- by tag
module _ (nums : List ℕ) (at : ℕ) where
  not_is : {tag : ℕ} {e : Expr} → OneOf nums at tag e → tag ≡ 7 → (v : Value) → on_one e v ≡ not_on v
  unfolding on_one
  not_is is-not q v = refl
  not_is is-complement q v = absurd (omega (arith, q))
  not_is (is-cast w) q v = absurd (omega (arith, q))
  not_is (is_slice h l) q v = absurd (omega (arith, q))

  complement-is : {tag : ℕ} {e : Expr} → OneOf nums at tag e → tag ≡ 8 → (v : Value) → on_one e v ≡ complement_on v
  unfolding on_one
  complement-is is-not q v = absurd (omega (arith, q))
  complement-is is-complement q v = refl
  complement-is (is-cast w) q v = absurd (omega (arith, q))
  complement-is (is_slice h l) q v = absurd (omega (arith, q))

  pub record CastOf (e : Expr) : Type 0 where
    pub holds : HoldsWithin 1 widest nums (at + 1) (get_or nums (at + 1) 0)
    pub is : (v : Value) → on_one e v ≡ cast_on (get_or nums (at + 1) 0) v

  cast_is : {tag : ℕ} {e : Expr} → OneOf nums at tag e → tag ≡ 10 → CastOf e
  unfolding on_one
  cast_is is-not q = absurd (omega (arith, q))
  cast_is is-complement q = absurd (omega (arith, q))
  cast_is (is-cast w) q = record { holds = rw w.holds.is w; is = λ v. rw w.holds.is refl }
  cast_is (is_slice h l) q = absurd (omega (arith, q))

  pub record SliceOf (e : Expr) : Type 0 where
    pub inside : at + 2 < length nums
    pub is : (v : Value) → on_one e v ≡ slice_on (get_or nums (at + 1) 0) (get_or nums (at + 2) 0) v

  slice_is : {tag : ℕ} {e : Expr} → OneOf nums at tag e → (tag ≡ 7 → ⊥) → (tag ≡ 8 → ⊥) → (tag ≡ 10 → ⊥) → SliceOf e
  unfolding on_one
  slice_is is-not x y z = absurd (x refl)
  slice_is is-complement x y z = absurd (y refl)
  slice_is (is-cast w) x y z = absurd (z refl)
  slice_is (is_slice h l) x y z = record { inside = l.inside; is = λ v. rw (h.is, l.is) refl }

module _ (nums : List ℕ) (at ty number : ℕ) where
  asks-as : (on : Value → Option Value) (a : AsksOneOn nums at ty number)
      → on_one a.expr (value_of ty number) ≡ on (value_of ty number) → AsksOne on ty number
  asks-as on a e = record { operand = a.operand; answer = a.answer; answered = sym e ∙ a.answered }

  module _ (a : AsksOneOn nums at ty number) where
    this : OneOf nums at (get_or nums at 0) a.expr
    this = one_of (value_of ty number) a.stands a.answered

    pub one_inside : at < length nums
    one_inside = (expr-begins a.stands).inside

    pub one-next : at + 1 < 2 ^ 64
    one-next = omega (arith, one_inside, a.numbers)

    pub one-second : at + 2 < 2 ^ 64
    one-second = omega (arith, one_inside, a.numbers)

    pub not-asks : get_or nums at 0 ≡ 7 → AsksOne not_on ty number
    not-asks q = asks-as not_on a (not_is nums at this q (value_of ty number))

    pub complement-asks : get_or nums at 0 ≡ 8 → AsksOne complement_on ty number
    complement-asks q = asks-as complement_on a (complement-is nums at this q (value_of ty number))

    pub width-inside : get_or nums at 0 ≡ 10 → at + 1 < length nums
    width-inside q = (cast_is nums at this q).holds.holds.inside

    pub cast-asks : get_or nums at 0 ≡ 10 → AsksCast (get_or nums (at + 1) 0) ty number
    cast-asks q =
        let w = cast_is nums at this q in
        record {
          least = w.holds.at_least;
          most = w.holds.at_most;
          asks = asks-as (cast_on (get_or nums (at + 1) 0)) a (w.is (value_of ty number));
        }

    module _ (x : get_or nums at 0 ≡ 7 → ⊥) (y : get_or nums at 0 ≡ 8 → ⊥) (z : get_or nums at 0 ≡ 10 → ⊥) where
      pub high-inside : at + 1 < length nums
      high-inside = omega (arith, (slice_is nums at this x y z).inside)

      pub low-inside : at + 2 < length nums
      low-inside = (slice_is nums at this x y z).inside

      pub slice-asks : AsksOne (slice_on (get_or nums (at + 1) 0) (get_or nums (at + 2) 0)) ty number
      slice-asks = asks-as (slice_on (get_or nums (at + 1) 0) (get_or nums (at + 2) 0)) a
          ((slice_is nums at this x y z).is (value_of ty number))

  module _ (ty' number' : ℕ) where
    pub not_gives : get_or nums at 0 ≡ 7 → Gives (not_on (value_of ty number)) ty' number'
        → GivesOne nums at ty number ty' number'
    not_gives q g = record {
      gives = λ ends depth e answer w k. rw (not_is nums at (one_of (value_of ty number) w k) q (value_of ty number)) g;
    }

    pub complement-gives : get_or nums at 0 ≡ 8 → Gives (complement_on (value_of ty number)) ty' number'
        → GivesOne nums at ty number ty' number'
    complement-gives q g = record {
      gives = λ ends depth e answer w k.
          rw (complement-is nums at (one_of (value_of ty number) w k) q (value_of ty number)) g;
    }

    pub cast-gives : get_or nums at 0 ≡ 10 → Gives (cast_on (get_or nums (at + 1) 0) (value_of ty number)) ty' number'
        → GivesOne nums at ty number ty' number'
    cast-gives q g = record {
      gives = λ ends depth e answer w k.
          rw ((cast_is nums at (one_of (value_of ty number) w k) q).is (value_of ty number)) g;
    }

    pub slice_gives : (get_or nums at 0 ≡ 7 → ⊥) → (get_or nums at 0 ≡ 8 → ⊥) → (get_or nums at 0 ≡ 10 → ⊥)
        → Gives (slice_on (get_or nums (at + 1) 0) (get_or nums (at + 2) 0) (value_of ty number)) ty' number'
        → GivesOne nums at ty number ty' number'
    slice_gives x y z g = record {
      gives = λ ends depth e answer w k.
          rw ((slice_is nums at (one_of (value_of ty number) w k) x y z).is (value_of ty number)) g;
    }

pub ruleset ones = (
  one-next,
  one-second,
  one_inside,
  not-asks,
  complement-asks,
  width-inside,
  cast-asks,
  high-inside,
  low-inside,
  slice-asks,
  not_gives,
  complement-gives,
  cast-gives,
  slice_gives,
)
