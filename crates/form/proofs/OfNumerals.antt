-- Numbers and parameters one after the other. The literals of a default.
use mathlib.Core.Bool.{Bool, true, false}
use mathlib.Core.Path.{◌≡◌, refl, sym, ◌∙◌}
use mathlib.Core.List.{List, [], ◌∷◌}
use Prim.Native.Nat.{ℕ, zero, suc, ◌+◌, ◌-◌, ◌*◌, ◌^◌, ◌≤◌, ◌<◌}
use native.Mathlib.Omega.{arith}
use lib.ListN.{length, get_or}
use lib.Dec.{ltb}
use mir.Val.{Fits}
use mir.Syntax.{w64}
use Rattle.std.specs.Prelude.{Ok, Err}
use Rattle.rules.specs.declared.Fault.{Fault}
use Rattle.rules.specs.Words.{widest, fits_width}
use Rattle.rules.specs.Syntax.{Parameter, Numeral}
use Rattle.rules.specs.Form.{fault, ◌>>=◌, need, fits, literals_fit}
use Rattle.program.specs.Codes.{ty_of}
use Rattle.program.proofs.Firsts.{FirstNumeral, first-numeral, FirstParameter, first-parameter}
use Rattle.form.specs.Claims.{Formal, told_form}
use Rattle.form.specs.Parts.{Says, NumeralsAt, ParametersAt, AsksLiterals, JudgesLiterals}
use Rattle.form.proofs.Steps.{held, Failed, failed}

-- the numerals and the parameters behind the first
pub numerals-behind : {nums : List ℕ} {at count : ℕ} {ns : List Numeral} → (o : FirstNumeral nums at count ns)
    → NumeralsAt nums (at + 1) (count - 1) o.others
numerals-behind o = record { stand = o.rest; counted = o.fewer }

pub parameters-behind : {nums : List ℕ} {at count : ℕ} {ps : List Parameter} → (o : FirstParameter nums at count ps)
    → ParametersAt nums (at + 2) (count - 1) o.others
parameters-behind o = record { stand = o.rest; counted = o.fewer }

-- a number fits a type
pub fits_bool : (ty n : ℕ) → ty ≡ 0 → ltb n 2 ≡ fits (ty_of ty) n
unfolding fits ty_of
fits_bool ty n e = rw e

pub fits_bits : (ty n : ℕ) (r : Bool) → (ty ≡ 0 → ⊥) → r ≡ fits_width ty n → r ≡ fits (ty_of ty) n
unfolding fits ty_of
fits_bits zero n r x e = absurd (x refl)
fits_bits (suc ty) n r x e = e

pub ruleset fitting = (fits_bool, fits_bits)

-- a literal for a parameter
module _ (nums : List ℕ) (parameter at count : ℕ) where
  pub literals-none : count ≡ 0 → JudgesLiterals nums parameter at count (Ok tt)
  unfolding told_form literals_fit
  literals-none e = record { judged = go }
    where
      go : (ps : List Parameter) (ns : List Numeral) → ParametersAt nums parameter count ps
          → NumeralsAt nums at count ns → told_form (Ok tt) ≡ literals_fit ps ns
      go [] ns p h = refl
      go (q ∷ ps) ns p h = absurd (omega (arith, e, p.counted))

  module _ (fit : Bool) (more : count ≡ 0 → ⊥) (is : fit ≡ fits (ty_of (get_or nums (parameter + 1) 0)) (get_or nums at 0))
    where
      fit_is : (ps : List Parameter) (ns : List Numeral) (p : FirstParameter nums parameter count ps)
          (n : FirstNumeral nums at count ns) (b : Bool) → fit ≡ b → fits p.first.ty n.first.number ≡ b
      fit_is ps ns p n b e = rw (← p.ty.is, ← n.stands.holds.is) (sym is ∙ e)

      pub unfit-here : (r : Formal) → told_form r ≡ fault 7 at → fit ≡ false → JudgesLiterals nums parameter at count r
      unfolding literals_fit need ◌>>=◌
      unfit-here r f e = record {
        judged = λ ps ns h k.
            let p : FirstParameter nums parameter count ps = first-parameter nums parameter count ps h.stand h.counted more in
            let n : FirstNumeral nums at count ns = first-numeral nums at count ns k.stand k.counted more in
            f ∙ rw (p.same, n.same, fit_is ps ns p n false e, n.stands.index);
      }

      pub fit-here : (r : Formal) → fit ≡ true → JudgesLiterals nums (parameter + 2) (at + 1) (count - 1) r
          → JudgesLiterals nums parameter at count r
      unfolding literals_fit need ◌>>=◌
      fit-here r e j = record {
        judged = λ ps ns h k.
            let p : FirstParameter nums parameter count ps = first-parameter nums parameter count ps h.stand h.counted more in
            let n : FirstNumeral nums at count ns = first-numeral nums at count ns k.stand k.counted more in
            rw (p.same, n.same, fit_is ps ns p n true e)
            (j.judged p.others n.others (parameters-behind p) (numerals-behind n));
      }

-- so many literals fit
pub record Fitting (nums : List ℕ) (parameter at count done : ℕ) : Type 0 where
  asks : AsksLiterals nums (parameter + 2 * done) (at + done) (count - done)
  rest : (r : Formal) → JudgesLiterals nums (parameter + 2 * done) (at + done) (count - done) r
      → JudgesLiterals nums parameter at count r

module _ (nums : List ℕ) (parameter at count : ℕ) where
  pub literals-first : AsksLiterals nums parameter at count → Fitting nums parameter at count 0
  literals-first h =
      let p : parameter + 2 * 0 ≡ parameter = omega arith in
      let a : at + 0 ≡ at = omega arith in
      let c : count - 0 ≡ count = omega arith in
      record { asks = rw (p, a, c) h; rest = λ r j. rw (p, a, c) at j }

  module _ (done : ℕ) (e : Fitting nums parameter at count done) where
    pub literals-done : count ≤ done → JudgesLiterals nums parameter at count (Ok tt)
    literals-done l =
        e.rest (Ok tt) (literals-none nums (parameter + 2 * done) (at + done) (count - done) (omega (arith, l)))

    module _ (l : done < count) where
      abbrev some_left : count - done ≡ 0 → ⊥
      some_left z = omega (arith, z, l)

      wanted : FirstParameter nums (parameter + 2 * done) (count - done) e.asks.parameters
      wanted = first-parameter nums (parameter + 2 * done) (count - done) e.asks.parameters
          e.asks.parameters_stand.stand e.asks.parameters_stand.counted some_left

      given : FirstNumeral nums (at + done) (count - done) e.asks.numerals
      given = first-numeral nums (at + done) (count - done) e.asks.numerals e.asks.stand.stand e.asks.stand.counted
          some_left

      pub literal-inside : at + done < length nums
      literal-inside = given.stands.holds.inside

      pub literal-small : Fits w64 (at + done)
      literal-small = record { fits = omega (arith, literal-inside, e.asks.numbers) }

      pub literal-next : at + done + 1 < 2 ^ 64
      literal-next = omega (arith, literal-inside, e.asks.numbers)

      pub type-inside : parameter + 2 * done + 1 < length nums
      type-inside = wanted.ty.inside

      pub type-double : Fits w64 (2 * done)
      type-double = record { fits = omega (arith, type-inside, e.asks.numbers) }

      pub type-small : Fits w64 (parameter + 2 * done)
      type-small = record { fits = omega (arith, type-inside, e.asks.numbers) }

      pub type-next : parameter + 2 * done + 1 < 2 ^ 64
      type-next = omega (arith, type-inside, e.asks.numbers)

      pub parameter-next : parameter + 2 * done + 2 < 2 ^ 64
      parameter-next = omega (arith, type-inside, e.asks.numbers)

      pub type-most : get_or nums (parameter + 2 * done + 1) 0 ≤ widest
      type-most = wanted.ty.most

      module _ (fit : Bool) (is : fit ≡ fits (ty_of (get_or nums (parameter + 2 * done + 1) 0)) (get_or nums (at + done) 0))
        where
          pub literals-unfit : (wrong : Fault) → Says (Err wrong) (need 7 (at + done) fit)
              → JudgesLiterals nums parameter at count (Err wrong)
          unfolding told_form
          literals-unfit wrong s =
              let z : Failed 7 (at + done) fit wrong = failed 7 (at + done) fit wrong s in
              e.rest (Err wrong) (unfit-here nums (parameter + 2 * done) (at + done) (count - done) fit some_left is
              (Err wrong) z.told z.not_so)

          pub literals-next : Says (Ok tt) (need 7 (at + done) fit) → Fitting nums parameter at count (done + 1)
          literals-next s =
              let p : parameter + 2 * (done + 1) ≡ parameter + 2 * done + 2 = omega arith in
              let a : at + (done + 1) ≡ at + done + 1 = omega arith in
              let c : count - (done + 1) ≡ count - done - 1 = omega arith in
              record {
                asks = rw (p, a, c) (record {
                  parameters = wanted.others;
                  numerals = given.others;
                  parameters_stand = parameters-behind wanted;
                  stand = numerals-behind given;
                  numbers = e.asks.numbers;
                });
                rest = λ r j. e.rest r (fit-here nums (parameter + 2 * done) (at + done) (count - done) fit some_left is
                    r (held 7 (at + done) fit s) (rw (p, a, c) at j));
              }

pub ruleset literals = (
  literals-first,
  literals-done,
  literal-inside,
  literal-small,
  type-inside,
  type-double,
  type-small,
  type-next,
  type-most,
  literals-unfit,
  literals-next,
)
