-- Numerals, parameters and keys one after the other: those of which some are left have a first.
use mathlib.Core.Path.{◌≡◌, refl}
use mathlib.Core.List.{List, [], ◌∷◌}
use Prim.Native.Nat.{ℕ, ◌+◌, ◌-◌}
use native.Mathlib.Omega.{arith}
use lib.ListN.{length, get_or}
use Rattle.rules.specs.Syntax.{Parameter, Numeral, Key}
use Rattle.rules.specs.Reading.{deepest}
use Rattle.program.specs.Codes.{key_kind_number, direction_number}
use Rattle.program.specs.Stands.{Holds, HoldsTy, StandsExpr, StandsParameters, StandsNumeral, StandsNumerals, StandsKeys}

pub record FirstNumeral (nums : List ℕ) (at count : ℕ) (ns : List Numeral) : Type 0 where
  pub first : Numeral
  pub others : List Numeral
  pub same : ns ≡ first ∷ others
  pub stands : StandsNumeral nums at first
  pub rest : StandsNumerals nums (at + 1) others
  pub fewer : count - 1 ≡ length others

pub first-numeral : (nums : List ℕ) (at count : ℕ) (ns : List Numeral) → StandsNumerals nums at ns → count ≡ length ns
    → (count ≡ 0 → ⊥) → FirstNumeral nums at count ns
unfolding StandsNumerals
first-numeral nums at count [] s e more = absurd (more e)
first-numeral nums at count (n ∷ ns) s e more =
    record { first = n; others = ns; same = refl; stands = s.0; rest = s.1; fewer = omega (arith, e) }

pub record FirstParameter (nums : List ℕ) (at count : ℕ) (ps : List Parameter) : Type 0 where
  pub first : Parameter
  pub others : List Parameter
  pub same : ps ≡ first ∷ others
  pub direction : Holds nums at (direction_number first.direction)
  pub ty : HoldsTy nums (at + 1) first.ty
  pub rest : StandsParameters nums (at + 2) others
  pub fewer : count - 1 ≡ length others

pub first-parameter : (nums : List ℕ) (at count : ℕ) (ps : List Parameter) → StandsParameters nums at ps
    → count ≡ length ps → (count ≡ 0 → ⊥) → FirstParameter nums at count ps
unfolding StandsParameters
first-parameter nums at count [] s e more = absurd (more e)
first-parameter nums at count (p ∷ ps) s e more = record {
  first = p;
  others = ps;
  same = refl;
  direction = s.0;
  ty = s.1.0;
  rest = s.1.1;
  fewer = omega (arith, e);
}

pub record FirstKey (nums ends : List ℕ) (at count : ℕ) (ks : List Key) : Type 0 where
  pub first : Key
  pub others : List Key
  pub same : ks ≡ first ∷ others
  pub index : first.at ≡ at
  pub kind : Holds nums at (key_kind_number first.kind)
  pub stands : StandsExpr nums ends deepest (at + 1) first.expr
  pub rest : StandsKeys nums ends (get_or ends (at + 1) 0) others
  pub fewer : count - 1 ≡ length others

pub first_key : (nums ends : List ℕ) (at count : ℕ) (ks : List Key) → StandsKeys nums ends at ks → count ≡ length ks
    → (count ≡ 0 → ⊥) → FirstKey nums ends at count ks
unfolding StandsKeys
first_key nums ends at count [] s e more = absurd (more e)
first_key nums ends at count (k ∷ ks) s e more = record {
  first = k;
  others = ks;
  same = refl;
  index = s.0;
  kind = s.1.0;
  stands = s.1.1.0;
  rest = s.1.1.1;
  fewer = omega (arith, e);
}
