-- The members of lists of numbers, by position; types as numbers.
use mathlib.Core.Option.{some}
use mathlib.Core.Path.{◌≡◌, refl, sym}
use mathlib.Core.List.{List, [], ◌∷◌}
use Prim.Native.Nat.{ℕ, zero, suc, ◌+◌, ◌*◌, ◌≤◌, ◌<◌}
use native.Mathlib.Omega.{arith}
use lib.ListN.{get_elem?, drop}
use lib.Dec.{eqb}
use borrow.Author.Tests.{ne_eqb}
use Rattle.rules.specs.Words.{widest}
use Rattle.rules.specs.Syntax.{Ty, bits, Parameter, Numeral, GlobalTy, variable, header}
use Rattle.rules.specs.Form.{same_ty}
use Rattle.program.specs.Codes.{ty_of, header_number, direction_number}
use Rattle.program.specs.Stands.{Holds, HoldsWithin, HoldsTy, StandsWidths, StandsTypes, StandsParameters, StandsNumeral, StandsNumerals}
use Rattle.program.specs.Looks.{GlobalNumber}

-- a parameter where it stands
pub record StandsParameter (nums : List ℕ) (at : ℕ) (p : Parameter) : Type 0 where
  pub direction : Holds nums at (direction_number p.direction)
  pub ty : HoldsTy nums (at + 1) p.ty

pub parameter-at : (nums : List ℕ) (at : ℕ) (ps : List Parameter) → StandsParameters nums at ps
    → (i : ℕ) (p : Parameter) → get_elem? ps i ≡ some p → StandsParameter nums (at + 2 * i) p
unfolding StandsParameters
parameter-at nums at [] s i p e = let z : ◌≡◌ {A = ℕ} 0 1 = cc in absurd (omega arith)
parameter-at nums at (q ∷ ps) s zero p e =
    let same : q ≡ p = cc in
    let first : at + 2 * 0 ≡ at = omega arith in
    rw (← same, first) (record { direction = s.0; ty = s.1.0 })
parameter-at nums at (q ∷ ps) s (suc i) p e =
    let next : at + 2 * suc i ≡ at + 2 + 2 * i = omega arith in
    rw next (parameter-at nums (at + 2) ps s.1.1 i p e)

pub type_at : (nums : List ℕ) (at : ℕ) (ts : List Ty) → StandsTypes nums at ts
    → (i : ℕ) (t : Ty) → get_elem? ts i ≡ some t → HoldsTy nums (at + i) t
unfolding StandsTypes
type_at nums at [] s i t e = let z : ◌≡◌ {A = ℕ} 0 1 = cc in absurd (omega arith)
type_at nums at (u ∷ ts) s zero t e =
    let same : u ≡ t = cc in
    let first : at + 0 ≡ at = omega arith in
    rw (← same, first) s.0
type_at nums at (u ∷ ts) s (suc i) t e =
    let next : at + suc i ≡ at + 1 + i = omega arith in
    rw next (type_at nums (at + 1) ts s.1 i t e)

pub width-at : (nums : List ℕ) (at : ℕ) (ws : List ℕ) → StandsWidths nums at ws
    → (i w : ℕ) → get_elem? ws i ≡ some w → HoldsWithin 1 widest nums (at + i) w
unfolding StandsWidths
width-at nums at [] s i w e = let z : ◌≡◌ {A = ℕ} 0 1 = cc in absurd (omega arith)
width-at nums at (v ∷ ws) s zero w e =
    let same : v ≡ w = cc in
    let first : at + 0 ≡ at = omega arith in
    rw (← same, first) s.0
width-at nums at (v ∷ ws) s (suc i) w e =
    let next : at + suc i ≡ at + 1 + i = omega arith in
    rw next (width-at nums (at + 1) ws s.1 i w e)

pub numeral-at : (nums : List ℕ) (at : ℕ) (ns : List Numeral) → StandsNumerals nums at ns
    → (i : ℕ) (n : Numeral) → get_elem? ns i ≡ some n → StandsNumeral nums (at + i) n
unfolding StandsNumerals
numeral-at nums at [] s i n e = let z : ◌≡◌ {A = ℕ} 0 1 = cc in absurd (omega arith)
numeral-at nums at (m ∷ ns) s zero n e =
    let same : m ≡ n = cc in
    let first : at + 0 ≡ at = omega arith in
    rw (← same, first) s.0
numeral-at nums at (m ∷ ns) s (suc i) n e =
    let next : at + suc i ≡ at + 1 + i = omega arith in
    rw next (numeral-at nums (at + 1) ns s.1 i n e)

-- from a member on
pub drop-member : {A : Type 0} (xs : List A) (i : ℕ) (x : A) → get_elem? xs i ≡ some x
    → drop i xs ≡ x ∷ drop (suc i) xs
drop-member [] i x e = let z : ◌≡◌ {A = ℕ} 0 1 = cc in absurd (omega arith)
drop-member (y ∷ xs) zero x e =
    let same : y ≡ x = cc in
    rw same
drop-member (y ∷ xs) (suc i) x e = drop-member xs i x e

-- types are the same where their numbers are
pub same-types : (t u : ℕ) → same_ty (ty_of t) (ty_of u) ≡ eqb t u
unfolding same_ty ty_of
same-types zero zero = refl
same-types zero (suc u) = sym (ne_eqb 0 (suc u) (λ e. absurd (omega (arith, e))))
same-types (suc t) zero = sym (ne_eqb (suc t) 0 (λ e. absurd (omega (arith, e))))
same-types (suc t) (suc u) = refl

pub bits_of : (width : ℕ) → 1 ≤ width → ty_of width ≡ bits width
unfolding ty_of
bits_of zero h = absurd (omega arith)
bits_of (suc width) h = refl

-- a number above every width is a header type's
pub header-high : (n : ℕ) (t : GlobalTy) → widest < n → GlobalNumber n t → 128 ≤ n
unfolding GlobalNumber header_number
header-high n (variable t) h g = absurd (omega (arith, g.0))
header-high n (header i) h g = omega (arith, g.0)
