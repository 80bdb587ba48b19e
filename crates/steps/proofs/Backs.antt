-- What comes back from a call: one argument, then the others.
use Rattle.program.specs.declared.Scope as coded
use mathlib.Core.Bool.{Bool, true, false}
use mathlib.Core.Option.{Option, none, some}
use mathlib.Core.Path.{◌≡◌, refl, ◌∙◌, sym}
use mathlib.Core.List.{List, []}
use Prim.Native.Nat.{ℕ, ◌+◌, ◌≤◌, ◌<◌}
use native.Mathlib.Omega.{arith}
use lib.ListN.{length, get_or}
use Rattle.rules.specs.Syntax.{Ty, Value, value, Direction, by_none, by_in, by_out, by_inout, Place, Expr, Parameter, place_in}
use Rattle.rules.specs.Form.{only_if, same_ty, comes_back, writable, Scope}
use Rattle.rules.specs.Running.{State, done, pure, puts, number_of, declared, put, write_at, write_back}
use Rattle.rules.proofs.Fits.{Fit, same_ty-true, all2-length}
use Rattle.program.specs.Codes.{direction_number}
use Rattle.program.specs.Stands.{StandsExpr, on_bool, on-bits, on-place, on-valid, on-not, on-complement, on-binary, on-cast, on-slice, on-concatenation, on_call}
use Rattle.store.specs.Mirrors.{Scene}
use Rattle.store.specs.Places.{NamesPlace}
use Rattle.store.specs.Changes.{Becomes, AsksWrite, Writes}
use Rattle.steps.specs.Outcomes.{Goes}
use Rattle.steps.specs.Calls.{own_of, one_back, AsksOneBack, RanBack, BacksOne}
use Rattle.steps.proofs.Going.{Known, not-nowhere, some-then-goes, some-then-is, ran-here, ran-becomes}

-- an argument that comes back names a place
names_of : {nums ends : List ℕ} {depth at : ℕ} {e : Expr} (q : Place) → StandsExpr nums ends depth at e
    → place_in e ≡ some q → NamesPlace nums at q
unfolding place_in
names_of {nums} {at = at} q (on-place {p = p} t w) k =
    let same : p ≡ q = cc in
    let names : NamesPlace nums at p = record { tag = t.holds; stands = w } in
    rw same at names
names_of q (on_bool t n) k = let z : ◌≡◌ {A = ℕ} 0 1 = cc in absurd (omega arith)
names_of q (on-bits t w n) k = let z : ◌≡◌ {A = ℕ} 0 1 = cc in absurd (omega arith)
names_of q (on-valid t g) k = let z : ◌≡◌ {A = ℕ} 0 1 = cc in absurd (omega arith)
names_of q (on-not t a) k = let z : ◌≡◌ {A = ℕ} 0 1 = cc in absurd (omega arith)
names_of q (on-complement t a) k = let z : ◌≡◌ {A = ℕ} 0 1 = cc in absurd (omega arith)
names_of q (on-binary t o a b) k = let z : ◌≡◌ {A = ℕ} 0 1 = cc in absurd (omega arith)
names_of q (on-cast t w a) k = let z : ◌≡◌ {A = ℕ} 0 1 = cc in absurd (omega arith)
names_of q (on-slice t h l a) k = let z : ◌≡◌ {A = ℕ} 0 1 = cc in absurd (omega arith)
names_of q (on-concatenation t a b) k = let z : ◌≡◌ {A = ℕ} 0 1 = cc in absurd (omega arith)
names_of q (on_call t f n xs) k = let z : ◌≡◌ {A = ℕ} 0 1 = cc in absurd (omega arith)

-- a write that goes on: the place is declared with the value's type
pub record Target (Γ : Scope) (place : Place) (v : Value) : Type 0 where
  pub ty : Ty
  pub number : ℕ
  pub asked : only_if (writable Γ place) (declared Γ place) ≡ some ty
  pub declares : declared Γ place ≡ some ty
  pub given : number_of ty v ≡ some number
  pub value : v ≡ value ty number

only-some : {A : Type 0} {a : A} (b : Bool) (o : Option A) → only_if b o ≡ some a → o ≡ some a
unfolding only_if
only-some true o e = e
only-some false o e = let z : ◌≡◌ {A = ℕ} 0 1 = cc in absurd (omega arith)

pub value-is : (t : Ty) (v : Value) (n : ℕ) → number_of t v ≡ some n → v ≡ value t n
unfolding number_of
value-is t (value u m) n e = go (same_ty t u) refl e
  where
    go : (b : Bool) → same_ty t u ≡ b → only_if b (some m) ≡ some n → value u m ≡ value t n
    go true q k = unfold only_if in let same : t ≡ u = same_ty-true t u q in cc
    go false q k = unfold only_if in let z : ◌≡◌ {A = ℕ} 0 1 = cc in absurd (omega arith)

pub write-target : (Γ : Scope) (place : Place) (v : Value) (s : State) (counted : ℕ) → Goes counted (write_at Γ place v s)
    → Target Γ place v
unfolding write_at
write-target Γ place v s counted g =
    let t = some-then-goes (only_if (writable Γ place) (declared Γ place)) _ s g in
    let n = some-then-goes (number_of t.member v) (λ n. puts (put place n)) s t.rest in
    record {
      ty = t.member;
      number = n.member;
      asked = t.is;
      declares = only-some (writable Γ place) (declared Γ place) t.is;
      given = n.is;
      value = value-is t.member v n.member n.is;
    }

pub write-is : (Γ : Scope) (place : Place) (v : Value) (s : State) (t : Target Γ place v)
    → write_at Γ place v s ≡ puts (put place t.number) s
unfolding write_at
write-is Γ place v s t =
    some-then-is (only_if (writable Γ place) (declared Γ place)) _ s t.asked
    ∙ some-then-is (number_of t.ty v) (λ n. puts (put place n)) s t.given

-- which directions come back
back_is : (d : Direction) → 2 ≤ direction_number d → comes_back d ≡ true
unfolding direction_number comes_back
back_is by_none h = absurd (omega arith)
back_is by_in h = absurd (omega arith)
back_is by_out h = refl
back_is by_inout h = refl

back-not : (d : Direction) → direction_number d < 2 → comes_back d ≡ false
unfolding direction_number comes_back
back-not by_none h = refl
back-not by_in h = refl
back-not by_out h = absurd (omega arith)
back-not by_inout h = absurd (omega arith)

pub record Back (Γ : Scope) (p : Parameter) (e : Expr) (n : ℕ) : Type 0 where
  pub place : Place
  pub names : place_in e ≡ some place
  pub target : Target Γ place (value p.ty n)

back_some : (Γ : Scope) (o : Option Place) (v : Value) (s : State) (counted : ℕ) → Goes counted (write_back Γ o v s)
    → Known o
unfolding write_back
back_some Γ none v s counted g = not-nowhere s g
back_some Γ (some q) v s counted g = record { member = q; is = refl }

back-of : (Γ : Scope) (p : Parameter) (e : Expr) (n : ℕ) (s : State) (counted : ℕ) → comes_back p.direction ≡ true
    → Goes counted (one_back Γ p e n s) → Back Γ p e n
unfolding one_back
back-of Γ p e n s counted d g =
    let there : Goes counted (write_back Γ (place_in e) (value p.ty n) s) = rw (d, one_back) at g in
    let k = back_some Γ (place_in e) (value p.ty n) s counted there in
    record {
      place = k.member;
      names = k.is;
      target = write-target Γ k.member (value p.ty n) s counted (written (place_in e) k.member k.is there);
    }
  where
    written : (o : Option Place) (q : Place) → o ≡ some q → Goes counted (write_back Γ o (value p.ty n) s)
        → Goes counted (write_at Γ q (value p.ty n) s)
    written o q k h = unfold write_back in let there : Goes counted (write_back Γ (some q) (value p.ty n) s) = rw k at h in there

one-is : (Γ : Scope) (p : Parameter) (e : Expr) (n : ℕ) (s : State) (b : Back Γ p e n) → comes_back p.direction ≡ true
    → one_back Γ p e n s ≡ puts (put b.place b.target.number) s
unfolding one_back write_back
one-is Γ p e n s b d =
    let back : one_back Γ p e n s ≡ write_back Γ (place_in e) (value p.ty n) s = rw (d, one_back) refl in
    let there : write_back Γ (place_in e) (value p.ty n) s ≡ write_at Γ b.place (value p.ty n) s
    = rw b.names refl in
    back ∙ (there ∙ write-is Γ b.place (value p.ty n) s b.target)

pub none_is : (Γ : Scope) (p : Parameter) (e : Expr) (n : ℕ) (s : State) → comes_back p.direction ≡ false
    → one_back Γ p e n s ≡ done tt s []
unfolding one_back pure
none_is Γ p e n s d = rw (d, one_back) refl

-- one argument
module _ (nums directory : List ℕ) (scope : coded.Scope) (slots frame : List ℕ) (at parameters slot : ℕ) where
  pub back-asks : AsksOneBack nums directory scope slots frame at parameters slot → 2 ≤ get_or nums parameters 0
      → AsksWrite nums directory scope slots frame at
  back-asks a h =
      let d : comes_back a.parameter.direction ≡ true
      = back_is a.parameter.direction (omega (arith, a.left.direction.is)) in
      let b = back-of a.scope_of a.parameter a.expr a.number a.state a.counted d a.going in
      record {
        ends = a.ends;
        asks = record {
          scope_of = a.scope_of;
          state = a.state;
          place = b.place;
          ty = b.target.ty;
          scene = a.left.scene;
          names = names_of b.place a.left.stands b.names;
          declares = b.target.declares;
        };
      }

  same-value : (t u : Ty) (n m : ℕ) → value t n ≡ value u m → Fit t n → (m ≡ n) × Fit u m
  same-value t u n m e f = let same : t ≡ u = cc in let k : m ≡ n = cc in (k, rw (k, ← same) f)

  pub back-written : (slots' frame' : List ℕ) → 2 ≤ get_or nums parameters 0
      → Writes nums directory scope slots slots' frame frame' at (get_or frame slot 0)
      → BacksOne nums directory scope slots slots' frame frame' at parameters slot
  back-written slots' frame' h w = record {
    backs = λ ends Γ s e p n counted l g.
        let d : comes_back p.direction ≡ true = back_is p.direction (omega (arith, l.direction.is)) in
        let b = back-of Γ p e n s counted d g in
        let v = same-value p.ty b.target.ty n b.target.number b.target.value l.fit in
        let k : get_or frame slot 0 ≡ b.target.number = l.is ∙ sym v.0 in
        let made : Becomes nums directory ends scope slots slots' frame frame' Γ s
        (put b.place (get_or frame slot 0) s)
        = (w.written ends).writes Γ s b.place b.target.ty l.scene
        (names_of b.place l.stands b.names) b.target.declares (rw k v.1) in
        back-ran ends Γ s e p n slots' frame' b d k made l.scene;
  }
    where
      back-ran : (ends : List ℕ) (Γ : Scope) (s : State) (e : Expr) (p : Parameter) (n : ℕ)
          (slots' frame' : List ℕ) (b : Back Γ p e n) → comes_back p.direction ≡ true
          → get_or frame slot 0 ≡ b.target.number
          → Becomes nums directory ends scope slots slots' frame frame' Γ s (put b.place (get_or frame slot 0) s)
          → Scene nums directory ends scope slots frame Γ s
          → RanBack nums directory ends scope slots slots' frame frame' Γ (one_back Γ p e n s)
      back-ran ends Γ s e p n slots' frame' b d k made h =
          let own : length s.parameters + length s.locals ≡ own_of Γ
          = omega (arith, all2-length h.fits.parameters-fit, all2-length h.fits.locals-fit) in
          record {
            ran = rw (one-is Γ p e n s b d, ← k) (ran-becomes (put b.place (get_or frame slot 0)) s made);
            keeps = rw own at made.keeps;
          }

  pub back_none : get_or nums parameters 0 < 2 → BacksOne nums directory scope slots slots frame frame at parameters slot
  back_none h = record {
    backs = λ ends Γ s e p n counted l g. record {
      ran = ran-here s tt l.scene (none_is Γ p e n s (back-not p.direction (omega (arith, l.direction.is)))) tt;
      keeps = record { same = refl; free = λ i k. refl };
    };
  }

pub ruleset backing = (back-asks, back-written, back_none)
