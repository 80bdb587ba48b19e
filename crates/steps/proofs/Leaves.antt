-- Expressions without operands: what their numbers are, and the value that they have by the rules.
use Rattle.program.specs.declared.Scope as coded
use mathlib.Core.Bool.{Bool, true, false}
use mathlib.Core.Option.{Option, some}
use mathlib.Core.Path.{◌≡◌, refl, ◌∙◌}
use mathlib.Core.List.{List}
use Prim.Native.Nat.{ℕ, ◌+◌, ◌≤◌, ◌<◌, ◌^◌}
use native.Mathlib.Omega.{arith}
use lib.ListN.{length, get_or}
use Rattle.rules.specs.Words.{widest}
use Rattle.rules.specs.Syntax.{Ty, bool, bits, value, Place, Expr, bool_literal, bits_literal, read_of, valid_of}
use Rattle.rules.specs.Form.{and_look, only_if, fits, Scope}
use Rattle.rules.specs.Running.{State, pure, or_stuck, truth, header_only, shape_for, declared, held, read_at, valid_at}
use Rattle.rules.proofs.Fits.{mark-fits}
use Rattle.program.specs.Codes.{ty_of}
use Rattle.program.specs.Stands.{StandsExpr, on_bool, on-bits, on-place, on-valid, on-not, on-complement, on-binary, on-cast, on-slice, on-concatenation, on_call}
use Rattle.program.proofs.Views.{expr-begins, expr-view, ExprView, BoolView, BitsView, ValidView}
use Rattle.program.proofs.Members.{bits_of}
use Rattle.values.specs.Claims.{value_of}
use Rattle.values.specs.declared.Value as values
use Rattle.store.specs.Mirrors.{Scene}
use Rattle.store.specs.Places.{NamesPlace, AsksPlace, HeldAs, ReadsPlace}
use Rattle.store.specs.Changes.{AsksHeader, Marked, ReadsMark}
use Rattle.steps.specs.Outcomes.{Goes}
use Rattle.steps.specs.Operands.{leaf_in, AsksLeaf, LeafGave, GivesLeaf}
use Rattle.steps.proofs.Going.{Known, not-nowhere, some-goes, some-then-goes, some_is, some-then-is, gets-then-is}

-- a literal that goes on fits its type
only-known : {A : Type 0} (b : Bool) (o : Option A) → Known (only_if b o) → b ≡ true
unfolding only_if
only-known true o k = refl
only-known false o k = let e = k.is in let z : ◌≡◌ {A = ℕ} 0 1 = cc in absurd (omega arith)

literal-gave : (t : Ty) (ty n counted : ℕ) (s : State) → ty_of ty ≡ t → ty ≤ widest
    → Goes counted (or_stuck (only_if (fits t n) (some (value t n))) s)
    → LeafGave s (or_stuck (only_if (fits t n) (some (value t n))) s) ty n
unfolding value_of only_if
literal-gave t ty n counted s e m g =
    let fit : fits t n ≡ true = only-known (fits t n) (some (value t n)) (some-goes _ s g) in
    record {
      is = some_is _ s (rw (fit, e) refl);
      is_value = record { most = m; fit = rw e fit };
    }

bool-gave : (Γ : Scope) (s : State) (e : Expr) (at n m counted : ℕ) → e ≡ bool_literal at n → m ≡ n
    → Goes counted (leaf_in Γ e s) → LeafGave s (leaf_in Γ e s) 0 m
unfolding leaf_in ty_of
bool-gave Γ s e at n m counted same k g =
    rw (k, same) (literal-gave bool 0 n counted s refl (omega arith) (rw same at g))

bits-gave : (Γ : Scope) (s : State) (e : Expr) (at width n ty m counted : ℕ) → e ≡ bits_literal at width n
    → 1 ≤ width → width ≤ widest → ty ≡ width → m ≡ n → Goes counted (leaf_in Γ e s) → LeafGave s (leaf_in Γ e s) ty m
unfolding leaf_in
bits-gave Γ s e at width n ty m counted same least most t k g =
    rw (t, k, same) (literal-gave (bits width) width n counted s (bits_of width least) most (rw same at g))

-- a place that goes on is declared and held
read_known : (Γ : Scope) (p : Place) (counted : ℕ) (s : State) → Goes counted (read_at Γ p s) → Known (declared Γ p)
unfolding read_at
read_known Γ p counted s g = let w = some-then-goes _ _ s g in record { member = w.member; is = w.is }

read-gave : (Γ : Scope) (p : Place) (s : State) (ty n : ℕ) → HeldAs Γ p s ty n → LeafGave s (read_at Γ p s) ty n
unfolding read_at value_of pure
read-gave Γ p s ty n h = record {
  is = some-then-is _ _ s h.declares ∙ gets-then-is (held p) _ s h.holds;
  is_value = record { most = h.most; fit = h.fit };
}

valid-known : (Γ : Scope) (g counted : ℕ) (s : State) → Goes counted (valid_at Γ g s)
    → Known (and_look (shape_for Γ g) header_only)
unfolding valid_at
valid-known Γ g counted s h = let w = some-then-goes _ _ s h in record { member = w.member; is = w.is }

valid-gave : (Γ : Scope) (g : ℕ) (s : State) (widths : List ℕ) (mark : ℕ)
    → and_look (shape_for Γ g) header_only ≡ some widths → Marked s g mark → LeafGave s (valid_at Γ g s) 0 mark
unfolding valid_at value_of pure truth ty_of
valid-gave Γ g s widths mark e m = record {
  is = some-then-is _ _ s e ∙ (gets-then-is _ _ s m.is ∙ rw m.told refl);
  is_value = record { most = omega arith; fit = rw m.told (mark-fits m.valid) };
}

module _ (nums directory ends : List ℕ) (scope : coded.Scope) (slots frame : List ℕ) (at : ℕ)
    (asks : AsksLeaf nums directory ends scope slots frame at) where
  pub leaf-inside : at < length nums
  leaf-inside = (expr-begins asks.stands).inside

  pub leaf-next : at + 1 < 2 ^ 64
  leaf-next = omega (arith, leaf-inside, asks.scene.scopes.program.numbers)

  pub leaf-second : at + 2 < 2 ^ 64
  leaf-second = omega (arith, leaf-inside, asks.scene.scopes.program.numbers)

  pub bool-inside : get_or nums at 0 ≡ 0 → at + 1 < length nums
  unfolding ExprView
  bool-inside e =
      let v : BoolView nums ends asks.depth at asks.expr = rw e at (expr-view asks.stands) in
      v.holds.inside

  pub width-inside : get_or nums at 0 ≡ 1 → at + 1 < length nums
  unfolding ExprView
  width-inside e =
      let v : BitsView nums ends asks.depth at asks.expr = rw e at (expr-view asks.stands) in
      v.width_holds.holds.inside

  pub bits_inside : get_or nums at 0 ≡ 1 → at + 2 < length nums
  unfolding ExprView
  bits_inside e =
      let v : BitsView nums ends asks.depth at asks.expr = rw e at (expr-view asks.stands) in
      v.holds.inside

  valid-view : get_or nums at 0 ≡ 6 → ValidView nums ends asks.depth at asks.expr
  unfolding ExprView
  valid-view e = rw e at (expr-view asks.stands)

  pub valid-inside : get_or nums at 0 ≡ 6 → at + 1 < length nums
  valid-inside e = (valid-view e).holds.inside

  pub valid-asks : get_or nums at 0 ≡ 6 → AsksHeader directory slots (get_or nums (at + 1) 0)
  unfolding leaf_in
  valid-asks e =
      let v = valid-view e in
      let k : Known (and_look (shape_for asks.scope_of v.number) header_only)
      = valid-known asks.scope_of v.number asks.counted asks.state (rw v.same at asks.going) in
      record {
        nums = nums;
        ends = ends;
        scope = scope;
        frame = frame;
        scope_of = asks.scope_of;
        state = asks.state;
        widths = k.member;
        scene = asks.scene;
        is = rw v.holds.is k.is;
      }

-- what is no literal and no test of validity is a place
pub record Placed (nums : List ℕ) (at : ℕ) (e : Expr) : Type 0 where
  pub place : Place
  pub same : e ≡ read_of at place
  pub names : NamesPlace nums at place

place_of : {nums ends : List ℕ} {depth at : ℕ} {e : Expr} (Γ : Scope) (s : State) (counted : ℕ)
    → StandsExpr nums ends depth at e → Goes counted (leaf_in Γ e s) → (get_or nums at 0 ≡ 0 → ⊥)
    → (get_or nums at 0 ≡ 1 → ⊥) → (get_or nums at 0 ≡ 6 → ⊥) → Placed nums at e
unfolding leaf_in
place_of Γ s counted (on_bool t n) g x y z = absurd (x t.holds.is)
place_of Γ s counted (on-bits t w n) g x y z = absurd (y t.holds.is)
place_of Γ s counted (on-place {p = p} t w) g x y z =
    record { place = p; same = refl; names = record { tag = t.holds; stands = w } }
place_of Γ s counted (on-valid t n) g x y z = absurd (z t.holds.is)
place_of Γ s counted (on-not t a) g x y z = not-nowhere s g
place_of Γ s counted (on-complement t a) g x y z = not-nowhere s g
place_of Γ s counted (on-binary t o a b) g x y z = not-nowhere s g
place_of Γ s counted (on-cast t w a) g x y z = not-nowhere s g
place_of Γ s counted (on-slice t h l a) g x y z = not-nowhere s g
place_of Γ s counted (on-concatenation t a b) g x y z = not-nowhere s g
place_of Γ s counted (on_call t f n xs) g x y z = not-nowhere s g

module _ (nums directory ends : List ℕ) (scope : coded.Scope) (slots frame : List ℕ) (at : ℕ) where
  pub place-asks : AsksLeaf nums directory ends scope slots frame at → (get_or nums at 0 ≡ 0 → ⊥)
      → (get_or nums at 0 ≡ 1 → ⊥) → (get_or nums at 0 ≡ 6 → ⊥)
      → AsksPlace nums directory ends scope slots frame at
  unfolding leaf_in
  place-asks asks x y z =
      let p = place_of asks.scope_of asks.state asks.counted asks.stands asks.going x y z in
      let k : Known (declared asks.scope_of p.place)
      = read_known asks.scope_of p.place asks.counted asks.state (rw p.same at asks.going) in
      record {
        scope_of = asks.scope_of;
        state = asks.state;
        place = p.place;
        ty = k.member;
        scene = asks.scene;
        names = p.names;
        declares = k.is;
      }

  pub bool-gives : get_or nums at 0 ≡ 0
      → GivesLeaf nums directory ends scope slots frame at 0 (get_or nums (at + 1) 0)
  unfolding ExprView
  bool-gives q = record {
    gives = λ Γ s e depth counted h w g.
        let v : BoolView nums ends depth at e = rw q at (expr-view w) in
        bool-gave Γ s e at v.literal (get_or nums (at + 1) 0) counted v.same v.holds.is g;
  }

  pub bits_gives : get_or nums at 0 ≡ 1
      → GivesLeaf nums directory ends scope slots frame at (get_or nums (at + 1) 0) (get_or nums (at + 2) 0)
  unfolding ExprView
  bits_gives q = record {
    gives = λ Γ s e depth counted h w g.
        let v : BitsView nums ends depth at e = rw q at (expr-view w) in
        bits-gave Γ s e at v.width v.literal (get_or nums (at + 1) 0) (get_or nums (at + 2) 0) counted v.same
        v.width_holds.at_least v.width_holds.at_most v.width_holds.holds.is v.holds.is g;
  }

  header-gave : (Γ : Scope) (s : State) (e : Expr) (g other mark counted : ℕ) → e ≡ valid_of at g → other ≡ g
      → ReadsMark directory slots other mark → Scene nums directory ends scope slots frame Γ s
      → Goes counted (leaf_in Γ e s) → LeafGave s (leaf_in Γ e s) 0 mark
  unfolding leaf_in
  header-gave Γ s e g other mark counted same k r h going =
      let known : Known (and_look (shape_for Γ g) header_only) = valid-known Γ g counted s (rw same at going) in
      let there : Marked s g mark
      = (rw k at r).reads nums ends scope frame Γ s known.member h known.is in
      rw same (valid-gave Γ g s known.member mark known.is there)

  pub valid-gives : (mark : ℕ) → get_or nums at 0 ≡ 6 → ReadsMark directory slots (get_or nums (at + 1) 0) mark
      → GivesLeaf nums directory ends scope slots frame at 0 mark
  unfolding ExprView
  valid-gives mark q r = record {
    gives = λ Γ s e depth counted h w g.
        let v : ValidView nums ends depth at e = rw q at (expr-view w) in
        header-gave Γ s e v.number (get_or nums (at + 1) 0) mark counted v.same v.holds.is r h g;
  }

  pub place-gives : (r : values.Value) → (get_or nums at 0 ≡ 0 → ⊥) → (get_or nums at 0 ≡ 1 → ⊥)
      → (get_or nums at 0 ≡ 6 → ⊥) → ReadsPlace nums directory ends scope slots frame at r
      → GivesLeaf nums directory ends scope slots frame at r.ty r.number
  unfolding leaf_in
  place-gives r x y z reads = record {
    gives = λ Γ s e depth counted h w g.
        let p = place_of Γ s counted w g x y z in
        let k : Known (declared Γ p.place) = read_known Γ p.place counted s (rw p.same at g) in
        rw p.same (read-gave Γ p.place s r.ty r.number
        (reads.reads Γ s p.place k.member h p.names k.is));
  }

pub ruleset leaves = (
  leaf-next,
  leaf-second,
  leaf-inside,
  bool-inside,
  width-inside,
  bits_inside,
  valid-inside,
  valid-asks,
  place-asks,
  bool-gives,
  bits_gives,
  valid-gives,
  place-gives,
)
