-- Expressions with no operands: what a global's shape and a tag say of the rules' judgement.
use Rattle.program.specs.declared.Scope as coded
use mathlib.Core.Bool.{Bool, true, false}
use mathlib.Core.Option.{none}
use mathlib.Core.Path.{◌≡◌, refl, ◌∙◌}
use mathlib.Core.List.{List}
use Prim.Native.Nat.{ℕ, ◌+◌, ◌≤◌, ◌<◌}
use native.Mathlib.Omega.{arith}
use lib.ListN.{length, get_or}
use Rattle.std.specs.Prelude.{Ok, Err, Some, None}
use Rattle.std.specs.Prelude.{Option as Optional}
use Rattle.rules.specs.declared.Reason.TheVariants as reason
use Rattle.rules.specs.declared.Fault.{Fault}
use Rattle.rules.specs.Numbers.{most_bytes}
use Rattle.rules.specs.Words.{widest}
use Rattle.rules.specs.Syntax.{bool, Place, local, parameter, global, field, Expr, read_of, place_in}
use Rattle.rules.specs.Form.{Res, ok, fault, ◌>>=◌, named, need, sees_globals, global_at, Scope, writable, writable_in, judge_variable, judge_field, judge_header, judge_global, judge_place, judge_header_at, judge_expr}
use Rattle.program.specs.Codes.{ty_of, place_tag}
use Rattle.program.specs.Stands.{StandsPlace, StandsExpr, on_bool, on-bits, on-place, on-valid, on-not, on-complement, on-binary, on-cast, on-slice, on-concatenation, on_call}
use Rattle.program.specs.Scopes.{StandsScope}
use Rattle.program.proofs.Views.{ExprView, BoolView, BitsView, PlaceView, ValidView, expr-view, expr-begins}
use Rattle.bodies.specs.declared.Found.{Found}
use Rattle.bodies.specs.declared.Found.TheVariants.{Variable, Header}
use Rattle.bodies.specs.Claims.{Typed, refused, told_ty, TyMost}
use Rattle.bodies.specs.Leaves.{Tells, IsWidth, bool_ty, bits_ty, AsksName, AsksFieldName, TypedIn, AsksSlot, SlotTyped, local_ty, parameter_ty, variable_ty, field_ty, header_ty, HeaderFound, FoundShape, FindsGlobal, AsksGlobal, NamedShape, NamesGlobal, SeenTyped, AsksField, FieldTyped, AsksWritable, IsWritableParameter, IsWritable, AsksLeaf, JudgesLeaf}
use Rattle.bodies.proofs.Naming.{none_found}

-- a bool behind what is asked alone
marked : (x : Res (Unit {0})) → (x >>= λ _. ok (ty_of 0)) ≡ ((x >>= λ _. ok (tt {0})) >>= λ _. ok bool)
unfolding ◌>>=◌ ty_of
marked (ok u) = refl
marked (fault number index) = refl

-- a global by what it was found to be
module _ (nums directory ends : List ℕ) (scope : coded.Scope) (at : ℕ) where
  pub name-global : AsksName nums directory ends scope at → AsksGlobal nums directory ends at
  name-global asks = record {
    program = record { program = asks.scope_of.program; end = asks.seen.end; stands = asks.seen.program };
    inside = asks.inside;
  }

  module _ (y : Found) (f : NamesGlobal nums directory ends at (Ok y)) where
    pub shape_of : (z : Found) → y ≡ z → (Γ : Scope) → StandsScope nums directory ends scope Γ
        → FoundShape nums (Some z) (global_at Γ.program (get_or nums (at + 1) 0))
    unfolding NamedShape
    shape_of z e Γ s = rw e at (f.named Γ.program s.end s.program)

    module _ (t : ℕ) (e : y ≡ Variable t) where
      pub variable-most : AsksName nums directory ends scope at → t ≤ widest
      unfolding FoundShape
      variable-most asks = (shape_of (Variable t) e asks.scope_of asks.seen).0

      pub variable-seen : (r : Typed) → SeenTyped scope at t r
          → TypedIn nums directory ends scope (variable_ty nums at) r
      unfolding FoundShape variable_ty judge_place judge_global judge_variable named ◌>>=◌
      variable-seen r q = record {
        judged = λ Γ s. rw (shape_of (Variable t) e Γ s).1 (q.judged Γ.body s.body);
        most = q.most;
      }

      pub field-of-variable : TypedIn nums directory ends scope (field_ty nums at) (refused reason.Type at)
      unfolding FoundShape field_ty judge_place judge_global judge_field named ◌>>=◌ told_ty TyMost
      field-of-variable = record { judged = λ Γ s. rw (shape_of (Variable t) e Γ s).1; most = tt }

      pub header-of-variable : TypedIn nums directory ends scope (header_ty nums at) (refused reason.Type at)
      unfolding FoundShape header_ty judge_header_at judge_global judge_header named ◌>>=◌ told_ty TyMost
      header-of-variable = record { judged = λ Γ s. rw (shape_of (Variable t) e Γ s).1; most = tt }

    module _ (h : ℕ) (e : y ≡ Header h) where
      pub header-found : (Γ : Scope) → StandsScope nums directory ends scope Γ
          → HeaderFound nums h (global_at Γ.program (get_or nums (at + 1) 0))
      unfolding FoundShape
      header-found Γ s = shape_of (Header h) e Γ s

      pub variable-of-header : TypedIn nums directory ends scope (variable_ty nums at) (refused reason.Type at)
      unfolding variable_ty judge_place judge_global judge_variable named ◌>>=◌ told_ty TyMost
      variable-of-header = record { judged = λ Γ s. rw (header-found Γ s).is; most = tt }

      pub field-asks : AsksFieldName nums directory ends scope at → AsksField nums at h
      field-asks asks =
          let q : HeaderFound nums h (global_at asks.name.scope_of.program (get_or nums (at + 1) 0))
          = header-found asks.name.scope_of asks.name.seen in
          record {
            numbers = asks.name.seen.program.numbers;
            inside = asks.inside;
            widths = q.widths;
            count = q.count;
            stand = q.stand;
          }

      pub field-seen : (r : Typed) → FieldTyped nums scope at h r
          → TypedIn nums directory ends scope (field_ty nums at) r
      unfolding field_ty judge_place judge_global named ◌>>=◌
      field-seen r q = record {
        judged = λ Γ s.
            let z : HeaderFound nums h (global_at Γ.program (get_or nums (at + 1) 0)) = header-found Γ s in
            rw z.is (q.judged Γ.body s.body z.widths z.count z.stand);
        most = q.most;
      }

      pub header-seen : (r : Typed) → SeenTyped scope at 0 r → TypedIn nums directory ends scope (header_ty nums at) r
      unfolding header_ty judge_header_at judge_global judge_header named ◌>>=◌
      header-seen r q = record {
        judged = λ Γ s. rw (header-found Γ s).is (q.judged Γ.body s.body ∙ marked (need 8 at (sees_globals
            Γ.body)));
        most = q.most;
      }

  module _ (wrong : Fault) (f : NamesGlobal nums directory ends at (Err wrong)) where
    pub nothing-found : (Γ : Scope) → StandsScope nums directory ends scope Γ
        → (global_at Γ.program (get_or nums (at + 1) 0) ≡ none)
        × (wrong ≡ record { reason = reason.Unnamed; index = at + 1 })
    unfolding NamedShape
    nothing-found Γ s = f.named Γ.program s.end s.program

    pub variable-none : TypedIn nums directory ends scope (variable_ty nums at) (Err wrong)
    unfolding variable_ty judge_place judge_global named ◌>>=◌ TyMost
    variable-none = record {
      judged = λ Γ s. rw (nothing-found Γ s).1 (none_found at ∙ rw (nothing-found Γ s).0);
      most = tt;
    }

    pub field-none : TypedIn nums directory ends scope (field_ty nums at) (Err wrong)
    unfolding field_ty judge_place judge_global named ◌>>=◌ TyMost
    field-none = record {
      judged = λ Γ s. rw (nothing-found Γ s).1 (none_found at ∙ rw (nothing-found Γ s).0);
      most = tt;
    }

    pub header-none : TypedIn nums directory ends scope (header_ty nums at) (Err wrong)
    unfolding header_ty judge_header_at judge_global named ◌>>=◌ TyMost
    header-none = record {
      judged = λ Γ s. rw (nothing-found Γ s).1 (none_found at ∙ rw (nothing-found Γ s).0);
      most = tt;
    }

-- the global whose number stands behind the tag
module _ (nums directory ends : List ℕ) (at : ℕ) (x : Optional Found)
    (f : FindsGlobal nums directory ends (get_or nums (at + 1) 0) x) where
  pub global-named : (y : Found) → x ≡ Some y → NamesGlobal nums directory ends at (Ok y)
  unfolding NamedShape
  global-named y e = record { named = λ P end s. rw e at (f.found P end s) }

  pub global-unnamed : x ≡ None → NamesGlobal nums directory ends at (refused reason.Unnamed (at + 1))
  unfolding NamedShape FoundShape
  global-unnamed e = record { named = λ P end s. (rw e at (f.found P end s), refl) }

pub ruleset naming = (global-named, global-unnamed)

pub ruleset shapes = (
  name-global,
  variable-most,
  variable-seen,
  variable-of-header,
  variable-none,
  field-of-variable,
  field-asks,
  field-seen,
  field-none,
  header-of-variable,
  header-seen,
  header-none,
)

-- the place at an index, by its tag
module _ (nums : List ℕ) (at : ℕ) where
  local-place : (p : Place) → place_tag p ≡ 2 → StandsPlace nums at p → p ≡ local (get_or nums (at + 1) 0)
  unfolding place_tag StandsPlace
  local-place (local i) e s = rw s.is
  local-place (parameter i) e s = absurd (omega arith)
  local-place (global g) e s = absurd (omega arith)
  local-place (field g f) e s = absurd (omega arith)

  parameter-place : (p : Place) → place_tag p ≡ 3 → StandsPlace nums at p → p ≡ parameter (get_or nums (at + 1) 0)
  unfolding place_tag StandsPlace
  parameter-place (local i) e s = absurd (omega arith)
  parameter-place (parameter i) e s = rw s.is
  parameter-place (global g) e s = absurd (omega arith)
  parameter-place (field g f) e s = absurd (omega arith)

  global-place : (p : Place) → place_tag p ≡ 4 → StandsPlace nums at p → p ≡ global (get_or nums (at + 1) 0)
  unfolding place_tag StandsPlace
  global-place (local i) e s = absurd (omega arith)
  global-place (parameter i) e s = absurd (omega arith)
  global-place (global g) e s = rw s.is
  global-place (field g f) e s = absurd (omega arith)

  field-place : (p : Place) → place_tag p ≡ 5 → StandsPlace nums at p
      → p ≡ field (get_or nums (at + 1) 0) (get_or nums (at + 2) 0)
  unfolding place_tag StandsPlace
  field-place (local i) e s = absurd (omega arith)
  field-place (parameter i) e s = absurd (omega arith)
  field-place (global g) e s = absurd (omega arith)
  field-place (field g f) e s = rw (s.0.is, s.1.is)

  place_inside : (p : Place) → StandsPlace nums at p → at + 1 < length nums
  unfolding StandsPlace
  place_inside (local i) s = s.inside
  place_inside (parameter i) s = s.inside
  place_inside (global g) s = s.inside
  place_inside (field g f) s = s.0.inside

  field-inside : (p : Place) → place_tag p ≡ 5 → StandsPlace nums at p → at + 2 < length nums
  unfolding place_tag StandsPlace
  field-inside (local i) e s = absurd (omega arith)
  field-inside (parameter i) e s = absurd (omega arith)
  field-inside (global g) e s = absurd (omega arith)
  field-inside (field g f) e s = s.1.inside

-- the expression at an index that is a place
module _ (nums ends : List ℕ) (at : ℕ) where
  local-read : get_or nums at 0 ≡ 2 → (depth : ℕ) (x : Expr) → StandsExpr nums ends depth at x
      → x ≡ read_of at (local (get_or nums (at + 1) 0))
  unfolding ExprView
  local-read k depth x h =
      let v : PlaceView nums ends depth at x 2 = rw k at (expr-view h) in
      v.same ∙ rw (local-place nums at v.place v.tag_is v.stands)

  parameter-read : get_or nums at 0 ≡ 3 → (depth : ℕ) (x : Expr) → StandsExpr nums ends depth at x
      → x ≡ read_of at (parameter (get_or nums (at + 1) 0))
  unfolding ExprView
  parameter-read k depth x h =
      let v : PlaceView nums ends depth at x 3 = rw k at (expr-view h) in
      v.same ∙ rw (parameter-place nums at v.place v.tag_is v.stands)

  global-read : get_or nums at 0 ≡ 4 → (depth : ℕ) (x : Expr) → StandsExpr nums ends depth at x
      → x ≡ read_of at (global (get_or nums (at + 1) 0))
  unfolding ExprView
  global-read k depth x h =
      let v : PlaceView nums ends depth at x 4 = rw k at (expr-view h) in
      v.same ∙ rw (global-place nums at v.place v.tag_is v.stands)

  field-read : get_or nums at 0 ≡ 5 → (depth : ℕ) (x : Expr) → StandsExpr nums ends depth at x
      → x ≡ read_of at (field (get_or nums (at + 1) 0) (get_or nums (at + 2) 0))
  unfolding ExprView
  field-read k depth x h =
      let v : PlaceView nums ends depth at x 5 = rw k at (expr-view h) in
      v.same ∙ rw (field-place nums at v.place v.tag_is v.stands)

-- by the tag: what is asked, and what is judged
module _ (nums directory ends : List ℕ) (scope : coded.Scope) (at : ℕ) where
  module _ (asks : AsksLeaf nums directory ends scope at) where
    abbrev view : ExprView nums ends asks.depth at asks.asks.expr (get_or nums at 0)
    view = expr-view asks.asks.stands

    named_by : at + 1 < length nums → AsksName nums directory ends scope at
    named_by h = record { scope_of = asks.asks.scope_of; seen = asks.asks.seen; inside = h }

    slot-by : at + 1 < length nums → AsksSlot nums scope at
    slot-by h = record { directory = directory; ends = ends; asks = named_by h }

    pub leaf-inside : at < length nums
    leaf-inside = (expr-begins asks.asks.stands).inside

    pub leaf-next : at + 1 < most_bytes + 2
    leaf-next = omega (arith, leaf-inside)

    pub leaf-second : at + 2 < most_bytes + 2
    leaf-second = omega (arith, leaf-inside)

    pub bool-inside : get_or nums at 0 ≡ 0 → at + 1 < length nums
    unfolding ExprView
    bool-inside k =
        let v : BoolView nums ends asks.depth at asks.asks.expr = rw k at view in
        v.holds.inside

    bits-of-view : get_or nums at 0 ≡ 1 → BitsView nums ends asks.depth at asks.asks.expr
    unfolding ExprView
    bits-of-view k = rw k at view

    pub width-inside : get_or nums at 0 ≡ 1 → at + 1 < length nums
    width-inside k = (bits-of-view k).width_holds.holds.inside

    pub literal-inside : get_or nums at 0 ≡ 1 → at + 2 < length nums
    literal-inside k = (bits-of-view k).holds.inside

    pub width_is : get_or nums at 0 ≡ 1 → IsWidth (get_or nums (at + 1) 0)
    width_is k =
        let v : BitsView nums ends asks.depth at asks.asks.expr = bits-of-view k in
        rw v.width_holds.holds.is (record { least = v.width_holds.at_least; most = v.width_holds.at_most })

    pub local-asks : get_or nums at 0 ≡ 2 → AsksSlot nums scope at
    unfolding ExprView
    local-asks k =
        let v : PlaceView nums ends asks.depth at asks.asks.expr 2 = rw k at view in
        slot-by (place_inside nums at v.place v.stands)

    pub parameter-asks : get_or nums at 0 ≡ 3 → AsksSlot nums scope at
    unfolding ExprView
    parameter-asks k =
        let v : PlaceView nums ends asks.depth at asks.asks.expr 3 = rw k at view in
        slot-by (place_inside nums at v.place v.stands)

    pub variable-asks : get_or nums at 0 ≡ 4 → AsksName nums directory ends scope at
    unfolding ExprView
    variable-asks k =
        let v : PlaceView nums ends asks.depth at asks.asks.expr 4 = rw k at view in
        named_by (place_inside nums at v.place v.stands)

    pub field-names : get_or nums at 0 ≡ 5 → AsksFieldName nums directory ends scope at
    unfolding ExprView
    field-names k =
        let v : PlaceView nums ends asks.depth at asks.asks.expr 5 = rw k at view in
        record {
          name = named_by (place_inside nums at v.place v.stands);
          inside = field-inside nums at v.place v.tag_is v.stands;
        }

    module _ (a : get_or nums at 0 ≡ 0 → ⊥) (b : get_or nums at 0 ≡ 1 → ⊥) (c : get_or nums at 0 ≡ 2 → ⊥)
        (d : get_or nums at 0 ≡ 3 → ⊥) (e : get_or nums at 0 ≡ 4 → ⊥) (f : get_or nums at 0 ≡ 5 → ⊥) where
      is-valid : get_or nums at 0 ≡ 6
      is-valid =
          let low : 3 ≤ get_or nums at 0 = omega arith in
          omega (arith, asks.leaf)

      pub valid-asks : AsksName nums directory ends scope at
      unfolding ExprView
      valid-asks =
          let v : ValidView nums ends asks.depth at asks.asks.expr = rw is-valid at view in
          named_by v.holds.inside

      pub valid-leaf : (r : Typed) → TypedIn nums directory ends scope (header_ty nums at) r
          → JudgesLeaf nums directory ends scope at r
      unfolding ExprView header_ty judge_expr
      valid-leaf r q = record {
        judges = λ depth. record {
          judged = λ Γ x s h.
              let v : ValidView nums ends depth at x = rw is-valid at (expr-view h) in
              rw (v.same, ← v.holds.is) (q.judged Γ s);
          most = q.most;
        };
      }

  module _ (r : Typed) where
    pub bool-leaf : get_or nums at 0 ≡ 0 → Tells r (bool_ty at (get_or nums (at + 1) 0))
        → JudgesLeaf nums directory ends scope at r
    unfolding ExprView bool_ty judge_expr
    bool-leaf k q = record {
      judges = λ depth. record {
        judged = λ Γ x s h.
            let v : BoolView nums ends depth at x = rw k at (expr-view h) in
            rw (v.same, ← v.holds.is) q.judged;
        most = q.most;
      };
    }

    pub bits-leaf : get_or nums at 0 ≡ 1 → Tells r (bits_ty at (get_or nums (at + 1) 0) (get_or nums (at + 2) 0))
        → JudgesLeaf nums directory ends scope at r
    unfolding ExprView bits_ty judge_expr
    bits-leaf k q = record {
      judges = λ depth. record {
        judged = λ Γ x s h.
            let v : BitsView nums ends depth at x = rw k at (expr-view h) in
            rw (v.same, ← v.width_holds.holds.is, ← v.holds.is) q.judged;
        most = q.most;
      };
    }

    place-leaf : (p : Place) → ((depth : ℕ) (x : Expr) → StandsExpr nums ends depth at x → x ≡ read_of at p)
        → TypedIn nums directory ends scope (λ Γ. judge_place Γ at p) r → JudgesLeaf nums directory ends scope at r
    unfolding judge_expr
    place-leaf p is q = record {
      judges = λ depth. record {
        judged = λ Γ x s h. rw (is depth x h) (q.judged Γ s);
        most = q.most;
      };
    }

    pub local-leaf : get_or nums at 0 ≡ 2 → SlotTyped nums scope (local_ty nums at) r
        → JudgesLeaf nums directory ends scope at r
    unfolding local_ty
    local-leaf k q = place-leaf _ (local-read nums ends at k) (q.typed directory ends)

    pub parameter-leaf : get_or nums at 0 ≡ 3 → SlotTyped nums scope (parameter_ty nums at) r
        → JudgesLeaf nums directory ends scope at r
    unfolding parameter_ty
    parameter-leaf k q = place-leaf _ (parameter-read nums ends at k) (q.typed directory ends)

    pub variable-leaf : get_or nums at 0 ≡ 4 → TypedIn nums directory ends scope (variable_ty nums at) r
        → JudgesLeaf nums directory ends scope at r
    unfolding variable_ty
    variable-leaf k q = place-leaf _ (global-read nums ends at k) q

    pub field-leaf : get_or nums at 0 ≡ 5 → TypedIn nums directory ends scope (field_ty nums at) r
        → JudgesLeaf nums directory ends scope at r
    unfolding field_ty
    field-leaf k q = place-leaf _ (field-read nums ends at k) q

pub ruleset leaves = (
  leaf-inside,
  leaf-next,
  leaf-second,
  bool-inside,
  width-inside,
  literal-inside,
  width_is,
  local-asks,
  parameter-asks,
  variable-asks,
  field-names,
  valid-asks,
  bool-leaf,
  bits-leaf,
  local-leaf,
  parameter-leaf,
  variable-leaf,
  field-leaf,
  valid-leaf,
)

-- whether it may be written
no_place : {nums ends : List ℕ} {depth at : ℕ} {e : Expr} → StandsExpr nums ends depth at e
    → (get_or nums at 0 ≡ 2 → ⊥) → (get_or nums at 0 ≡ 3 → ⊥) → (get_or nums at 0 ≡ 4 → ⊥) → (get_or nums at 0 ≡ 5 → ⊥)
    → place_in e ≡ none
unfolding place_in place_tag
no_place (on_bool t n) a b c d = refl
no_place (on-bits t w n) a b c d = refl
no_place (on-place {p = local i} t s) a b c d = absurd (a t.holds.is)
no_place (on-place {p = parameter i} t s) a b c d = absurd (b t.holds.is)
no_place (on-place {p = global g} t s) a b c d = absurd (c t.holds.is)
no_place (on-place {p = field g f} t s) a b c d = absurd (d t.holds.is)
no_place (on-valid t g) a b c d = refl
no_place (on-not t x) a b c d = refl
no_place (on-complement t x) a b c d = refl
no_place (on-binary t o x y) a b c d = refl
no_place (on-cast t w x) a b c d = refl
no_place (on-slice t h l x) a b c d = refl
no_place (on-concatenation t x y) a b c d = refl
no_place (on_call t f n xs) a b c d = refl

module _ (nums : List ℕ) (scope : coded.Scope) (at : ℕ) where
  pub writable-inside : AsksWritable nums scope at → at < length nums
  writable-inside asks = (expr-begins asks.asks.stands).inside

  pub writable-slot : AsksWritable nums scope at → get_or nums at 0 ≡ 3 → AsksSlot nums scope at
  unfolding ExprView
  writable-slot asks k =
      let v : PlaceView nums asks.ends asks.depth at asks.asks.expr 3 = rw k at (expr-view
      asks.asks.stands) in
      record {
        directory = asks.directory;
        ends = asks.ends;
        asks = record {
          scope_of = asks.asks.scope_of;
          seen = asks.asks.seen;
          inside = place_inside nums at v.place v.stands;
        };
      }

  pub local-writable : get_or nums at 0 ≡ 2 → IsWritable nums scope at true
  unfolding writable_in writable place_in
  local-writable k = record { told = λ directory ends depth Γ e s h. rw (local-read nums ends at k depth e h) }

  pub global-writable : get_or nums at 0 ≡ 4 → IsWritable nums scope at true
  unfolding writable_in writable place_in
  global-writable k = record { told = λ directory ends depth Γ e s h. rw (global-read nums ends at k depth e h) }

  pub field-writable : get_or nums at 0 ≡ 5 → IsWritable nums scope at true
  unfolding writable_in writable place_in
  field-writable k = record { told = λ directory ends depth Γ e s h. rw (field-read nums ends at k depth e h) }

  pub parameter-writable : (r : Bool) → get_or nums at 0 ≡ 3 → IsWritableParameter nums scope at r
      → IsWritable nums scope at r
  unfolding writable_in place_in
  parameter-writable r k q = record {
    told = λ directory ends depth Γ e s h. rw (parameter-read nums ends at k depth e h) (q.told directory ends Γ s);
  }

  pub not-writable : (get_or nums at 0 ≡ 2 → ⊥) → (get_or nums at 0 ≡ 3 → ⊥) → (get_or nums at 0 ≡ 4 → ⊥)
      → (get_or nums at 0 ≡ 5 → ⊥) → IsWritable nums scope at false
  unfolding writable_in
  not-writable a b c d = record { told = λ directory ends depth Γ e s h. rw (no_place h a b c d) }

pub ruleset writables = (
  writable-inside,
  writable-slot,
  local-writable,
  parameter-writable,
  global-writable,
  field-writable,
  not-writable,
)
