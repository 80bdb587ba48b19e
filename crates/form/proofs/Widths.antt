-- Every type that is judged in a program that stands is one of a value: its width is at most the widest.
use Rattle.program.specs.declared.Scope as coded
use mathlib.Core.Option.{Option, none, some}
use mathlib.Core.Path.{◌≡◌}
use mathlib.Core.List.{List}
use Prim.Native.Nat.{ℕ, zero, suc, ◌+◌, ◌≤◌}
use native.Mathlib.Omega.{arith}
use lib.ListN.{get_or, get_elem?}
use lib.Dec.{ltb}
use borrow.Author.Tests.{leb-true}
use Rattle.rules.specs.Words.{widest, slice_fits, slice_width, join_fits}
use Rattle.rules.specs.Syntax.{Ty, bool, bits, GlobalTy, variable, header, Operator, arithmetic, order, shift, equality, logic, Place, local, parameter, global, field, Expr, Program}
use Rattle.rules.specs.Form.{Res, ok, fault, named, need, Shape, a_variable, a_header, shape_in, global_at, callable_below, Scope, judge_variable, judge_field, judge_global, judge_place, judge_header_at, width_at, need_ty, judge_operator, judge_given, function_ty, may_call, judge_expr, judge_args}
use Rattle.rules.specs.Lists.{width_of}
use Rattle.rules.proofs.Predicates.{IfOk, is_ok, is_fault, IfSome, if_none, if_some, ok-then, ok-self, ok-found, ok-need, from-ok, if-then, if-only, if-map, if-self}
use Rattle.program.specs.Codes.{ty_of}
use Rattle.program.specs.Stands.{HoldsTy, StandsExpr, on_bool, on-bits, on-place, on-valid, on-not, on-complement, on-binary, on-cast, on-slice, on-concatenation, on_call, HoldsGlobalTy, HoldsReturns, StandsProgram}
use Rattle.program.specs.Scopes.{StandsScope}
use Rattle.program.proofs.Members.{parameter-at, type_at, width-at}

unfoldable pub WidthMost : Ty → Type 0
WidthMost bool = Unit
WidthMost (bits width) = width ≤ widest

number-most : (n : ℕ) → n ≤ widest → WidthMost (ty_of n)
unfolding WidthMost ty_of
number-most zero m = tt
number-most (suc n) m = m

is-bool : IfOk WidthMost (ok bool)
unfolding WidthMost
is-bool = is_ok tt

is-bits : (width : ℕ) → width ≤ widest → IfOk WidthMost (ok (bits width))
unfolding WidthMost
is-bits width m = is_ok m

held-most : (nums : List ℕ) (at : ℕ) (t : Ty) → HoldsTy nums at t → WidthMost t
held-most nums at t h = rw (← h.is) (number-most (get_or nums at 0) h.most)

-- globals
unfoldable ShapeMost : Shape → Type 0
ShapeMost (a_variable t) = WidthMost t
ShapeMost (a_header widths) = (i width : ℕ) → get_elem? widths i ≡ some width → width ≤ widest

named_ok : {A : Type 0} {P : A → Type 0} {o : Option A} (at : ℕ) → IfSome P o → IfOk P (named at o)
unfolding named
named_ok at if_none = is_fault
named_ok at (if_some p) = is_ok p

module _ (nums directory ends : List ℕ) (P : Program) (end : ℕ) (s : StandsProgram nums directory ends P end) where
  typed-most : (at : ℕ) (x : GlobalTy) → HoldsGlobalTy nums at x → IfSome ShapeMost (shape_in P x)
  unfolding ShapeMost HoldsGlobalTy shape_in
  typed-most at (variable t) h = if_some (held-most nums at t h)
  typed-most at (header n) h = if-then (if-self (get_elem? P.headers n)) λ ty e. if_some λ i width q.
      (width-at nums _ ty.widths (s.headers.member n ty e).widths i width q).at_most

  shape-most : (g : ℕ) → IfSome ShapeMost (global_at P g)
  unfolding global_at
  shape-most g = if-then (if-self (get_elem? P.globals g)) λ x e. typed-most _ x.ty (s.globals.member g x e).ty

  returns-most : (at : ℕ) (x : Option Ty) (i : ℕ) → HoldsReturns nums i x → IfOk WidthMost (function_ty at x)
  unfolding HoldsReturns function_ty
  returns-most at none i h = is_fault
  returns-most at (some t) i h = is_ok (held-most nums i t h)

-- places
variable-most : (at : ℕ) (x : Shape) → ShapeMost x → IfOk WidthMost (judge_variable at x)
unfolding ShapeMost judge_variable
variable-most at (a_variable t) m = is_ok m
variable-most at (a_header widths) m = is_fault

field-most : (at f : ℕ) (x : Shape) → ShapeMost x → IfOk WidthMost (judge_field at f x)
unfolding ShapeMost judge_field
field-most at f (a_variable t) m = is_fault
field-most at f (a_header widths) m =
    ok-then (ok-found (suc (suc at)) (get_elem? widths f)) λ width e. is-bits width (m f width e)

-- operators
width-most : (at : ℕ) (t : Ty) → WidthMost t → IfOk (λ width. width ≤ widest) (width_at at t)
unfolding WidthMost width_at
width-most at bool m = is_fault
width-most at (bits width) m = is_ok m

operator-most : (at : ℕ) (o : Operator) (t u : Ty) → WidthMost t → IfOk WidthMost (judge_operator at o t u)
unfolding judge_operator
operator-most at (arithmetic o) t u m =
    ok-then (width-most at t m) λ width w. ok-then (ok-self (need_ty at t u)) λ _ _. is-bits width w
operator-most at (order o) t u m =
    ok-then (ok-self (width_at at t)) λ _ _. ok-then (ok-self (need_ty at t u)) λ _ _. is-bool
operator-most at (shift o) t u m =
    ok-then (width-most at t m) λ width w. ok-then (ok-self (width_at at u)) λ _ _. is-bits width w
operator-most at (equality o) t u m = ok-then (ok-self (need_ty at t u)) λ _ _. is-bool
operator-most at (logic o) t u m =
    ok-then (ok-self (need_ty at bool t)) λ _ _. ok-then (ok-self (need_ty at bool u)) λ _ _. is-bool

-- expressions
module _ (nums directory ends : List ℕ) (scope : coded.Scope) (Γ : Scope) (z : StandsScope nums directory ends scope Γ) where
  global-most : (at g : ℕ) (asked : Shape → Res Ty) → ((x : Shape) → ShapeMost x → IfOk WidthMost (asked x))
      → IfOk WidthMost (judge_global Γ at g asked)
  unfolding judge_global
  global-most at g asked h =
      ok-then (named_ok (suc at) (shape-most nums directory ends Γ.program z.end z.program g)) λ x m.
      ok-then (h x m) λ t w. ok-then (ok-need 8 at _) λ _ _. is_ok w

  place-most : (at : ℕ) (p : Place) → IfOk WidthMost (judge_place Γ at p)
  unfolding judge_place
  place-most at (local i) = named_ok (suc at) (if-map (if-self (get_elem? Γ.locals i)) λ t e.
      held-most nums _ t (type_at nums (scope.locals) Γ.locals z.locals i t e))
  place-most at (parameter i) = ok-then (ok-found (suc at) (get_elem? Γ.parameters i)) λ p e.
      is_ok (held-most nums _ p.ty (parameter-at nums (scope.parameters) Γ.parameters z.parameters i p e).ty)
  place-most at (global g) = global-most at g (judge_variable at) (variable-most at)
  place-most at (field g f) = global-most at g (judge_field at f) (field-most at f)

  pub expr-most : {depth at : ℕ} {e : Expr} → StandsExpr nums ends depth at e → IfOk WidthMost (judge_expr Γ e)
  unfolding judge_expr slice_width join_fits callable_below
  expr-most {at = at} (on_bool t n) = ok-then (ok-self (need 7 at _)) λ _ _. is-bool
  expr-most {at = at} (on-bits t w n) = ok-then (ok-self (need 7 at _)) λ _ _. is-bits _ w.at_most
  expr-most (on-place t p) = place-most _ _
  expr-most {at = at} (on-valid t g) = ok-then (ok-self (judge_header_at Γ at _)) λ _ _. is-bool
  expr-most {at = at} (on-not t a) = ok-then (expr-most a) λ u _. ok-then (ok-self (need_ty at bool u)) λ _ _. is-bool
  expr-most {at = at} (on-complement t a) =
      ok-then (expr-most a) λ u m. ok-then (width-most at u m) λ width w. is-bits width w
  expr-most {at = at} (on-binary {o = o} t n a b) =
      ok-then (expr-most a) λ u m. ok-then (expr-most b) λ v _. operator-most at o u v m
  expr-most {at = at} (on-cast t w a) =
      ok-then (expr-most a) λ u _. ok-then (ok-self (width_at at u)) λ _ _. is-bits _ w.at_most
  expr-most {at = at} (on-slice {high = high} {low = low} t h l a) =
      let few : slice_width high low ≤ widest = omega (arith, h.at_most) in
      ok-then (expr-most a) λ u _. ok-then (ok-self (width_at at u)) λ width _.
      ok-then (ok-self (need 7 at (slice_fits high low width))) λ _ _. is-bits (slice_width high low) few
  expr-most {at = at} (on-concatenation t a b) =
      ok-then (expr-most a) λ u _. ok-then (expr-most b) λ v _. ok-then (ok-self (width_at at u)) λ front _.
      ok-then (ok-self (width_at at v)) λ width _. ok-then (ok-need 7 at (join_fits front width)) λ _ e.
      is-bits (front + width) (leb-true (front + width) widest e)
  expr-most {at = at} (on_call {f = f} {xs = xs} t g n args) =
      ok-then (named_ok (suc at) (if-only (ltb f Γ.reach) (if-self (get_elem? Γ.program.callables f)))) λ c e.
      ok-then (ok-self (judge_args Γ xs)) λ given _. ok-then (ok-self (judge_given at c.parameters given)) λ _ _.
      ok-then (ok-self (need 8 at (may_call Γ.body c.returns))) λ _ _.
      returns-most nums directory ends Γ.program z.end z.program at c.returns _
      (z.program.callables.member f c e).returns

-- what a key is as wide as
pub width-of-most : (r : Res Ty) → IfOk WidthMost r → width_of r ≤ widest
unfolding width_of WidthMost
width-of-most (ok bool) h = omega arith
width-of-most (ok (bits width)) h = from-ok h
width-of-most (fault number at) h = omega arith
