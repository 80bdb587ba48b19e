-- Expressions with operands: where the operands of an expression stand, and that its judgement is theirs and its own.
use Rattle.program.specs.declared.Scope as coded
use mathlib.Core.Bool.{Bool, true, false}
use mathlib.Core.Path.{◌≡◌, refl, sym, ◌∙◌}
use mathlib.Core.List.{List}
use Prim.Native.Nat.{ℕ, ◌+◌, ◌-◌, ◌≤◌, ◌<◌}
use native.Mathlib.Omega.{arith}
use lib.ListN.{length, get_or}
use Rattle.std.specs.Prelude.{Ok, Err}
use Rattle.rules.specs.declared.Fault.{Fault}
use Rattle.rules.specs.Answers.{number_of}
use Rattle.rules.specs.Words.{widest}
use Rattle.rules.specs.Syntax.{Place, local, parameter, global, field, Expr}
use Rattle.rules.specs.Form.{ok, fault, ◌>>=◌, Scope, judge_expr}
use Rattle.program.specs.Codes.{ty_of, place_tag}
use Rattle.program.specs.Stands.{Holds, StandsExpr, on_bool, on-bits, on-place, on-valid, on-not, on-complement, on-binary, on-cast, on-slice, on-concatenation, on_call}
use Rattle.program.specs.Scopes.{StandsScope}
use Rattle.program.proofs.Views.{ExprView, CastView, expr-view, expr-begins}
use Rattle.bodies.specs.Claims.{Typed, told_ty, TyMost, AsksExpr, JudgesExpr}
use Rattle.bodies.specs.Leaves.{not_ty, complement_ty, cast_ty, slice_ty, IsWidth, SliceIn, AsksOne, OneTyped, join_ty, AsksTwo, TwoTyped, takes_two, lead_by, lead_length, OperandsAt, AsksOperands, Inside}

module _ (nums ends : List ℕ) (depth at first : ℕ) (e : Expr) where
  record OneOf : Type 0 where
    operand : Expr
    stands : StandsExpr nums ends (depth - 1) first operand
    judged : (Γ : Scope) (t : ℕ) (r : Typed) → OneTyped nums at t r → judge_expr Γ operand ≡ ok (ty_of t)
        → told_ty r ≡ judge_expr Γ e
    faulty : (Γ : Scope) (number index : ℕ) → judge_expr Γ operand ≡ fault number index
        → fault number index ≡ judge_expr Γ e

  record TwoOf : Type 0 where
    left : Expr
    right : Expr
    inside : at + 1 < length nums
    left_stands : StandsExpr nums ends (depth - 1) first left
    right_stands : StandsExpr nums ends (depth - 1) (get_or ends first 0) right
    judged : (Γ : Scope) (t u : ℕ) (r : Typed) → TwoTyped nums at t u r → judge_expr Γ left ≡ ok (ty_of t)
        → judge_expr Γ right ≡ ok (ty_of u) → told_ty r ≡ judge_expr Γ e
    left_faulty : (Γ : Scope) (number index : ℕ) → judge_expr Γ left ≡ fault number index
        → fault number index ≡ judge_expr Γ e
    right_faulty : (Γ : Scope) (t number index : ℕ) → judge_expr Γ left ≡ ok (ty_of t)
        → judge_expr Γ right ≡ fault number index → fault number index ≡ judge_expr Γ e

  unfoldable OperandsOf : Bool → Type 0
  OperandsOf true = TwoOf
  OperandsOf false = OneOf

true-false : {A : Type 0} → true ≡ false → A
true-false e = let z : ◌≡◌ {A = ℕ} 0 1 = cc in absurd (omega arith)

pub place-low : (p : Place) → place_tag p ≤ 5
unfolding place_tag
place-low (local i) = omega arith
place-low (parameter i) = omega arith
place-low (global g) = omega arith
place-low (field g f) = omega arith

operands-of : {nums ends : List ℕ} {depth at : ℕ} {e : Expr} {first : ℕ} {two : Bool} → StandsExpr nums ends depth at e
    → 7 ≤ get_or nums at 0 → (get_or nums at 0 ≡ 13 → ⊥) → OperandsAt nums at first two
    → OperandsOf nums ends depth at first e two
unfolding OperandsOf takes_two lead_length lead_by judge_expr ◌>>=◌ not_ty complement_ty cast_ty slice_ty join_ty
operands-of (on_bool t n) low x o = absurd (omega (arith, t.holds.is))
operands-of (on-bits t w n) low x o = absurd (omega (arith, t.holds.is))
operands-of (on-place {p = p} t s) low x o = absurd (omega (arith, t.holds.is, place-low p))
operands-of (on-valid t g) low x o = absurd (omega (arith, t.holds.is))
operands-of (on-not t a) low x o = rw (o.two_is, o.first_is, t.holds.is) (record {
  operand = _;
  stands = a;
  judged = λ Γ u r q k. rw k (q.negation t.holds.is);
  faulty = λ Γ number index k. rw k;
})
operands-of (on-complement t a) low x o = rw (o.two_is, o.first_is, t.holds.is) (record {
  operand = _;
  stands = a;
  judged = λ Γ u r q k. rw k (q.complement t.holds.is);
  faulty = λ Γ number index k. rw k;
})
operands-of (on-binary {o = operator} t n a b) low x o = rw (o.two_is, o.first_is, t.holds.is) (record {
  left = _;
  right = _;
  inside = n.inside;
  left_stands = a;
  right_stands = b;
  judged = λ Γ u v r q k l. rw (k, l) (q.binary t.holds.is operator (sym n.is));
  left_faulty = λ Γ number index k. rw k;
  right_faulty = λ Γ u number index k l. rw (k, l);
})
operands-of (on-cast t w a) low x o = rw (o.two_is, o.first_is, t.holds.is) (record {
  operand = _;
  stands = a;
  judged = λ Γ u r q k. rw (k, ← w.holds.is) (q.cast t.holds.is);
  faulty = λ Γ number index k. rw k;
})
operands-of (on-slice t h l a) low x o = rw (o.two_is, o.first_is, t.holds.is) (record {
  operand = _;
  stands = a;
  judged = λ Γ u r q k. rw (k, ← h.holds.is, ← l.holds.is) (q.slice t.holds.is);
  faulty = λ Γ number index k. rw k;
})
operands-of (on-concatenation t a b) low x o = rw (o.two_is, o.first_is, t.holds.is) (record {
  left = _;
  right = _;
  inside = (expr-begins a).inside;
  left_stands = a;
  right_stands = b;
  judged = λ Γ u v r q k l. rw (k, l) (q.join t.holds.is);
  left_faulty = λ Γ number index k. rw k;
  right_faulty = λ Γ u number index k l. rw (k, l);
})
operands-of (on_call t f n xs) low x o = absurd (x t.holds.is)

-- the numbers that a cast and a slice hold
cast-in : {nums ends : List ℕ} {depth at : ℕ} {e : Expr} → StandsExpr nums ends depth at e → get_or nums at 0 ≡ 10
    → Holds nums (at + 1) (get_or nums (at + 1) 0) × IsWidth (get_or nums (at + 1) 0)
unfolding ExprView
cast-in {nums} {ends} {depth} {at} {e} h k =
    let v : CastView nums ends depth at e = rw k at (expr-view h) in (
      record { inside = v.holds.holds.inside; is = refl },
      rw v.holds.holds.is (record { least = v.holds.at_least; most = v.holds.at_most }),
    )

slice_in : {nums ends : List ℕ} {depth at : ℕ} {e : Expr} → StandsExpr nums ends depth at e → 7 ≤ get_or nums at 0
    → (get_or nums at 0 ≡ 13 → ⊥) → takes_two (get_or nums at 0) ≡ false → (get_or nums at 0 ≡ 7 → ⊥)
    → (get_or nums at 0 ≡ 8 → ⊥) → (get_or nums at 0 ≡ 10 → ⊥) → SliceIn nums at
unfolding takes_two
slice_in (on_bool t n) low x f a b c = absurd (omega (arith, t.holds.is))
slice_in (on-bits t w n) low x f a b c = absurd (omega (arith, t.holds.is))
slice_in (on-place {p = p} t s) low x f a b c = absurd (omega (arith, t.holds.is, place-low p))
slice_in (on-valid t g) low x f a b c = absurd (omega (arith, t.holds.is))
slice_in (on-not t e) low x f a b c = absurd (a t.holds.is)
slice_in (on-complement t e) low x f a b c = absurd (b t.holds.is)
slice_in (on-binary t n d e) low x f a b c = true-false (rw t.holds.is at f)
slice_in (on-cast t w e) low x f a b c = absurd (c t.holds.is)
slice_in (on-slice t h l e) low x f a b c =
    record { inside = l.holds.inside; bound = omega (arith, h.at_most, h.holds.is) }
slice_in (on-concatenation t d e) low x f a b c = true-false (rw t.holds.is at f)
slice_in (on_call t n m xs) low x f a b c = absurd (x t.holds.is)

-- what an answer says of the expression that it is about
module _ {nums directory ends : List ℕ} {scope : coded.Scope} {depth at : ℕ} where
  pub typed-is : {t : ℕ} → JudgesExpr nums directory ends scope depth at (Ok t) → (Γ : Scope) (e : Expr)
      → StandsScope nums directory ends scope Γ → StandsExpr nums ends depth at e → judge_expr Γ e ≡ ok (ty_of t)
  unfolding told_ty
  typed-is j Γ e s h = sym (j.judged Γ e s h)

  pub fault-is : {wrong : Fault} → JudgesExpr nums directory ends scope depth at (Err wrong) → (Γ : Scope) (e : Expr)
      → StandsScope nums directory ends scope Γ → StandsExpr nums ends depth at e
      → judge_expr Γ e ≡ fault (number_of wrong.reason) wrong.index
  unfolding told_ty
  fault-is j Γ e s h = sym (j.judged Γ e s h)

  pub typed-most : {t : ℕ} → JudgesExpr nums directory ends scope depth at (Ok t) → t ≤ widest
  unfolding TyMost
  typed-most j = j.most

-- by the tag: no operand, a call, others
module _ (nums directory ends : List ℕ) (scope : coded.Scope) (depth at : ℕ) where
  pub operands-asks : AsksExpr nums directory ends scope depth at → 7 ≤ get_or nums at 0 → (get_or nums at 0 ≡ 13 → ⊥)
      → AsksOperands nums directory ends scope depth at
  operands-asks asks low x = record { asks = asks; inner = low; no_call = x }

  pub operands-inside : AsksOperands nums directory ends scope depth at → Inside nums at
  operands-inside asks = record {
    numbers = asks.asks.seen.program.numbers;
    inside = (expr-begins asks.asks.stands).inside;
  }

  pub operands-deep : AsksOperands nums directory ends scope depth at → 0 < depth
  operands-deep asks = (expr-begins asks.asks.stands).levels

  module _ (asks : AsksOperands nums directory ends scope depth at) (first : ℕ) (two : Bool)
      (o : OperandsAt nums at first two) where
    own : (e : Expr) → StandsExpr nums ends depth at e → OperandsOf nums ends depth at first e two
    own e h = operands-of h asks.inner asks.no_call o

    own-two : two ≡ true → (e : Expr) → StandsExpr nums ends depth at e → TwoOf nums ends depth at first e
    unfolding OperandsOf
    own-two k e h = rw k at (own e h)

    own-one : two ≡ false → (e : Expr) → StandsExpr nums ends depth at e → OneOf nums ends depth at first e
    unfolding OperandsOf
    own-one k e h = rw k at (own e h)

    asked : (e : Expr) → StandsExpr nums ends (depth - 1) first e
        → AsksExpr nums directory ends scope (depth - 1) first
    asked e h = record { scope_of = asks.asks.scope_of; expr = e; seen = asks.asks.seen; stands = h }

    pub first-asks : AsksExpr nums directory ends scope (depth - 1) first
    first-asks = go two refl
      where
        go : (b : Bool) → two ≡ b → AsksExpr nums directory ends scope (depth - 1) first
        go true k =
            let q : TwoOf nums ends depth at first asks.asks.expr = own-two k asks.asks.expr
            asks.asks.stands in
            asked q.left q.left_stands
        go false k =
            let q : OneOf nums ends depth at first asks.asks.expr = own-one k asks.asks.expr
            asks.asks.stands in
            asked q.operand q.stands

    pub first_ends : first < length ends
    first_ends = omega (arith, expr-begins first-asks.stands, asks.asks.seen.program.room)

    pub second-asks : two ≡ true → AsksExpr nums directory ends scope (depth - 1) (get_or ends first 0)
    second-asks k =
        let q : TwoOf nums ends depth at first asks.asks.expr = own-two k asks.asks.expr
        asks.asks.stands in
        record { scope_of = asks.asks.scope_of; expr = q.right; seen = asks.asks.seen; stands = q.right_stands }

    pub first-fault : (wrong : Fault) → JudgesExpr nums directory ends scope (depth - 1) first (Err wrong)
        → JudgesExpr nums directory ends scope depth at (Err wrong)
    unfolding told_ty TyMost
    first-fault wrong j = record { judged = λ Γ e s h. go two refl Γ e s h; most = tt }
      where
        go : (b : Bool) → two ≡ b → (Γ : Scope) (e : Expr) → StandsScope nums directory ends scope Γ
            → StandsExpr nums ends depth at e → fault (number_of wrong.reason) wrong.index ≡ judge_expr Γ e
        go true f Γ e s h =
            let q : TwoOf nums ends depth at first e = own-two f e h in
            q.left_faulty Γ _ _ (fault-is j Γ q.left s q.left_stands)
        go false f Γ e s h =
            let q : OneOf nums ends depth at first e = own-one f e h in
            q.faulty Γ _ _ (fault-is j Γ q.operand s q.stands)

    module _ (t : ℕ) (j : JudgesExpr nums directory ends scope (depth - 1) first (Ok t)) where
      module _ (f : two ≡ false) where
        pub one-asks : AsksOne nums at t
        one-asks = record {
          numbers = asks.asks.seen.program.numbers;
          inside = (expr-begins asks.asks.stands).inside;
          most = typed-most j;
          cast = cast-in asks.asks.stands;
          slice = slice_in asks.asks.stands asks.inner asks.no_call (sym o.two_is ∙ f);
        }

        pub one_told : (r : Typed) → OneTyped nums at t r → JudgesExpr nums directory ends scope depth at r
        one_told r q = record {
          judged = λ Γ e s h.
              let p : OneOf nums ends depth at first e = own-one f e h in
              p.judged Γ t r q (typed-is j Γ p.operand s p.stands);
          most = q.most;
        }

      module _ (f : two ≡ true) where
        pub second-fault : (wrong : Fault)
            → JudgesExpr nums directory ends scope (depth - 1) (get_or ends first 0) (Err wrong)
            → JudgesExpr nums directory ends scope depth at (Err wrong)
        unfolding told_ty TyMost
        second-fault wrong l = record {
          judged = λ Γ e s h.
              let p : TwoOf nums ends depth at first e = own-two f e h in
              p.right_faulty Γ t _ _ (typed-is j Γ p.left s p.left_stands) (fault-is l Γ p.right s p.right_stands);
          most = tt;
        }

        module _ (u : ℕ) (l : JudgesExpr nums directory ends scope (depth - 1) (get_or ends first 0) (Ok u)) where
          pub two-asks : AsksTwo nums at t u
          two-asks = record {
            numbers = asks.asks.seen.program.numbers;
            inside = (own-two f asks.asks.expr asks.asks.stands).inside;
            most = record { left = typed-most j; right = typed-most l };
          }

          pub two-told : (r : Typed) → TwoTyped nums at t u r → JudgesExpr nums directory ends scope depth at r
          two-told r q = record {
            judged = λ Γ e s h.
                let p : TwoOf nums ends depth at first e = own-two f e h in
                p.judged Γ t u r q (typed-is j Γ p.left s p.left_stands) (typed-is l Γ p.right s p.right_stands);
            most = q.most;
          }

pub ruleset operating = (
  operands-asks,
  operands-inside,
  operands-deep,
  first-asks,
  first_ends,
  second-asks,
  first-fault,
  one-asks,
  one_told,
  second-fault,
  two-asks,
  two-told,
)
