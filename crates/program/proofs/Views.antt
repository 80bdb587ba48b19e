-- What stands at an index, by the tag that is there: from the number to the construct. A pass that has looked at a tag
-- learns here what the rules' tree is and where its operands stand.
use mathlib.Core.Path.{◌≡◌, refl}
use mathlib.Core.List.{List, [], ◌∷◌}
use Prim.Native.Nat.{ℕ, zero, suc, ◌+◌, ◌-◌, ◌<◌}
use native.Mathlib.Omega.{arith}
use lib.ListN.{length, get_or}
use Rattle.rules.specs.Words.{widest}
use Rattle.rules.specs.Syntax.{Operator, Place, local, parameter, global, field}
use Rattle.rules.specs.Syntax.{Expr, bool_literal, bits_literal, read_of, valid_of, negation, complement, binary, cast, slice, concatenation, call_expr, Args, no_args, arg}
use Rattle.rules.specs.Syntax.{Stmt, empty, assign, if_else, block, call_stmt, apply, return_value, return, exit, set_valid, set_invalid, extract, verify, Stmts, no_stmts, stmt}
use Rattle.rules.specs.Syntax.{Numeral, Pair, Transition, lead_to, select}
use Rattle.rules.specs.Reading.{deepest, most_error, highest_bound, most_arguments, most_members, most_pairs}
use Rattle.program.specs.Codes.{operator_number, place_tag, arg_count, member_count}
use Rattle.program.specs.Stands.{Holds, HoldsWithin, HoldsTag, StandsPlace}
use Rattle.program.specs.Stands.{StandsExpr, on_bool, on-bits, on-place, on-valid, on-not, on-complement, on-binary, on-cast, on-slice, on-concatenation, on_call}
use Rattle.program.specs.Stands.{StandsArgs, on_none, on-arg}
use Rattle.program.specs.Stands.{StandsStmt, on-empty, on-assign, on-if, on-block, on-call-stmt, on-apply, on-return-value, on_return, on-exit, on-set-valid, on-set-invalid, on-extract, on-verify}
use Rattle.program.specs.Stands.{StandsStmts, on-no-member, on-member}
use Rattle.program.specs.Stands.{StandsNumeral, StandsPairs, StandsTransition, on-no-transition, on-accept, on-reject, on-lead-to, on-select}

-- expressions, one record for each form
module _ (nums ends : List ℕ) (depth at : ℕ) (e : Expr) where
  pub record BoolView : Type 0 where
    pub literal : ℕ
    pub same : e ≡ bool_literal at literal
    pub holds : Holds nums (at + 1) literal

  pub record BitsView : Type 0 where
    pub width : ℕ
    pub literal : ℕ
    pub same : e ≡ bits_literal at width literal
    pub width_holds : HoldsWithin 1 widest nums (at + 1) width
    pub holds : Holds nums (at + 2) literal

  -- tags 2 to 5
  pub record PlaceView (tag : ℕ) : Type 0 where
    pub place : Place
    pub same : e ≡ read_of at place
    pub tag_is : place_tag place ≡ tag
    pub stands : StandsPlace nums at place

  pub record ValidView : Type 0 where
    pub number : ℕ
    pub same : e ≡ valid_of at number
    pub holds : Holds nums (at + 1) number

  pub record OneView (make : Expr → Expr) (first : ℕ) : Type 0 where
    pub operand : Expr
    pub same : e ≡ make operand
    pub stands : StandsExpr nums ends (depth - 1) first operand

  pub record TwoView (make : Expr → Expr → Expr) (first : ℕ) : Type 0 where
    pub left : Expr
    pub right : Expr
    pub same : e ≡ make left right
    pub left_stands : StandsExpr nums ends (depth - 1) first left
    pub right_stands : StandsExpr nums ends (depth - 1) (get_or ends first 0) right

  pub record BinaryView : Type 0 where
    pub operator : Operator
    pub holds : Holds nums (at + 1) (operator_number operator)
    pub operands : TwoView (binary at operator) (at + 2)

  pub record CastView : Type 0 where
    pub width : ℕ
    pub holds : HoldsWithin 1 widest nums (at + 1) width
    pub operand : OneView (cast at width) (at + 2)

  pub record SliceView : Type 0 where
    pub high : ℕ
    pub low : ℕ
    pub high_holds : HoldsWithin 0 highest_bound nums (at + 1) high
    pub low_holds : HoldsWithin 0 highest_bound nums (at + 2) low
    pub operand : OneView (slice at high low) (at + 3)

  pub record CallView : Type 0 where
    pub callable : ℕ
    pub arguments : Args
    pub same : e ≡ call_expr at callable arguments
    pub holds : Holds nums (at + 1) callable
    pub count : HoldsWithin 0 most_arguments nums (at + 2) (arg_count arguments)
    pub stand : StandsArgs nums ends (depth - 1) (at + 3) arguments

  -- by tag; no expression has another
  unfoldable pub ExprView : ℕ → Type 0
  ExprView zero = BoolView
  ExprView (suc zero) = BitsView
  ExprView (suc (suc zero)) = PlaceView 2
  ExprView (suc (suc (suc zero))) = PlaceView 3
  ExprView (suc (suc (suc (suc zero)))) = PlaceView 4
  ExprView (suc (suc (suc (suc (suc zero))))) = PlaceView 5
  ExprView (suc (suc (suc (suc (suc (suc zero)))))) = ValidView
  ExprView (suc (suc (suc (suc (suc (suc (suc zero))))))) = OneView (negation at) (at + 1)
  ExprView (suc (suc (suc (suc (suc (suc (suc (suc zero)))))))) = OneView (complement at) (at + 1)
  ExprView (suc (suc (suc (suc (suc (suc (suc (suc (suc zero))))))))) = BinaryView
  ExprView (suc (suc (suc (suc (suc (suc (suc (suc (suc (suc zero)))))))))) = CastView
  ExprView (suc (suc (suc (suc (suc (suc (suc (suc (suc (suc (suc zero))))))))))) = SliceView
  ExprView (suc (suc (suc (suc (suc (suc (suc (suc (suc (suc (suc (suc zero)))))))))))) = TwoView (concatenation at)
      (at + 1)
  ExprView (suc (suc (suc (suc (suc (suc (suc (suc (suc (suc (suc (suc (suc zero))))))))))))) = CallView
  ExprView (suc (suc (suc (suc (suc (suc (suc (suc (suc (suc (suc (suc (suc (suc n)))))))))))))) = ⊥

pub expr-view : {nums ends : List ℕ} {depth at : ℕ} {e : Expr} → StandsExpr nums ends depth at e
    → ExprView nums ends depth at e (get_or nums at 0)
unfolding ExprView place_tag
expr-view {nums} {ends} {depth} {at} {e} h = go h
  where
    place : (p : Place) → StandsPlace nums at p → ExprView nums ends depth at (read_of at p) (place_tag p)
    place (local i) s = record { place = local i; same = refl; tag_is = refl; stands = s }
    place (parameter i) s = record { place = parameter i; same = refl; tag_is = refl; stands = s }
    place (global g) s = record { place = global g; same = refl; tag_is = refl; stands = s }
    place (field g f) s = record { place = field g f; same = refl; tag_is = refl; stands = s }

    go : {e : Expr} → StandsExpr nums ends depth at e → ExprView nums ends depth at e (get_or nums at 0)
    go (on_bool t n) = rw t.holds.is (record { literal = _; same = refl; holds = n })
    go (on-bits t w n) = rw t.holds.is (record { width = _; literal = _; same = refl; width_holds = w; holds = n })
    go (on-place {p = p} t s) = rw t.holds.is (place p s)
    go (on-valid t g) = rw t.holds.is (record { number = _; same = refl; holds = g })
    go (on-not t a) = rw t.holds.is (record { operand = _; same = refl; stands = a })
    go (on-complement t a) = rw t.holds.is (record { operand = _; same = refl; stands = a })
    go (on-binary {o = o} t n a b) = rw t.holds.is (record {
      operator = o;
      holds = n;
      operands = record { left = _; right = _; same = refl; left_stands = a; right_stands = b };
    })
    go (on-cast t w a) =
        rw t.holds.is (record { width = _; holds = w; operand = record { operand = _; same = refl; stands = a } })
    go (on-slice t h l a) = rw t.holds.is (record {
      high = _;
      low = _;
      high_holds = h;
      low_holds = l;
      operand = record { operand = _; same = refl; stands = a };
    })
    go (on-concatenation t a b) =
        rw t.holds.is (record { left = _; right = _; same = refl; left_stands = a; right_stands = b })
    go (on_call {xs = xs} t f n s) = rw t.holds.is (record {
      callable = _;
      arguments = xs;
      same = refl;
      holds = f;
      count = n;
      stand = s;
    })

-- arguments, by their count
module _ (nums ends : List ℕ) (depth at : ℕ) where
  pub record ArgView (count : ℕ) (xs : Args) : Type 0 where
    pub first : Expr
    pub others : Args
    pub same : xs ≡ arg first others
    pub first_stands : StandsExpr nums ends depth at first
    pub others_stand : StandsArgs nums ends depth (get_or ends at 0) others
    pub fewer : count - 1 ≡ arg_count others

pub no-args : (xs : Args) → arg_count xs ≡ 0 → xs ≡ no_args
unfolding arg_count
no-args no_args e = refl
no-args (arg x xs) e = absurd (omega arith)

pub arg_view : {nums ends : List ℕ} {depth at : ℕ} (count : ℕ) (xs : Args) → StandsArgs nums ends depth at xs
    → count ≡ arg_count xs → (count ≡ 0 → ⊥) → ArgView nums ends depth at count xs
unfolding arg_count
arg_view count xs on_none e n = absurd (n e)
arg_view count xs (on-arg a s) e n =
    record { first = _; others = _; same = refl; first_stands = a; others_stand = s; fewer = omega (arith, e) }

-- statements
module _ (nums ends : List ℕ) (depth at : ℕ) (s : Stmt) where
  pub record BareView (which : Stmt) : Type 0 where
    pub same : s ≡ which

  pub record AssignView : Type 0 where
    pub place : Place
    pub value : Expr
    pub same : s ≡ assign at (at + 1) place value
    pub tag : HoldsTag nums (depth - 1) (at + 1) (place_tag place)
    pub stands : StandsPlace nums (at + 1) place
    pub value_stands : StandsExpr nums ends (depth - 1) (get_or ends (at + 1) 0) value

  pub record IfView : Type 0 where
    pub condition : Expr
    pub first : Stmt
    pub second : Stmt
    pub same : s ≡ if_else at condition first second
    pub condition_stands : StandsExpr nums ends (depth - 1) (at + 1) condition
    pub first_stands : StandsStmt nums ends (depth - 1) (get_or ends (at + 1) 0) first
    pub second_stands : StandsStmt nums ends (depth - 1) (get_or ends (get_or ends (at + 1) 0) 0) second

  pub record BlockView : Type 0 where
    pub members : Stmts
    pub same : s ≡ block at members
    pub count : HoldsWithin 0 most_members nums (at + 1) (member_count members)
    pub stand : StandsStmts nums ends (depth - 1) (at + 2) members

  pub record CallStmtView : Type 0 where
    pub callable : ℕ
    pub arguments : Args
    pub same : s ≡ call_stmt at callable arguments
    pub holds : Holds nums (at + 1) callable
    pub count : HoldsWithin 0 most_arguments nums (at + 2) (arg_count arguments)
    pub stand : StandsArgs nums ends (depth - 1) (at + 3) arguments

  pub record NamedView (make : ℕ → Stmt) : Type 0 where
    pub name : ℕ
    pub same : s ≡ make name
    pub holds : Holds nums (at + 1) name

  pub record ReturnView : Type 0 where
    pub value : Expr
    pub same : s ≡ return_value at value
    pub stands : StandsExpr nums ends (depth - 1) (at + 1) value

  pub record VerifyView : Type 0 where
    pub condition : Expr
    pub error : ℕ
    pub same : s ≡ verify at condition error
    pub stands : StandsExpr nums ends (depth - 1) (at + 1) condition
    pub holds : HoldsWithin 0 most_error nums (get_or ends (at + 1) 0) error

  -- by tag; no statement has another
  unfoldable pub StmtView : ℕ → Type 0
  StmtView zero = BareView (empty at)
  StmtView (suc zero) = AssignView
  StmtView (suc (suc zero)) = IfView
  StmtView (suc (suc (suc zero))) = BlockView
  StmtView (suc (suc (suc (suc zero)))) = CallStmtView
  StmtView (suc (suc (suc (suc (suc zero))))) = NamedView (apply at)
  StmtView (suc (suc (suc (suc (suc (suc zero)))))) = ReturnView
  StmtView (suc (suc (suc (suc (suc (suc (suc zero))))))) = BareView (return at)
  StmtView (suc (suc (suc (suc (suc (suc (suc (suc zero)))))))) = BareView (exit at)
  StmtView (suc (suc (suc (suc (suc (suc (suc (suc (suc zero))))))))) = NamedView (set_valid at)
  StmtView (suc (suc (suc (suc (suc (suc (suc (suc (suc (suc zero)))))))))) = NamedView (set_invalid at)
  StmtView (suc (suc (suc (suc (suc (suc (suc (suc (suc (suc (suc zero))))))))))) = NamedView (extract at)
  StmtView (suc (suc (suc (suc (suc (suc (suc (suc (suc (suc (suc (suc zero)))))))))))) = VerifyView
  StmtView (suc (suc (suc (suc (suc (suc (suc (suc (suc (suc (suc (suc (suc n))))))))))))) = ⊥

pub stmt-view : {nums ends : List ℕ} {depth at : ℕ} {s : Stmt} → StandsStmt nums ends depth at s
    → StmtView nums ends depth at s (get_or nums at 0)
unfolding StmtView
stmt-view (on-empty t) = rw t.holds.is (record { same = refl })
stmt-view (on-assign {p = p} t g s e) =
    rw t.holds.is (record { place = p; value = _; same = refl; tag = g; stands = s; value_stands = e })
stmt-view (on-if t c a b) = rw t.holds.is (record {
  condition = _;
  first = _;
  second = _;
  same = refl;
  condition_stands = c;
  first_stands = a;
  second_stands = b;
})
stmt-view (on-block {ss = ss} t n s) = rw t.holds.is (record { members = ss; same = refl; count = n; stand = s })
stmt-view (on-call-stmt {xs = xs} t f n s) =
    rw t.holds.is (record { callable = _; arguments = xs; same = refl; holds = f; count = n; stand = s })
stmt-view (on-apply t n) = rw t.holds.is (record { name = _; same = refl; holds = n })
stmt-view (on-return-value t e) = rw t.holds.is (record { value = _; same = refl; stands = e })
stmt-view (on_return t) = rw t.holds.is (record { same = refl })
stmt-view (on-exit t) = rw t.holds.is (record { same = refl })
stmt-view (on-set-valid t n) = rw t.holds.is (record { name = _; same = refl; holds = n })
stmt-view (on-set-invalid t n) = rw t.holds.is (record { name = _; same = refl; holds = n })
stmt-view (on-extract t n) = rw t.holds.is (record { name = _; same = refl; holds = n })
stmt-view (on-verify t c e) = rw t.holds.is (record { condition = _; error = _; same = refl; stands = c; holds = e })

-- members, by their count
module _ (nums ends : List ℕ) (depth at : ℕ) where
  pub record MemberView (count : ℕ) (ss : Stmts) : Type 0 where
    pub first : Stmt
    pub others : Stmts
    pub same : ss ≡ stmt first others
    pub first_stands : StandsStmt nums ends depth at first
    pub others_stand : StandsStmts nums ends depth (get_or ends at 0) others
    pub fewer : count - 1 ≡ member_count others

pub no-members : (ss : Stmts) → member_count ss ≡ 0 → ss ≡ no_stmts
unfolding member_count
no-members no_stmts e = refl
no-members (stmt s ss) e = absurd (omega arith)

pub member-view : {nums ends : List ℕ} {depth at : ℕ} (count : ℕ) (ss : Stmts) → StandsStmts nums ends depth at ss
    → count ≡ member_count ss → (count ≡ 0 → ⊥) → MemberView nums ends depth at count ss
unfolding member_count
member-view count ss on-no-member e n = absurd (n e)
member-view count ss (on-member a s) e n =
    record { first = _; others = _; same = refl; first_stands = a; others_stand = s; fewer = omega (arith, e) }

-- a transition that leads to a state, and a select
module _ (nums ends : List ℕ) (at : ℕ) (t : Transition) where
  pub record LeadView : Type 0 where
    pub state : Numeral
    pub same : t ≡ lead_to state
    pub stands : StandsNumeral nums (at + 1) state

  pub record SelectView : Type 0 where
    pub expr : Expr
    pub pairs : List Pair
    pub same : t ≡ select at expr pairs
    pub stands : StandsExpr nums ends deepest (at + 1) expr
    pub count : HoldsWithin 0 most_pairs nums (get_or ends (at + 1) 0) (length pairs)
    pub stand : StandsPairs nums (get_or ends (at + 1) 0 + 1) pairs

module _ {nums ends : List ℕ} {at : ℕ} where
  pub transition-inside : {t : Transition} → StandsTransition nums ends at t → at < length nums
  transition-inside (on-no-transition h) = h.inside
  transition-inside (on-accept h) = h.inside
  transition-inside (on-reject h e) = h.inside
  transition-inside (on-lead-to h s) = h.inside
  transition-inside (on-select h e n ps) = h.inside

  pub lead-view : {t : Transition} → StandsTransition nums ends at t → get_or nums at 0 ≡ 3 → LeadView nums ends at t
  lead-view (on-no-transition h) k = absurd (omega (arith, h.is, k))
  lead-view (on-accept h) k = absurd (omega (arith, h.is, k))
  lead-view (on-reject h e) k = absurd (omega (arith, h.is, k))
  lead-view (on-lead-to h s) k = record { state = _; same = refl; stands = s }
  lead-view (on-select h e n ps) k = absurd (omega (arith, h.is, k))

  pub select-view : {t : Transition} → StandsTransition nums ends at t → get_or nums at 0 ≡ 4 → SelectView nums ends at t
  select-view (on-no-transition h) k = absurd (omega (arith, h.is, k))
  select-view (on-accept h) k = absurd (omega (arith, h.is, k))
  select-view (on-reject h e) k = absurd (omega (arith, h.is, k))
  select-view (on-lead-to h s) k = absurd (omega (arith, h.is, k))
  select-view (on-select h e n ps) k = record { expr = _; pairs = _; same = refl; stands = e; count = n; stand = ps }

-- pairs, by their count
pub record PairView (nums : List ℕ) (at count : ℕ) (ps : List Pair) : Type 0 where
  pub first : Pair
  pub others : List Pair
  pub same : ps ≡ first ∷ others
  pub value : StandsNumeral nums at first.value
  pub state : StandsNumeral nums (at + 1) first.state
  pub rest : StandsPairs nums (at + 2) others
  pub fewer : count - 1 ≡ length others

pub pair-view : {nums : List ℕ} {at count : ℕ} (ps : List Pair) → StandsPairs nums at ps → count ≡ length ps
    → (count ≡ 0 → ⊥) → PairView nums at count ps
unfolding StandsPairs
pair-view [] s e more = absurd (more e)
pair-view (p ∷ ps) s e more = record {
  first = p;
  others = ps;
  same = refl;
  value = s.0;
  state = s.1.0;
  rest = s.1.1;
  fewer = omega (arith, e);
}

-- a construct begins inside the numbers, with a level left
pub record Begins (nums : List ℕ) (depth at : ℕ) : Type 0 where
  pub inside : at < length nums
  pub levels : 0 < depth

begun : {nums : List ℕ} {depth at tag : ℕ} → HoldsTag nums depth at tag → Begins nums depth at
begun t = record { inside = t.holds.inside; levels = t.levels }

pub expr-begins : {nums ends : List ℕ} {depth at : ℕ} {e : Expr} → StandsExpr nums ends depth at e
    → Begins nums depth at
expr-begins (on_bool t n) = begun t
expr-begins (on-bits t w n) = begun t
expr-begins (on-place t p) = begun t
expr-begins (on-valid t g) = begun t
expr-begins (on-not t a) = begun t
expr-begins (on-complement t a) = begun t
expr-begins (on-binary t o a b) = begun t
expr-begins (on-cast t w a) = begun t
expr-begins (on-slice t h l a) = begun t
expr-begins (on-concatenation t a b) = begun t
expr-begins (on_call t f n xs) = begun t

pub stmt-begins : {nums ends : List ℕ} {depth at : ℕ} {s : Stmt} → StandsStmt nums ends depth at s
    → Begins nums depth at
stmt-begins (on-empty t) = begun t
stmt-begins (on-assign t g p e) = begun t
stmt-begins (on-if t c a b) = begun t
stmt-begins (on-block t n s) = begun t
stmt-begins (on-call-stmt t f n xs) = begun t
stmt-begins (on-apply t n) = begun t
stmt-begins (on-return-value t e) = begun t
stmt-begins (on_return t) = begun t
stmt-begins (on-exit t) = begun t
stmt-begins (on-set-valid t n) = begun t
stmt-begins (on-set-invalid t n) = begun t
stmt-begins (on-extract t n) = begun t
stmt-begins (on-verify t c e) = begun t
