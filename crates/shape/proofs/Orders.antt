-- What is read stands in order: so each tree that the rules read is laid as Ended tells.
use mathlib.Core.Bool.{Bool, true, false}
use mathlib.Core.Path.{◌≡◌, refl, sym, ◌∙◌}
use mathlib.Core.List.{List, [], ◌∷◌}
use Prim.Native.Nat.{ℕ, zero, suc, ◌+◌, ◌-◌, ◌<◌}
use native.Mathlib.Omega.{arith}
use lib.ListN.{length, get_or, drop}
use lib.Dec.{ltb}
use borrow.Author.Tests.{ltb-true, ltb-false}
use Rattle.rules.specs.Words.{widest}
use Rattle.rules.specs.Syntax.{Expr, Stmt}
use Rattle.rules.specs.Reading.{most_arguments, most_members, highest_bound}
use Rattle.rules.specs.Reading.{Got, got, bad, Reader, and_then, ◌>>=◌, pure, number, between, repeat, too_deep, to_args, to_stmts, read_expr, read_stmt}
use Rattle.rules.proofs.Readers.{Kept, Keeps, keeps-number, keeps-between, keeps-stands, keeps-repeat, keeps_then, keeps-expr, keeps-target, keeps-stmt, Given, Starts}
use Rattle.shape.specs.Scans.{forget, scan_of, Past, Fault}
use Rattle.shape.specs.Directory.{stmt_at}
use Rattle.shape.specs.Ends.{expr_at, first_at}
use Rattle.shape.specs.Leads.{on_scan, on_lead, valued, value_of, lead_by, arguments_lead, call_lead, block_lead, expr_form, expr_lead, stmt_form, stmt_lead, stmt_laid, read_literal, Agree, AgreeOn, next_of, read_operands, read_parts, parts_at, LeadsExpr, LeadsStmt, Lead, On, Off}
use Rattle.shape.specs.declared.expressions.ExprForm.{ExprForm}
use Rattle.shape.specs.declared.expressions.ExprForm.TheVariants.{Number, Field, Literal, Operand, Binary, Cast, Slice, Operands, Call, Unlisted}
use Rattle.shape.specs.declared.statements.StmtForm.{StmtForm}
use Rattle.shape.specs.declared.statements.StmtForm.TheVariants.{Bare, Assign, If, Block, CallStmt, Named, Returned, Verified, NoStmt}
use Rattle.shape.proofs.Laws.{scans-self, scans-then, scans-last, scans-pure}
use Rattle.shape.proofs.Lays.{BegunAt, begins-repeat}
use Rattle.shape.proofs.Targets.{keeps-verify, laid_on}
use Rattle.shape.proofs.Exprs.{ExprNodes, expr_agrees, args-at, starts-expr}
use Rattle.shape.proofs.Exprs as exprs
use Rattle.shape.proofs.Stmts.{StmtNodes, stmt-agrees, stmts-at, starts-stmt, parts-begin}
use Rattle.shape.proofs.Stmts as stmts
use Rattle.shape.proofs.Ended.{OrderedExpr, OrderedArgs, OrderedStmt, OrderedStmts}

-- what is told of all that a reader gives, with the index behind it
unfoldable pub OrderedGot : {A : Type 0} → (A → ℕ → Type 0) → Got A → Type 0
OrderedGot R (got a left next) = R a next
OrderedGot R (bad number index) = Unit

pub record Orders {A : Type 0} (R : A → ℕ → Type 0) (read : Reader A) : Type 0 where
  pub ordered : (nums : List ℕ) (at : ℕ) → OrderedGot R (read (drop at nums) at)

unfoldable pub OrderedAll : {A : Type 0} → (A → ℕ) → (A → ℕ → Type 0) → List A → ℕ → Type 0
OrderedAll start R [] end = Unit
OrderedAll start R (x ∷ xs) end = R x (first_at start xs end) × OrderedAll start R xs end

pub orders-repeat : {A : Type 0} {start : A → ℕ} {R : A → ℕ → Type 0} {one : Reader A} (n : ℕ) → Keeps one
    → Starts start one
    → Orders R one → Orders (OrderedAll start R) (repeat n one)
unfolding OrderedGot OrderedAll repeat pure ◌>>=◌ and_then Kept BegunAt
orders-repeat zero h s o = record { ordered = λ nums at. tt }
orders-repeat {A} {start} {R} {one} (suc n) h s o =
    record {
      ordered = λ nums at. go nums (one (drop at nums) at) at (h.kept nums at) (o.ordered nums at)
          ((orders-repeat n h s o).ordered nums);
    }
  where
    inner : (i : ℕ) (a : A) (y : Got (List A)) → R a i → BegunAt (first_at start) i y
        → OrderedGot (OrderedAll start R) y
        → OrderedGot (OrderedAll start R) (and_then y (λ rest. pure (a ∷ rest)))
    inner i a (got rest left end) r b p = (rw b r, p)
    inner i a (bad fault index) r b p = tt

    go : (nums : List ℕ) (x : Got A) (at : ℕ) → Kept nums at x → OrderedGot R x
        → ((i : ℕ) → OrderedGot (OrderedAll start R) (repeat n one (drop i nums) i))
        → OrderedGot (OrderedAll start R) (and_then x (λ a. repeat n one >>= λ rest. pure (a ∷ rest)))
    go nums (got a left next) at k r ih =
        rw k.rest
        (inner next a (repeat n one (drop next nums) next) r ((begins-repeat n s).begun (drop next nums) next)
        (ih next))
    go nums (bad fault index) at k r ih = tt

-- a construct with its parts, which begin at an index
pub record Orderly {A B : Type 0} (start : B → ℕ → ℕ) (R : A → ℕ → Type 0) (S : B → ℕ → Type 0) (at next : ℕ) (a : A)
    (b : B) : Type 0 where
  pub order : (end : ℕ) → start b end ≡ next → at < start b end → S b end → R a end

orders-construct : {A B : Type 0} (start : B → ℕ → ℕ) (R : A → ℕ → Type 0) (S : B → ℕ → Type 0) (at next : ℕ)
    (x : Got A) (y : Got B)
    → at < next → Agree (Orderly start R S at next) x y → forget x ≡ forget y → BegunAt start next y → OrderedGot S y
    → OrderedGot R x
unfolding Agree OrderedGot BegunAt forget
orders-construct start R S at next (bad fault index) y h p e b s = tt
orders-construct start R S at next (got a left m) (bad fault index) h p e b s =
    let z : ◌≡◌ {A = ℕ} 0 1 = cc in absurd (omega arith)
orders-construct start R S at next (got a left m) (got c rest end) h p e b s =
    let same : m ≡ end = cc in
    rw same (p.order end b (rw b h) s)

fault-orders : {A : Type 0} (R : A → ℕ → Type 0) (x : Got A) (f i : ℕ) → forget x ≡ Fault f i → OrderedGot R x
unfolding OrderedGot forget
fault-orders R (bad fault index) f i e = tt
fault-orders R (got a left next) f i e = let z : ◌≡◌ {A = ℕ} 0 1 = cc in absurd (omega arith)

-- a lead ends behind its tag
unfoldable AfterTag : ℕ → Lead → Type 0
AfterTag at (On next operands statements) = at < next
AfterTag at (Off number index) = Unit

after-by : {A : Type 0} (read : Reader A) (nums : List ℕ) (at n m : ℕ) → Keeps read
    → AfterTag at (lead_by (scan_of read nums (at + 1)) n m)
unfolding AfterTag lead_by scan_of forget Kept
after-by {A} read nums at n m h = go (read (drop (at + 1) nums) (at + 1)) (h.kept nums (at + 1))
  where
    go : (x : Got A) → Kept nums (at + 1) x → AfterTag at (lead_by (forget x) n m)
    go (got a left next) k = omega (arith, k.later)
    go (bad fault index) k = tt

after-here : (at n m : ℕ) → AfterTag at (lead_by (Past (at + 1)) n m)
unfolding AfterTag lead_by
after-here at n m = omega arith

after-call : (nums : List ℕ) (at : ℕ) → AfterTag at (call_lead nums (scan_of number nums (at + 1)))
unfolding AfterTag call_lead arguments_lead scan_of forget value_of valued Kept
after-call nums at = go (number (drop (at + 1) nums) (at + 1)) (keeps-number.kept nums (at + 1))
  where
    inner : (i : ℕ) (x : Got ℕ) → at < i → Kept nums i x → AfterTag at (arguments_lead (valued x))
    inner i (got n left next) h k = omega (arith, k.later)
    inner i (bad fault index) h k = tt

    go : (x : Got ℕ) → Kept nums (at + 1) x → AfterTag at (call_lead nums (forget x))
    go (got f left next) k =
        inner next (between 0 most_arguments (drop next nums) next) (omega (arith, k.later))
        ((keeps-between 0 most_arguments).kept nums next)
    go (bad fault index) k = tt

after_block : (nums : List ℕ) (at : ℕ) → AfterTag at (block_lead (value_of 0 most_members nums (at + 1)))
unfolding AfterTag block_lead value_of valued Kept
after_block nums at = go (between 0 most_members (drop (at + 1) nums) (at + 1))
    ((keeps-between 0 most_members).kept nums (at + 1))
  where
    go : (x : Got ℕ) → Kept nums (at + 1) x → AfterTag at (block_lead (valued x))
    go (got n left next) k = omega (arith, k.later)
    go (bad fault index) k = tt

keeps-literal : Keeps read_literal
unfolding read_literal
keeps-literal = keeps_then (keeps-between 1 widest) λ w. keeps-number

after-expr : (version : ℕ) (f : ExprForm) (nums : List ℕ) (at : ℕ) → AfterTag at (expr_lead version f nums at)
unfolding expr_lead AfterTag
after-expr version Number nums at = after-by _ nums at 0 0 keeps-number
after-expr version Field nums at = after-by _ nums at 0 0 (keeps-repeat 2 keeps-number)
after-expr version Literal nums at = after-by _ nums at 0 0 keeps-literal
after-expr version Operand nums at = after-here at 1 0
after-expr version Binary nums at = after-by _ nums at 2 0 (keeps-stands _)
after-expr version Cast nums at = after-by _ nums at 1 0 (keeps-between 1 widest)
after-expr version Slice nums at = after-by _ nums at 1 0 (keeps-repeat 2 (keeps-between 0 highest_bound))
after-expr version Operands nums at = after-here at 2 0
after-expr version Call nums at = after-call nums at
after-expr version Unlisted nums at = tt

after-stmt : (version depth : ℕ) (f : StmtForm) (nums : List ℕ) (at : ℕ)
    → AfterTag at (stmt_lead version depth f nums at)
unfolding stmt_lead AfterTag
after-stmt version depth Bare nums at = after-here at 0 0
after-stmt version depth Assign nums at = after-by _ nums at 1 0 (keeps-target version depth)
after-stmt version depth If nums at = after-here at 1 2
after-stmt version depth Block nums at = after_block nums at
after-stmt version depth CallStmt nums at = after-call nums at
after-stmt version depth Named nums at = after-by _ nums at 0 0 keeps-number
after-stmt version depth Returned nums at = after-here at 1 0
after-stmt version depth Verified nums at = after-by _ nums at 0 0 (keeps-verify version depth)
after-stmt version depth NoStmt nums at = tt

-- expressions
abbrev OrderedExprs : List Expr → ℕ → Type 0
OrderedExprs = OrderedAll expr_at OrderedExpr

args-ordered : (version : ℕ) (xs : List Expr) (end : ℕ) → OrderedExprs xs end → OrderedArgs (to_args version xs) end
unfolding OrderedAll OrderedArgs to_args
args-ordered version [] end o = tt
args-ordered version (x ∷ xs) end o = (rw (args-at version xs end) o.0, args-ordered version xs end o.1)

expr-nodes : (version at next : ℕ)
    → ExprNodes version at (Orderly (first_at expr_at) OrderedExpr OrderedExprs at next)
unfolding OrderedExpr OrderedAll first_at
expr-nodes version at next = record {
  bool-node = λ n. record { order = λ end b h o. h };
  bits-node = λ w n. record { order = λ end b h o. h };
  read-node = λ p. record { order = λ end b h o. h };
  valid-node = λ g. record { order = λ end b h o. h };
  not-node = λ a. record { order = λ end b h o. (h, o.0) };
  complement-node = λ a. record { order = λ end b h o. (h, o.0) };
  binary-node = λ p a b. record { order = λ end s h o. (h, (o.0, o.1.0)) };
  cast-node = λ w a. record { order = λ end b h o. (h, o.0) };
  slice-node = λ u l a. record { order = λ end b h o. (h, o.0) };
  concatenation-node = λ a b. record { order = λ end s h o. (h, (o.0, o.1.0)) };
  call-node = λ f xs. record { order = λ end b h o. (rw (args-at version xs end) h, args-ordered version xs end o) };
}

module _ (version depth : ℕ) (o : Orders OrderedExpr (read_expr version depth)) where
  expr-by-lead : (nums : List ℕ) (at : ℕ) (lead : Lead) → AfterTag at lead → LeadsExpr version nums at lead
      → AgreeOn (Orderly (first_at expr_at) OrderedExpr OrderedExprs at (next_of lead))
      (read_expr version (suc depth) (drop at nums) at) (read_operands version depth) nums lead
      → OrderedGot OrderedExpr (read_expr version (suc depth) (drop at nums) at)
  unfolding AfterTag AgreeOn next_of read_operands on_lead scan_of
  expr-by-lead nums at (Off f i) h l p = fault-orders OrderedExpr _ f i (l.expr depth)
  expr-by-lead nums at (On next operands statements) h l p =
      orders-construct (first_at expr_at) OrderedExpr OrderedExprs at next _
      (repeat operands (read_expr version depth) (drop next nums) next) h p (l.expr depth)
      ((begins-repeat operands (starts-expr version depth)).begun (drop next nums) next)
      ((orders-repeat operands (keeps-expr version depth) (starts-expr version depth) o).ordered nums next)

  expr-step : Orders OrderedExpr (read_expr version (suc depth))
  unfolding AfterTag AgreeOn
  expr-step = record { ordered = λ nums at. go nums at (ltb at (length nums)) refl }
    where
      go : (nums : List ℕ) (at : ℕ) (b : Bool) → ltb at (length nums) ≡ b
          → OrderedGot OrderedExpr (read_expr version (suc depth) (drop at nums) at)
      go nums at true t =
          let h : at < length nums = ltb-true at (length nums) t in
          expr-by-lead nums at (expr_lead version (expr_form version (get_or nums at 0)) nums at)
          (after-expr version (expr_form version (get_or nums at 0)) nums at)
          (exprs.leads-is version nums at (expr_form version (get_or nums at 0)) _ h refl refl)
          (expr_agrees version depth nums at _ (expr-nodes version at _) h)
      go nums at false t =
          expr-by-lead nums at (Off 4 at) tt
          (exprs.leads-missing version nums at (ltb-false at (length nums) t)) tt

deep-orders : {A : Type 0} {R : A → ℕ → Type 0} → Orders R (too_deep {A = A})
unfolding too_deep OrderedGot
deep-orders {A} {R} = record { ordered = λ nums at. go (drop at nums) at }
  where
    go : (left : List ℕ) (at : ℕ) → OrderedGot R (too_deep {A = A} left at)
    go [] at = tt
    go (n ∷ left) at = tt

expr-zero : (version : ℕ) → Orders OrderedExpr (read_expr version 0)
unfolding read_expr
expr-zero version = deep-orders

pub orders-expr : (version depth : ℕ) → Orders OrderedExpr (read_expr version depth)
orders-expr version zero = expr-zero version
orders-expr version (suc depth) = expr-step version depth (orders-expr version depth)

-- statements
abbrev OrderedStmtList : List Stmt → ℕ → Type 0
OrderedStmtList = OrderedAll stmt_at OrderedStmt

stmts-ordered : (version : ℕ) (ss : List Stmt) (end : ℕ) → OrderedStmtList ss end
    → OrderedStmts (to_stmts version ss) end
unfolding OrderedAll OrderedStmts to_stmts
stmts-ordered version [] end o = tt
stmts-ordered version (s ∷ ss) end o = (rw (stmts-at version ss end) o.0, stmts-ordered version ss end o.1)

OrderedParts : List Expr × List Stmt → ℕ → Type 0
OrderedParts p end = OrderedExprs p.0 (first_at stmt_at p.1 end) × OrderedStmtList p.1 end

-- the condition of a verify
condition-ordered : (version depth : ℕ) (nums : List ℕ) (at end : ℕ) (c : Expr) (left : List ℕ)
    → read_expr version depth (drop (at + 1) nums) (at + 1) ≡ got c left end → (at < expr_at c) × OrderedExpr c end
unfolding OrderedGot Given
condition-ordered version depth nums at end c left q =
    let s : expr_at c ≡ at + 1 = rw q at ((starts-expr version depth).started (drop (at + 1) nums) (at + 1)) in
    (omega arith, rw q at ((orders-expr version depth).ordered nums (at + 1)))

stmt-nodes : (version depth : ℕ) (nums : List ℕ) (at next : ℕ) (found : List ℕ)
    → StmtNodes version depth nums at next found (λ mid. Orderly parts_at OrderedStmt OrderedParts at next)
unfolding parts_at OrderedParts OrderedStmt OrderedAll first_at
stmt-nodes version depth nums at next found = record {
  empty-node = record { order = λ end b h o. h };
  assign-node = λ value p e q l. record { order = λ end b h o. (omega arith, (rw q l, o.0.0)) };
  if-node = λ c a b. record { order = λ end s h o. (h, (o.0.0, (o.1.0, o.1.1.0))) };
  block-node = λ ss.
      record { order = λ end b h o. (rw (stmts-at version ss end) h, stmts-ordered version ss end o.1) };
  call-node = λ f xs. record { order = λ end b h o. (rw (args-at version xs end) h, args-ordered version xs end o.0) };
  apply-node = λ t. record { order = λ end b h o. h };
  value-node = λ e. record { order = λ end b h o. (h, o.0.0) };
  return-node = record { order = λ end b h o. h };
  exit-node = record { order = λ end b h o. h };
  valid-node = λ g. record { order = λ end b h o. h };
  invalid-node = λ g. record { order = λ end b h o. h };
  extract-node = λ g. record { order = λ end b h o. h };
  verify-node = λ c e left q. record {
    order = λ end b h o. rw b (condition-ordered version depth nums at (next - 1) c left q);
  };
}

module _ (version depth operands statements : ℕ) where
  parts-ordered : Orders OrderedStmt (read_stmt version depth) → Orders OrderedParts
      (read_parts version depth operands statements)
  unfolding OrderedParts read_parts OrderedGot BegunAt Kept ◌>>=◌ and_then pure
  parts-ordered o = record {
    ordered = λ nums at. go nums at (repeat operands (read_expr version depth) (drop at nums) at)
        ((keeps-repeat operands (keeps-expr version depth)).kept nums at)
        ((orders-repeat operands (keeps-expr version depth) (starts-expr version depth) (orders-expr version depth)
        ).ordered nums at);
  }
    where
      inner : (n : ℕ) (xs : List Expr) (y : Got (List Stmt)) → OrderedExprs xs n → BegunAt (first_at stmt_at) n y
          → OrderedGot OrderedStmtList y
          → OrderedGot OrderedParts (and_then y (λ ss. pure (xs, ss)))
      inner n xs (got ss left end) e b s = (rw b e, s)
      inner n xs (bad fault index) e b s = tt

      go : (nums : List ℕ) (at : ℕ) (x : Got (List Expr)) → Kept nums at x → OrderedGot OrderedExprs x
          → OrderedGot OrderedParts
          (and_then x (λ xs. repeat statements (read_stmt version depth) >>= λ ss. pure (xs, ss)))
      go nums at (got xs left n) k e =
          rw k.rest (inner n xs (repeat statements (read_stmt version depth) (drop n nums) n) e
          ((begins-repeat statements (starts-stmt version depth)).begun (drop n nums) n)
          ((orders-repeat statements (keeps-stmt version depth) (starts-stmt version depth) o).ordered nums n))
      go nums at (bad fault index) k e = tt

  pub parts-scan : (nums : List ℕ) (at : ℕ) → scan_of (read_parts version depth operands statements) nums at
      ≡ on_scan (scan_of (repeat operands (read_expr version depth)) nums at)
      (scan_of (repeat statements (read_stmt version depth)) nums)
  unfolding read_parts
  parts-scan nums at =
      (scans-then (keeps-repeat operands (keeps-expr version depth)) (scans-self _ nums)
      (λ xs. scans-last (keeps-repeat statements (keeps-stmt version depth)) (scans-self _ nums) λ ss. scans-pure _)
      ).scan at

module _ (version depth : ℕ) (o : Orders OrderedStmt (read_stmt version depth)) where
  stmt-by-lead : (nums : List ℕ) (at : ℕ) (lead : Lead) (mid : List ℕ) → AfterTag at lead
      → LeadsStmt version depth nums at [] mid lead
      → AgreeOn (Orderly parts_at OrderedStmt OrderedParts at (next_of lead))
      (read_stmt version (suc depth) (drop at nums) at) (read_parts version depth) nums lead
      → OrderedGot OrderedStmt (read_stmt version (suc depth) (drop at nums) at)
  unfolding AfterTag AgreeOn next_of on_lead scan_of
  stmt-by-lead nums at (Off f i) mid h l p = fault-orders OrderedStmt _ f i l.stmt
  stmt-by-lead nums at (On next operands statements) mid h l p =
      orders-construct parts_at OrderedStmt OrderedParts at next _
      (read_parts version depth operands statements (drop next nums) next) h p
      (l.stmt ∙ sym (parts-scan version depth operands statements nums next))
      ((parts-begin version depth operands statements).begun (drop next nums) next)
      ((parts-ordered version depth operands statements o).ordered nums next)

  stmt-step : Orders OrderedStmt (read_stmt version (suc depth))
  unfolding AfterTag AgreeOn
  stmt-step = record { ordered = λ nums at. go nums at (ltb at (length nums)) refl }
    where
      go : (nums : List ℕ) (at : ℕ) (b : Bool) → ltb at (length nums) ≡ b
          → OrderedGot OrderedStmt (read_stmt version (suc depth) (drop at nums) at)
      go nums at true t =
          let h : at < length nums = ltb-true at (length nums) t in
          stmt-by-lead nums at (stmt_lead version depth (stmt_form version (get_or nums at 0)) nums at)
          (stmt_laid version depth (stmt_form version (get_or nums at 0)) nums at [])
          (after-stmt version depth (stmt_form version (get_or nums at 0)) nums at)
          (stmts.leads-is version depth nums at (stmt_form version (get_or nums at 0)) [] _ _ h refl
          (record { lead = refl; laid = laid_on _ _ _ refl }))
          (stmt-agrees version depth nums at _ [] _ (stmt-nodes version depth nums at _ []) h refl)
      go nums at false t =
          stmt-by-lead nums at (Off 4 at) [] tt
          (stmts.leads-missing version depth nums at [] (ltb-false at (length nums) t)) tt

stmt-zero : (version : ℕ) → Orders OrderedStmt (read_stmt version 0)
unfolding read_stmt
stmt-zero version = deep-orders

pub orders-stmt : (version depth : ℕ) → Orders OrderedStmt (read_stmt version depth)
orders-stmt version zero = stmt-zero version
orders-stmt version (suc depth) = stmt-step version depth (orders-stmt version depth)
