-- Scanning an expression: lead and operands together are the expression, and what they lay is what it lays.
use mathlib.Core.Option.{Option, none, some}
use mathlib.Core.Path.{◌≡◌, refl, sym, ◌∙◌}
use mathlib.Core.List.{List, [], ◌∷◌}
use Prim.Native.Nat.{ℕ, zero, suc, ◌+◌, ◌-◌, ◌*◌, ◌≤◌, ◌<◌, ◌^◌}
use native.Mathlib.Omega.{arith}
use native.Mathlib.Numerals.{add-one}
use lib.ListN.{length, get_or, drop, set, get_elem?}
use Rattle.rules.specs.Words.{widest}
use Rattle.rules.specs.Syntax.{Operator, Place, Expr, bool_literal, bits_literal, read_of, valid_of, negation, complement, binary, cast, slice, concatenation, call_expr}
use Rattle.rules.specs.Reading.{most_arguments, highest_bound}
use Rattle.rules.specs.Reading.{Got, got, bad, Reader, and_then, ◌>>=◌, pure, here, number, meaning, stands_for, between, repeat, list_of, too_deep}
use Rattle.rules.specs.Reading.{tag_local, tag_parameter, tag_global, tag_field, ExprTag, tag_bool, tag_bits, tag_place, tag_valid, tag_not, tag_complement, tag_binary, tag_cast, tag_slice, tag_concatenation, tag_call}
use Rattle.rules.specs.Reading.{expr_tags, to_args, read_place, read_expr_as, read_expr}
use Rattle.rules.proofs.Readers.{Keeps, keeps-number, keeps-stands, keeps-between, keeps-list, keeps-place, keeps-expr, keeps-repeat, looked-in, Gives, gives_then, gives-pure, Starts, starts-here, starts-deep}
use Rattle.shape.specs.Scans.{forget, scan_of, Scan, Past, Fault}
use Rattle.shape.specs.Ends.{most_numbers, expr_at, args_at, lay_expr, lay_args, first_at, lay_all}
use Rattle.shape.specs.Walks.{Laid, Lays}
use Rattle.shape.specs.Leads.{on_scan, value_of, on_value, lead_by, on_lead, arguments_lead, call_lead, form_of, expr_form, expr_lead, LeadsExpr, Agree, AgreeOn, next_of, Made, lay_exprs, read_operands, Tagged, Value, Of, Unread, Lead, On, Off}
use Rattle.shape.specs.declared.expressions.ExprForm.{ExprForm}
use Rattle.shape.proofs.Laws.{Scans, scans-self, scans-then, scans-pure, scans-last, scans-as, scan-here, stands-is, stands-none, stands-out}
use Rattle.shape.proofs.Laws.{scans-none, scans-one, scans-two, list-scan}
use Rattle.shape.proofs.Agrees.{alike-one, alike-two, alike_all, agree-lead, agree-two, agree-none, agree-call, behind-tag, tag_in}
use Rattle.shape.proofs.Lays.{Done, lays-done, lays-none, lays-deep, BegunAt, Begins, begins-repeat, pendings}
use Rattle.shape.proofs.Tags.{scans-literal, unlisted}

-- a lead, and what follows by its counts
lead_after : (K : ℕ → ℕ → ℕ → Scan) (n m : ℕ) (x : Scan) → on_scan x (λ next. K next n m) ≡ on_lead (lead_by x n m) K
unfolding on_lead lead_by on_scan
lead_after K n m (Past next) = refl
lead_after K n m (Fault fault index) = refl

pub lead-scan : {A B : Type 0} {read : Reader A} {k : A → Reader B} {nums : List ℕ} {s : ℕ → Scan}
    (K : ℕ → ℕ → ℕ → Scan) (n m : ℕ)
    → Keeps read → Scans read nums s → ((a : A) → Scans (k a) nums (λ next. K next n m))
    → Scans (read >>= k) nums (λ at. on_lead (lead_by (s at) n m) K)
lead-scan {s = s} K n m h f g = record { scan = λ at. (scans-then h f g).scan at ∙ lead_after K n m (s at) }

-- two readers in the lead
pub lead-two : {A B C : Type 0} {first : Reader A} {second : A → Reader B} {k : A → B → Reader C} {nums : List ℕ}
    {s t : ℕ → Scan}
    (K : ℕ → ℕ → ℕ → Scan) (n m : ℕ) → Keeps first → ((a : A) → Keeps (second a)) → Scans first nums s
    → ((a : A) → Scans (second a) nums t)
    → ((a : A) (b : B) → Scans (k a b) nums (λ next. K next n m))
    → Scans (first >>= λ a. second a >>= k a) nums (λ at. on_lead (lead_by (on_scan (s at) t) n m) K)
unfolding on_scan
lead-two {s = s} {t = t} K n m h l f g e =
    record { scan = λ at. (scans-then h f (λ a. lead-scan K n m (l a) (g a) (e a))).scan at ∙ go (s at) }
  where
    go : (x : Scan) → on_scan x (λ next. on_lead (lead_by (t next) n m) K) ≡ on_lead (lead_by (on_scan x t) n m) K
    go (Past next) = refl
    go (Fault fault index) = lead_after K n m (Fault fault index)

pub scans-list : {A : Type 0} {one : Reader A} {nums : List ℕ} (least most : ℕ) → Keeps one
    → Scans (list_of least most one) nums (λ at. on_value (value_of least most nums at)
    (λ n next. scan_of (repeat n one) nums next))
scans-list {nums = nums} least most h = record { scan = λ at. list-scan least most nums at h }

pub call-scan : {A B : Type 0} {one : Reader A} {k : ℕ → List A → Reader B} {nums : List ℕ} (K : ℕ → ℕ → ℕ → Scan)
    → Keeps one
    → ((f : ℕ) (xs : List A) → Scans (k f xs) nums Past) → ((next n : ℕ) → K next n 0 ≡ scan_of (repeat n one) nums next)
    → Scans (number >>= λ f. list_of 0 most_arguments one >>= k f) nums
    (λ at. on_lead (call_lead nums (scan_of number nums at)) K)
unfolding on_scan on_value on_lead call_lead arguments_lead
call-scan {A} {B} {one} {k} {nums} K h g e =
    record {
      scan =
          λ at. (scans-then keeps-number (scans-self number nums)
          (λ f. scans-last (keeps-list 0 8 h) (scans-list 0 8 h) (g f))).scan at
          ∙ go (scan_of number nums at);
    }
  where
    counted : (v : Value) → on_value v (λ n next. scan_of (repeat n one) nums next) ≡ on_lead (arguments_lead v) K
    counted (Of n next) = sym (e next n)
    counted (Unread fault index) = refl

    go : (x : Scan)
        → on_scan x (λ at. on_value (value_of 0 most_arguments nums at) (λ n next. scan_of (repeat n one) nums next))
        ≡ on_lead
        (call_lead nums x) K
    go (Past next) = counted (value_of 0 most_arguments nums next)
    go (Fault fault index) = refl

pub scans-field : (version : ℕ) (nums : List ℕ)
    → Scans (read_place version tag_field) nums (scan_of (repeat 2 number) nums)
unfolding read_place
scans-field version nums =
    scans-as (scans-then keeps-number (scans-self number nums) λ g. scans-last keeps-number (scans-self number nums)
    λ f. scans-pure _) (scans-two keeps-number)

pub scans-place : (version : ℕ) (nums : List ℕ) → Scans (read_place version tag_local) nums (scan_of number nums)
    × Scans (read_place version tag_parameter) nums (scan_of number nums) × Scans (read_place version tag_global) nums
    (scan_of number nums)
unfolding read_place
scans-place version nums = (
  scans-last keeps-number (scans-self number nums) (λ i. scans-pure _),
  scans-last keeps-number (scans-self number nums) (λ i. scans-pure _),
  scans-last keeps-number (scans-self number nums) (λ i. scans-pure _),
)

module _ (version : ℕ) (nums : List ℕ) (operand : Reader Expr) (h : Keeps operand) where
  abbrev after : ℕ → ℕ → ℕ → Scan
  after next operands statements = scan_of (repeat operands operand) nums next

  one-operand : {A : Type 0} {k : Expr → Reader A} → ((a : Expr) → Scans (k a) nums Past)
      → Scans (operand >>= k) nums (scan_of (repeat 1 operand) nums)
  one-operand g = scans-as (scans-last h (scans-self operand nums) g) (scans-one h)

  two_operands : {A : Type 0} {k : Expr → Expr → Reader A} → ((a b : Expr) → Scans (k a b) nums Past)
      → Scans (operand >>= λ a. operand >>= k a) nums (scan_of (repeat 2 operand) nums)
  two_operands g =
      scans-as (scans-then h (scans-self operand nums) λ a. scans-last h (scans-self operand nums) (g a))
      (scans-two h)

  lead-as : (tag : ExprTag) (i at : ℕ) → scan_of (read_expr_as version tag i operand) nums (suc at)
      ≡ on_lead (expr_lead version (form_of (some tag)) nums at) after
  unfolding read_expr_as expr_lead form_of on_lead lead_by
  lead-as tag_bool i at =
      rw (← add-one at) ((lead-scan after 0 0 keeps-number (scans-self number nums) (λ n. scans-none operand _)).scan
      (at + 1))
  lead-as tag_bits i at =
      rw (← add-one at, (scans-literal nums).scan (at + 1))
      ((lead-two after 0 0 (keeps-between 1 widest) (λ w. keeps-number) (scans-self (between 1 widest) nums)
      (λ w. scans-self number nums) (λ w n. scans-none operand _)).scan (at + 1))
  lead-as (tag_place tag_local) i at =
      rw (← add-one at) ((lead-scan after 0 0 (keeps-place version tag_local) (scans-place version nums).0
      (λ p. scans-none operand _)).scan (at + 1))
  lead-as (tag_place tag_parameter) i at =
      rw (← add-one at) ((lead-scan after 0 0 (keeps-place version tag_parameter) (scans-place version nums).1
      (λ p. scans-none operand _)).scan (at + 1))
  lead-as (tag_place tag_global) i at =
      rw (← add-one at) ((lead-scan after 0 0 (keeps-place version tag_global) (scans-place version nums).2
      (λ p. scans-none operand _)).scan (at + 1))
  lead-as (tag_place tag_field) i at =
      rw (← add-one at) ((lead-scan after 0 0 (keeps-place version tag_field) (scans-field version nums)
      (λ p. scans-none operand _)).scan (at + 1))
  lead-as tag_valid i at =
      rw (← add-one at) ((lead-scan after 0 0 keeps-number (scans-self number nums) (λ n. scans-none operand _)).scan
      (at + 1))
  lead-as tag_not i at = rw (← add-one at) ((one-operand (λ a. scans-pure _)).scan (at + 1))
  lead-as tag_complement i at = rw (← add-one at) ((one-operand (λ a. scans-pure _)).scan (at + 1))
  lead-as tag_binary i at =
      rw (← add-one at) ((lead-scan after 2 0 (keeps-stands _) (scans-self _ nums)
      (λ o. two_operands (λ a b. scans-pure _))).scan (at + 1))
  lead-as tag_cast i at =
      rw (← add-one at) ((lead-scan after 1 0 (keeps-between 1 widest) (scans-self _ nums)
      (λ w. one-operand (λ a. scans-pure _))).scan (at + 1))
  lead-as tag_slice i at =
      rw (← add-one at, (scans-two (keeps-between 0 highest_bound)).scan (at + 1))
      ((lead-two after 1 0 (keeps-between 0 highest_bound) (λ u. keeps-between 0 highest_bound) (scans-self _ nums)
      (λ u. scans-self _ nums)
      (λ u v. one-operand (λ a. scans-pure _))).scan (at + 1))
  lead-as tag_concatenation i at = rw (← add-one at) ((two_operands (λ a b. scans-pure _)).scan (at + 1))
  lead-as tag_call i at = rw (← add-one at) ((call-scan after h (λ f xs. scans-pure _) (λ next n. refl)).scan (at + 1))

-- an expression is its lead and its operands
module _ (version depth : ℕ) (nums : List ℕ) (at : ℕ) where
  behind : ℕ → Reader Expr
  behind i = stands_for (get_elem? (expr_tags version)) >>= λ tag. read_expr_as version tag i (read_expr version depth)

  operands-of : ℕ → ℕ → ℕ → Scan
  operands-of next operands statements = scan_of (repeat operands (read_expr version depth)) nums next

  expr-scan : at < length nums → scan_of (read_expr version (suc depth)) nums at
      ≡ on_lead (expr_lead version (expr_form version (get_or nums at 0)) nums at) operands-of
  unfolding read_expr expr_form behind operands-of
  expr-scan h = scan-here nums at behind ∙ go (get_elem? (expr_tags version) (get_or nums at 0)) refl
    where
      go : (x : Option ExprTag) → get_elem? (expr_tags version) (get_or nums at 0) ≡ x
          → scan_of (behind at) nums at ≡ on_lead (expr_lead version (form_of x) nums at) operands-of
      go none e =
          stands-none (get_elem? (expr_tags version)) (λ tag. read_expr_as version tag at
          (read_expr version depth)) nums at h e
          ∙ unlisted version nums at operands-of
      go (some tag) e =
          stands-is (get_elem? (expr_tags version)) (λ tag. read_expr_as version tag at
          (read_expr version depth)) nums at tag h e
          ∙ lead-as version nums (read_expr version depth) (keeps-expr version depth) tag at at

  expr-missing : length nums ≤ at → scan_of (read_expr version (suc depth)) nums at ≡ Fault 4 at
  unfolding read_expr behind
  expr-missing h = scan-here nums at behind
      ∙ stands-out (get_elem? (expr_tags version)) (λ tag. read_expr_as version tag at (read_expr version depth)) nums at h

-- the slots of an expression are those of its operands and its own
pub args-at : (version : ℕ) (xs : List Expr) (end : ℕ) → args_at (to_args version xs) end ≡ first_at expr_at xs end
unfolding args_at to_args first_at
args-at version [] end = refl
args-at version (x ∷ xs) end = refl

pub args-laid : (version : ℕ) (xs : List Expr) (end : ℕ) (slots : List ℕ)
    → lay_args (to_args version xs) end slots ≡ lay_exprs xs end slots
unfolding lay_args to_args lay_all
args-laid version [] end slots = refl
args-laid version (x ∷ xs) end slots =
    rw (args-at version xs end) (args-laid version xs end (lay_expr x (first_at expr_at xs end) slots))

-- what holds of an expression and its operands, at each tag
pub record ExprNodes (version at : ℕ) (P : Expr → List Expr → Type 0) : Type 0 where
  pub bool-node : (n : ℕ) → P (bool_literal at n) []
  pub bits-node : (width n : ℕ) → P (bits_literal at width n) []
  pub read-node : (p : Place) → P (read_of at p) []
  pub valid-node : (g : ℕ) → P (valid_of at g) []
  pub not-node : (a : Expr) → P (negation at a) (a ∷ [])
  pub complement-node : (a : Expr) → P (complement at a) (a ∷ [])
  pub binary-node : (o : Operator) (a b : Expr) → P (binary at o a b) (a ∷ b ∷ [])
  pub cast-node : (width : ℕ) (a : Expr) → P (cast at width a) (a ∷ [])
  pub slice-node : (high low : ℕ) (a : Expr) → P (slice at high low a) (a ∷ [])
  pub concatenation-node : (a b : Expr) → P (concatenation at a b) (a ∷ b ∷ [])
  pub call-node : (f : ℕ) (xs : List Expr) → P (call_expr at f (to_args version xs)) xs

module _ (version depth : ℕ) (nums : List ℕ) (at : ℕ) (P : Expr → List Expr → Type 0) (N : ExprNodes version at P)
  where
    abbrev operand : Reader Expr
    operand = read_expr version depth

    abbrev parts : ℕ → ℕ → Reader (List Expr)
    parts = read_operands version depth

    none_read : (left : List ℕ) (i : ℕ) → parts 0 0 left i ≡ got [] left i
    unfolding read_operands repeat pure
    none_read left i = refl

    tree-as : (tag : ExprTag)
        → AgreeOn P (read_expr_as version tag at operand (drop (at + 1) nums) (at + 1)) parts nums
        (expr_lead version (form_of (some tag)) nums at)
    unfolding read_expr_as read_operands read_place expr_lead form_of
    tree-as tag_bool =
        agree-none P parts nums (at + 1) _ [] _ _ _ (gives_then _ λ n. gives-pure _ _ (N.bool-node n)) none_read
    tree-as tag_bits =
        agree-none P parts nums (at + 1) _ [] _ _ _
        (gives_then _ λ w. gives_then _ λ n. gives-pure _ _ (N.bits-node w n)) none_read
    tree-as (tag_place tag_local) =
        agree-none P parts nums (at + 1) _ [] _ _ _ (gives_then _ λ p. gives-pure _ _ (N.read-node p)) none_read
    tree-as (tag_place tag_parameter) =
        agree-none P parts nums (at + 1) _ [] _ _ _ (gives_then _ λ p. gives-pure _ _ (N.read-node p)) none_read
    tree-as (tag_place tag_global) =
        agree-none P parts nums (at + 1) _ [] _ _ _ (gives_then _ λ p. gives-pure _ _ (N.read-node p)) none_read
    tree-as (tag_place tag_field) =
        agree-none P parts nums (at + 1) _ [] _ _ _ (gives_then _ λ p. gives-pure _ _ (N.read-node p)) none_read
    tree-as tag_valid =
        agree-none P parts nums (at + 1) _ [] _ _ _ (gives_then _ λ g. gives-pure _ _ (N.valid-node g)) none_read
    tree-as tag_not = behind-tag P parts nums at 1 0 (alike-one P operand _ N.not-node)
    tree-as tag_complement = behind-tag P parts nums at 1 0 (alike-one P operand _ N.complement-node)
    tree-as tag_binary =
        agree-lead P parts nums (at + 1) 2 0 (keeps-stands _) λ o. alike-two P operand _ (N.binary-node o)
    tree-as tag_cast =
        agree-lead P parts nums (at + 1) 1 0 (keeps-between 1 widest) λ w. alike-one P operand _ (N.cast-node w)
    tree-as tag_slice =
        agree-two P parts nums (at + 1) 1 0 (keeps-between 0 highest_bound) λ u v.
        alike-one P operand _ (N.slice-node u v)
    tree-as tag_concatenation = behind-tag P parts nums at 2 0 (alike-two P operand _ N.concatenation-node)
    tree-as tag_call =
        agree-call P parts nums (at + 1) operand _ λ f n. alike_all P (repeat n operand) _ (N.call-node f)

    pub expr_agrees : at < length nums
        → AgreeOn P (read_expr version (suc depth) (drop at nums) at) parts nums
        (expr_lead version (expr_form version (get_or nums at 0)) nums at)
    unfolding read_expr expr_form here ◌>>=◌ and_then stands_for meaning AgreeOn expr_lead form_of
    expr_agrees h =
        rw (looked-in 4 (get_elem? (expr_tags version)) nums at h) (go (get_elem? (expr_tags version) (get_or nums at 0)))
      where
        go : (x : Option ExprTag)
            → AgreeOn P
            (and_then (meaning 4 x (drop (suc at) nums) at) (λ tag. read_expr_as version tag at operand)) parts nums
            (expr_lead version (form_of x) nums at)
        go none = tt
        go (some tag) = rw (← add-one at) (tree-as tag)

made-nodes : (version at next : ℕ) (slots : List ℕ)
    → ExprNodes version at (Made (first_at expr_at) lay_expr lay_exprs at next slots slots)
unfolding lay_expr lay_all first_at
made-nodes version at next slots = record {
  bool-node = λ n. record { made = λ end q. refl };
  bits-node = λ w n. record { made = λ end q. refl };
  read-node = λ p. record { made = λ end q. refl };
  valid-node = λ g. record { made = λ end q. refl };
  not-node = λ a. record { made = λ end q. refl };
  complement-node = λ a. record { made = λ end q. refl };
  binary-node = λ o a b. record { made = λ end q. refl };
  cast-node = λ w a. record { made = λ end q. refl };
  slice-node = λ h l a. record { made = λ end q. refl };
  concatenation-node = λ a b. record { made = λ end q. refl };
  call-node = λ f xs. record { made = λ end q. rw (args-laid version xs end slots) };
}

pub leads-is : (version : ℕ) (nums : List ℕ) (at : ℕ) (f : ExprForm) (r : Lead) → at < length nums
    → f ≡ expr_form version (get_or nums at 0)
    → r ≡ expr_lead version f nums at → LeadsExpr version nums at r
unfolding operands-of
leads-is version nums at f r h e q =
    record {
      expr = λ depth. rw (q, e) (expr-scan version depth nums at h);
      tree = λ depth slots. rw (q, e) (expr_agrees version depth nums at _ (made-nodes version at _ slots) h);
      tag = rw q (tag_in nums at (expr_lead version f nums at) h);
    }

pub leads-missing : (version : ℕ) (nums : List ℕ) (at : ℕ) → length nums ≤ at → LeadsExpr version nums at (Off 4 at)
unfolding on_lead AgreeOn Tagged
leads-missing version nums at h =
    record { expr = λ depth. expr-missing version depth nums at h; tree = λ depth slots. tt; tag = tt }

pub ruleset exprs = (leads-is, leads-missing)

-- the steps of the cycle of expressions
pub one_less : (n : ℕ) → (n ≡ 0 → ⊥) → suc (n - 1) ≡ n
one_less n x = omega arith

-- an expression carries its tag's index
gives-expr : (version : ℕ) (tag : ExprTag) (at : ℕ) (operand : Reader Expr)
    → Gives (λ e. expr_at e ≡ at) (read_expr_as version tag at operand)
unfolding read_expr_as expr_at
gives-expr version tag_bool at operand = gives_then _ λ n. gives-pure _ _ refl
gives-expr version tag_bits at operand = gives_then _ λ w. gives_then _ λ n. gives-pure _ _ refl
gives-expr version (tag_place t) at operand = gives_then _ λ p. gives-pure _ _ refl
gives-expr version tag_valid at operand = gives_then _ λ g. gives-pure _ _ refl
gives-expr version tag_not at operand = gives_then _ λ a. gives-pure _ _ refl
gives-expr version tag_complement at operand = gives_then _ λ a. gives-pure _ _ refl
gives-expr version tag_binary at operand =
    gives_then _ λ o. gives_then _ λ a. gives_then _ λ b. gives-pure _ _ refl
gives-expr version tag_cast at operand = gives_then _ λ w. gives_then _ λ a. gives-pure _ _ refl
gives-expr version tag_slice at operand =
    gives_then _ λ h. gives_then _ λ l. gives_then _ λ a. gives-pure _ _ refl
gives-expr version tag_concatenation at operand = gives_then _ λ a. gives_then _ λ b. gives-pure _ _ refl
gives-expr version tag_call at operand = gives_then _ λ f. gives_then _ λ xs. gives-pure _ _ refl

pub starts-expr : (version depth : ℕ) → Starts expr_at (read_expr version depth)
unfolding read_expr
starts-expr version zero = starts-deep expr_at
starts-expr version (suc depth) = starts-here λ at. gives_then _ λ tag. gives-expr version tag at _

-- what stands in a construct is laid, and then its own slot
pub construct : {A B : Type 0} {lay : A → ℕ → List ℕ → List ℕ} {lay_parts : B → ℕ → List ℕ → List ℕ} {read : Reader A}
    {parts : Reader B} {start : B → ℕ → ℕ} {nums : List ℕ} {at next end : ℕ} {found first mid : List ℕ} {a : Scan}
    → Keeps parts → Begins start parts
    → Agree (Made start lay lay_parts at next found first) (read (drop at nums) at) (parts (drop next nums) next)
    → Past end ≡ scan_of read nums at → Lays parts lay_parts nums next first mid a → a ≡ Past end
    → Lays read lay nums at found (set mid at end) (Past end)
unfolding scan_of forget Laid Agree BegunAt
construct {A} {B} {lay} {lay_parts} {read} {parts} {start} {nums} {at} {next} {end} {found} {first} {mid} {a} h s t e w
    p =
    let d : (b : B) × Done parts lay_parts nums next first mid end b = lays-done h w end p in
    let b : start d.0 end ≡ next = rw d.1.gave at (s.begun (drop next nums) next) in
    record { scan = e; laid = go d.0 (read (drop at nums) at) e b (rw d.1.gave at t) d.1.laid }
  where
    go : (b : B) (x : Got A) → Past end ≡ forget x → start b end ≡ next
        → Agree (Made start lay lay_parts at next found first) x (got b (drop end nums) end)
        → mid ≡ lay_parts b end first → Laid x lay found (set mid at end)
    go b (got c left m) q n u l =
        let same : m ≡ end = cc in
        rw (same, l) (sym (u.made end n))
    go b (bad fault index) q n u l = tt

module _ (version depth : ℕ) (nums : List ℕ) (at : ℕ) (found : List ℕ) where
  pub expr-deep : (r : Scan) → depth ≡ 0 → r ≡ scan_of (too_deep {A = ℕ}) nums at
      → Lays (read_expr version depth) lay_expr nums at found found r
  unfolding read_expr
  expr-deep r e q = rw e (lays-deep lay_expr nums at found found r q)

  module _ (x : depth ≡ 0 → ⊥) where
    pub expr-off : (f i : ℕ) → LeadsExpr version nums at (Off f i)
        → Lays (read_expr version depth) lay_expr nums at found found (Fault f i)
    unfolding on_lead
    expr-off f i l =
        lays-none (read_expr version depth) lay_expr nums at f i found found
        (sym (rw (one_less depth x) at (l.expr (depth - 1))))

    module _ (next operands statements : ℕ) (l : LeadsExpr version nums at (On next operands statements)) where
      expr-tree-on : Agree (Made (first_at expr_at) lay_expr lay_exprs at next found found)
          (read_expr version depth (drop at nums) at)
          (repeat operands (read_expr version (depth - 1)) (drop next nums) next)
      unfolding AgreeOn read_operands next_of
      expr-tree-on = rw (one_less depth x) at (l.tree (depth - 1) found)

      expr-scan-on : (r : Scan) → r ≡ scan_of (repeat operands (read_expr version (depth - 1))) nums next
          → r ≡ scan_of (read_expr version depth) nums at
      unfolding on_lead
      expr-scan-on r q = q ∙ sym (rw (one_less depth x) at (l.expr (depth - 1)))

      module _ (mid : List ℕ) (a : Scan)
          (w : Lays (repeat operands (read_expr version (depth - 1))) lay_exprs nums next found mid a) where
        pub expr-on : (end : ℕ) → a ≡ Past end
            → Lays (read_expr version depth) lay_expr nums at found (set mid at end) (Past end)
        expr-on end q =
            construct (keeps-repeat operands (keeps-expr version (depth - 1)))
            (begins-repeat operands (starts-expr version (depth - 1))) expr-tree-on
            (sym q ∙ expr-scan-on a w.scan) w q

        pub expr-inside : (f i : ℕ) → a ≡ Fault f i
            → Lays (read_expr version depth) lay_expr nums at found mid (Fault f i)
        expr-inside f i q =
            lays-none (read_expr version depth) lay_expr nums at f i found mid (sym q ∙ expr-scan-on a w.scan)

-- a tag has a slot
module _ (version : ℕ) (nums : List ℕ) (at next operands statements : ℕ) (h : length nums ≤ most_numbers)
    (l : LeadsExpr version nums at (On next operands statements)) where
  pub slot-in : at < most_numbers
  unfolding Tagged
  slot-in = omega (arith, l.tag)

  pub slot-fits : at * 8 < 2 ^ 64
  slot-fits = omega (arith, slot-in)

pub ruleset expr_steps = (expr-deep, expr-on, expr-inside, expr-off, slot-in, slot-fits)

pub ruleset expr_lists = (keeps-expr, starts-expr, pendings)
