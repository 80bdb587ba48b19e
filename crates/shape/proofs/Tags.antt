-- What stands behind an expression's tag: its numbers, its form by the tag, its lead by the form.
use mathlib.Core.Option.{none}
use mathlib.Core.Path.{◌≡◌, refl, sym, ◌∙◌}
use mathlib.Core.List.{List}
use Prim.Native.Nat.{ℕ, suc, ◌+◌, ◌≤◌}
use native.Mathlib.Omega.{arith}
use lib.ListN.{get_elem?}
use Rattle.rules.specs.Words.{widest}
use Rattle.rules.specs.Reading.{most_arguments, highest_bound}
use Rattle.rules.specs.Reading.{number, stands_for, between, repeat}
use Rattle.rules.specs.Reading.{operators, expr_tags}
use Rattle.rules.proofs.Predicates.{no_member}
use Rattle.rules.proofs.Readers.{keeps-number, keeps-between}
use Rattle.std.specs.Prelude.{Result, Ok, Err}
use Rattle.rules.specs.declared.Fault as rules
use Rattle.shape.specs.Scans.{told, scan_of, Scan, Past, Fault}
use Rattle.shape.specs.Leads.{told_lead, on_scan, read_literal, value_of, lead_by, on_lead, arguments_lead, call_lead, form_of, expr_form, expr_lead, Value, Of, Unread, Lead, On, Off}
use Rattle.shape.specs.declared.expressions.ExprForm.{ExprForm}
use Rattle.shape.specs.declared.expressions.ExprForm.TheVariants.{Number, Field, Literal, Operand, Binary, Cast, Slice, Operands, Call, Unlisted}
use Rattle.shape.proofs.Laws.{on-past, on-fault, Scans, scans-self, scans-then}
use Rattle.shape.proofs.Laws.{scans-two, spans-scan, spans-list}

-- the numbers behind a tag
module _ (nums : List ℕ) (at : ℕ) (a : Scan) where
  pub two_past : (n : ℕ) (r : Scan) → a ≡ scan_of number nums at → a ≡ Past n → r ≡ scan_of number nums n
      → r ≡ scan_of (repeat 2 number) nums at
  two_past n r e p q =
      on-past (scan_of number nums at) r n (scan_of number nums) (sym e ∙ p) q ∙ sym ((scans-two keeps-number).scan at)

  pub two-fault : (number₁ index : ℕ) → a ≡ scan_of number nums at → a ≡ Fault number₁ index
      → Fault number₁ index ≡ scan_of (repeat 2 number) nums at
  two-fault number₁ index e p =
      on-fault (scan_of number nums at) number₁ index (scan_of number nums) (sym e ∙ p)
      ∙ sym ((scans-two keeps-number).scan at)

  pub bounds-past : (n : ℕ) (r : Scan) → a ≡ scan_of (between 0 highest_bound) nums at → a ≡ Past n
      → r ≡ scan_of (between 0 highest_bound) nums n
      → r ≡ scan_of (repeat 2 (between 0 highest_bound)) nums at
  bounds-past n r e p q =
      on-past (scan_of (between 0 highest_bound) nums at) r n (scan_of (between 0 highest_bound) nums) (sym e ∙ p) q
      ∙ sym ((scans-two (keeps-between 0 highest_bound)).scan at)

  pub bounds-fault : (number₁ index : ℕ) → a ≡ scan_of (between 0 highest_bound) nums at → a ≡ Fault number₁ index
      → Fault number₁ index ≡ scan_of (repeat 2 (between 0 highest_bound)) nums at
  bounds-fault number₁ index e p =
      on-fault (scan_of (between 0 highest_bound) nums at) number₁ index (scan_of (between 0 highest_bound) nums)
      (sym e ∙ p)
      ∙ sym ((scans-two (keeps-between 0 highest_bound)).scan at)

pub scans-literal : (nums : List ℕ)
    → Scans read_literal nums (λ at. on_scan (scan_of (between 1 widest) nums at) (scan_of number nums))
unfolding read_literal
scans-literal nums = scans-then (keeps-between 1 widest) (scans-self (between 1 widest) nums) λ width.
    scans-self number nums

module _ (nums : List ℕ) (at : ℕ) (a : Scan) where
  pub literal-past : (n : ℕ) (r : Scan) → a ≡ scan_of (between 1 widest) nums at → a ≡ Past n
      → r ≡ scan_of number nums n
      → r ≡ scan_of read_literal nums at
  literal-past n r e p q =
      on-past (scan_of (between 1 widest) nums at) r n (scan_of number nums) (sym e ∙ p) q
      ∙ sym ((scans-literal nums).scan at)

  pub literal-fault : (number₁ index : ℕ) → a ≡ scan_of (between 1 widest) nums at → a ≡ Fault number₁ index
      → Fault number₁ index ≡ scan_of read_literal nums at
  literal-fault number₁ index e p =
      on-fault (scan_of (between 1 widest) nums at) number₁ index (scan_of number nums) (sym e ∙ p)
      ∙ sym ((scans-literal nums).scan at)

pub operator-is : (version : ℕ) (nums : List ℕ) (at : ℕ) (r : Scan) → r ≡ scan_of (between 0 13) nums at
    → r ≡ scan_of (stands_for (get_elem? (operators version))) nums at
operator-is version nums at r e = e ∙ sym (spans-scan nums at (spans-list (operators version) 13 refl))

pub ruleset numbers = (two_past, two-fault, bounds-past, bounds-fault, literal-past, literal-fault, operator-is)

-- leads, case by case
pub lead-on : (s : Result ℕ rules.Fault) (next operands statements : ℕ) → s ≡ Ok next
    → On next operands statements ≡ lead_by (told s) operands statements
unfolding lead_by
lead-on s next operands statements e = rw e

pub lead-off : (s : Result ℕ rules.Fault) (f : rules.Fault) (operands statements : ℕ) → s ≡ Err f
    → told_lead (Err f) ≡ lead_by (told s) operands statements
unfolding lead_by
lead-off s f operands statements e = rw e

pub arguments-on : (v w : Value) (count next : ℕ) → v ≡ w → v ≡ Of count next → On next count 0 ≡ arguments_lead w
unfolding arguments_lead
arguments-on v w count next e p = rw (← e, p)

pub arguments-off : (v w : Value) (number₁ index : ℕ) → v ≡ w → v ≡ Unread number₁ index
    → Off number₁ index ≡ arguments_lead w
unfolding arguments_lead
arguments-off v w number₁ index e p = rw (← e, p)

pub call-on : (nums : List ℕ) (s t : Scan) (next : ℕ) (r : Lead) → s ≡ t → s ≡ Past next
    → r ≡ arguments_lead (value_of 0 most_arguments nums next) → r ≡ call_lead nums t
unfolding call_lead
call-on nums s t next r e p q = rw (← e, p) q

pub call-off : (nums : List ℕ) (s t : Scan) (number₁ index : ℕ) → s ≡ t → s ≡ Fault number₁ index
    → Off number₁ index ≡ call_lead nums t
unfolding call_lead
call-off nums s t number₁ index e p = rw (← e, p)

pub ruleset leads = (lead-on, lead-off, arguments-on, arguments-off, call-on, call-off)

-- an expression's form by its tag
pub form-of : (version n tag : ℕ) (f : ExprForm) → n ≡ tag → f ≡ expr_form version tag → f ≡ expr_form version n
form-of version n tag f e q = rw e q

pub above : (n k : ℕ) → k ≤ n → (n ≡ k → ⊥) → suc k ≤ n
above n k h x = omega arith

pub form-none : (version n : ℕ) → (n ≡ 0 → ⊥) → (n ≡ 1 → ⊥) → (n ≡ 2 → ⊥) → (n ≡ 3 → ⊥) → (n ≡ 4 → ⊥) → (n ≡ 5 → ⊥)
    → (n ≡ 6 → ⊥)
    → (n ≡ 7 → ⊥) → (n ≡ 8 → ⊥) → (n ≡ 9 → ⊥) → (n ≡ 10 → ⊥) → (n ≡ 11 → ⊥) → (n ≡ 12 → ⊥) → (n ≡ 13 → ⊥)
    → Unlisted ≡ expr_form version n
unfolding expr_form form_of
form-none version n a b c d e f g h i j k l m o =
    let p : 4 ≤ n = above n 3 (above n 2 (above n 1 (above n 0 (omega arith) a) b) c) d in
    let q : 9 ≤ n = above n 8 (above n 7 (above n 6 (above n 5 (above n 4 p e) f) g) h) i in
    let r : 14 ≤ n = above n 13 (above n 12 (above n 11 (above n 10 (above n 9 q j) k) l) m) o in
    rw (no_member (expr_tags version) n r)

pub ruleset forms = (form-of, form-none)

pub unlisted : (version : ℕ) (nums : List ℕ) (at : ℕ) (K : ℕ → ℕ → ℕ → Scan)
    → Fault 4 at ≡ on_lead (expr_lead version (form_of none) nums at) K
unfolding expr_lead form_of on_lead
unlisted version nums at K = refl

-- the lead of an expression, by its form
module _ (version : ℕ) (nums : List ℕ) (at : ℕ) (form : ExprForm) (r : Lead) where
  pub number-lead : form ≡ Number → (s : Scan) → s ≡ scan_of number nums (at + 1) → r ≡ lead_by s 0 0
      → r ≡ expr_lead version form nums at
  unfolding expr_lead
  number-lead f s e q = rw (f, ← e) q

  pub field-lead : form ≡ Field → (s : Scan) → s ≡ scan_of (repeat 2 number) nums (at + 1) → r ≡ lead_by s 0 0
      → r ≡ expr_lead version form nums at
  unfolding expr_lead
  field-lead f s e q = rw (f, ← e) q

  pub literal-lead : form ≡ Literal → (s : Scan) → s ≡ scan_of read_literal nums (at + 1) → r ≡ lead_by s 0 0
      → r ≡ expr_lead version form nums at
  unfolding expr_lead
  literal-lead f s e q = rw (f, ← e) q

  pub operand-lead : form ≡ Operand → r ≡ lead_by (Past (at + 1)) 1 0 → r ≡ expr_lead version form nums at
  unfolding expr_lead
  operand-lead f q = rw f q

  pub binary-lead : form ≡ Binary → (s : Scan) → s ≡ scan_of (stands_for (get_elem? (operators version))) nums (at + 1)
      → r ≡ lead_by s 2 0
      → r ≡ expr_lead version form nums at
  unfolding expr_lead
  binary-lead f s e q = rw (f, ← e) q

  pub cast-lead : form ≡ Cast → (s : Scan) → s ≡ scan_of (between 1 widest) nums (at + 1) → r ≡ lead_by s 1 0
      → r ≡ expr_lead version form nums at
  unfolding expr_lead
  cast-lead f s e q = rw (f, ← e) q

  pub slice-lead : form ≡ Slice → (s : Scan) → s ≡ scan_of (repeat 2 (between 0 highest_bound)) nums (at + 1)
      → r ≡ lead_by s 1 0
      → r ≡ expr_lead version form nums at
  unfolding expr_lead
  slice-lead f s e q = rw (f, ← e) q

  pub operands-lead : form ≡ Operands → r ≡ lead_by (Past (at + 1)) 2 0 → r ≡ expr_lead version form nums at
  unfolding expr_lead
  operands-lead f q = rw f q

  pub call-lead : form ≡ Call → r ≡ call_lead nums (scan_of number nums (at + 1)) → r ≡ expr_lead version form nums at
  unfolding expr_lead
  call-lead f q = rw f q

pub unlisted-lead : (version : ℕ) (nums : List ℕ) (at : ℕ) (form : ExprForm) → form ≡ Unlisted
    → Off 4 at ≡ expr_lead version form nums at
unfolding expr_lead
unlisted-lead version nums at form f = rw f

pub ruleset expr_leads = (
  number-lead,
  field-lead,
  literal-lead,
  operand-lead,
  binary-lead,
  cast-lead,
  slice-lead,
  operands-lead,
  call-lead,
  unlisted-lead,
)
