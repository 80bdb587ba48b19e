-- How an expression or a statement is scanned: its lead, which is its tag and the numbers behind it, then its operands,
-- then its statements. What the functions below the public ones promise one another.
use Rattle.std.specs.Prelude.{true, false, List, ℕ, suc, ◌+◌, ◌-◌, ◌<◌, ◌≡◌, length, drop, set, Result, Ok, Err}
use Rattle.std.proofs.Math.Option.{Option, none, some}
use Rattle.std.proofs.Math.ListN.{get_elem?}
use Rattle.rules.specs.Words.{widest}
use Rattle.rules.specs.Syntax.{Expr, Stmt}
use Rattle.rules.specs.Reading.{Got, got, bad, Reader, ◌>>=◌, pure, number, between, stands_for, repeat, most_arguments, most_members, most_error, highest_bound}
use Rattle.rules.specs.Reading.{PlaceTag, tag_local, tag_parameter, tag_global, tag_field, ExprTag, tag_bool, tag_bits, tag_place, tag_valid, tag_not, tag_complement, tag_binary, tag_cast, tag_slice, tag_concatenation, tag_call}
use Rattle.rules.specs.Reading.{StmtTag, tag_empty, tag_assign, tag_if, tag_block, tag_call_stmt, tag_apply, tag_return_value, tag_return, tag_exit, tag_set_valid, tag_set_invalid, tag_extract, tag_verify}
use Rattle.rules.specs.Reading.{operators, expr_tags, place_tag_of, has_parser, stmt_tags, read_expr, read_target, read_stmt}
use Rattle.rules.specs.Answers.{number_of}
use Rattle.rules.specs.declared.Fault as rules
use Rattle.shape.specs.declared.looks.Number as looks
use Rattle.shape.specs.declared.expressions.Lead as expressions
use Rattle.shape.specs.declared.statements.PlaceForm.{PlaceForm}
use Rattle.shape.specs.declared.statements.PlaceForm.TheVariants.{OneNumber, TwoNumbers, NoPlace}
use Rattle.shape.specs.declared.statements.StmtForm.{StmtForm}
use Rattle.shape.specs.declared.statements.StmtForm.TheVariants.{Bare, Assign, If, Block, CallStmt, Named, Returned, Verified, NoStmt}
use Rattle.shape.specs.declared.expressions.ExprForm.{ExprForm}
use Rattle.shape.specs.declared.expressions.ExprForm.TheVariants.{Number, Field, Literal, Operand, Binary, Cast, Slice, Operands, Call, Unlisted}
use Rattle.shape.specs.Scans.{Scan, Past, Fault, scan_of}
use Rattle.shape.specs.Directory.{stmt_at}
use Rattle.shape.specs.Ends.{expr_at, lay_expr, lay_stmt, first_at, lay_all}

-- one thing behind another
unfoldable pub on_scan : Scan → (ℕ → Scan) → Scan
on_scan (Past next) k = k next
on_scan (Fault number index) k = Fault number index

-- a literal's width and value
unfoldable pub read_literal : Reader ℕ
read_literal = between 1 widest >>= λ width. number

-- a number from a least to a most, with its value and the index after it
pub data Value : Type 0 where
  Of : ℕ → ℕ → Value
  Unread : ℕ → ℕ → Value

abbrev pub told_value : Result looks.Number rules.Fault → Value
told_value (Ok n) = Of n.value n.next
told_value (Err f) = Unread (number_of f.reason) f.index

unfoldable pub valued : Got ℕ → Value
valued (got n left next) = Of n next
valued (bad number index) = Unread number index

unfoldable pub value_of : ℕ → ℕ → List ℕ → ℕ → Value
value_of least most nums at = valued (between least most (drop at nums) at)

unfoldable pub on_value : Value → (ℕ → ℕ → Scan) → Scan
on_value (Of n next) k = k n next
on_value (Unread number index) k = Fault number index

-- a lead read so far: where what follows it begins, and how many operands and statements that is
pub data Lead : Type 0 where
  On : ℕ → ℕ → ℕ → Lead
  Off : ℕ → ℕ → Lead

abbrev pub told_lead : Result expressions.Lead rules.Fault → Lead
told_lead (Ok l) = On l.next l.operands l.statements
told_lead (Err f) = Off (number_of f.reason) f.index

unfoldable pub lead_by : Scan → ℕ → ℕ → Lead
lead_by (Past next) operands statements = On next operands statements
lead_by (Fault number index) operands statements = Off number index

unfoldable pub on_lead : Lead → (ℕ → ℕ → ℕ → Scan) → Scan
on_lead (On next operands statements) k = k next operands statements
on_lead (Off number index) k = Fault number index

-- a call up to its arguments: the callable's number, then the count
unfoldable pub arguments_lead : Value → Lead
arguments_lead (Of count next) = On next count 0
arguments_lead (Unread number index) = Off number index

unfoldable pub call_lead : List ℕ → Scan → Lead
call_lead nums (Past next) = arguments_lead (value_of 0 most_arguments nums next)
call_lead nums (Fault number index) = Off number index

-- what stands behind an expression's tag
unfoldable pub form_of : Option ExprTag → ExprForm
form_of none = Unlisted
form_of (some tag_bool) = Number
form_of (some tag_bits) = Literal
form_of (some (tag_place tag_local)) = Number
form_of (some (tag_place tag_parameter)) = Number
form_of (some (tag_place tag_global)) = Number
form_of (some (tag_place tag_field)) = Field
form_of (some tag_valid) = Number
form_of (some tag_not) = Operand
form_of (some tag_complement) = Operand
form_of (some tag_binary) = Binary
form_of (some tag_cast) = Cast
form_of (some tag_slice) = Slice
form_of (some tag_concatenation) = Operands
form_of (some tag_call) = Call

unfoldable pub expr_form : ℕ → ℕ → ExprForm
expr_form version n = form_of (get_elem? (expr_tags version) n)

unfoldable pub expr_lead : ℕ → ExprForm → List ℕ → ℕ → Lead
expr_lead version Number nums at = lead_by (scan_of number nums (at + 1)) 0 0
expr_lead version Field nums at = lead_by (scan_of (repeat 2 number) nums (at + 1)) 0 0
expr_lead version Literal nums at = lead_by (scan_of read_literal nums (at + 1)) 0 0
expr_lead version Operand nums at = lead_by (Past (at + 1)) 1 0
expr_lead version Binary nums at = lead_by (scan_of (stands_for (get_elem? (operators version))) nums (at + 1)) 2 0
expr_lead version Cast nums at = lead_by (scan_of (between 1 widest) nums (at + 1)) 1 0
expr_lead version Slice nums at = lead_by (scan_of (repeat 2 (between 0 highest_bound)) nums (at + 1)) 1 0
expr_lead version Operands nums at = lead_by (Past (at + 1)) 2 0
expr_lead version Call nums at = call_lead nums (scan_of number nums (at + 1))
expr_lead version Unlisted nums at = Off 4 at

-- what stands in a construct besides its lead, and how both are read
unfoldable pub Agree : {A B : Type 0} → (A → B → Type 0) → Got A → Got B → Type 0
Agree P (got a left next) (got b rest end) = P a b
Agree P (got a left next) (bad number index) = Unit
Agree P (bad number index) y = Unit

unfoldable pub AgreeOn : {A B : Type 0} → (A → B → Type 0) → Got A → (ℕ → ℕ → Reader B) → List ℕ → Lead → Type 0
AgreeOn P x parts nums (On next operands statements) = Agree P x (parts operands statements (drop next nums) next)
AgreeOn P x parts nums (Off number index) = Unit

-- where the parts begin
unfoldable pub next_of : Lead → ℕ
next_of (On next operands statements) = next
next_of (Off number index) = 0

-- the slots of a construct, whose parts begin at an index, are those of its parts and its own tag's
pub record Made {A B : Type 0} (start : B → ℕ → ℕ) (lay : A → ℕ → List ℕ → List ℕ)
    (lay_parts : B → ℕ → List ℕ → List ℕ) (at next : ℕ) (found mid : List ℕ) (a : A) (b : B) : Type 0 where
  pub made : (end : ℕ) → start b end ≡ next → lay a end found ≡ set (lay_parts b end mid) at end

abbrev pub lay_exprs : List Expr → ℕ → List ℕ → List ℕ
lay_exprs = lay_all expr_at lay_expr

abbrev pub lay_members : List Stmt → ℕ → List ℕ → List ℕ
lay_members = lay_all stmt_at lay_stmt

unfoldable pub read_operands : ℕ → ℕ → ℕ → ℕ → Reader (List Expr)
read_operands version depth operands statements = repeat operands (read_expr version depth)

unfoldable pub read_parts : ℕ → ℕ → ℕ → ℕ → Reader (List Expr × List Stmt)
read_parts version depth operands statements =
    repeat operands (read_expr version depth) >>= λ xs. repeat statements (read_stmt version depth) >>= λ ss.
    pure (xs, ss)

unfoldable pub parts_at : List Expr × List Stmt → ℕ → ℕ
parts_at p end = first_at expr_at p.0 (first_at stmt_at p.1 end)

unfoldable pub lay_parts : List Expr × List Stmt → ℕ → List ℕ → List ℕ
lay_parts p end slots = lay_members p.1 end (lay_exprs p.0 (first_at stmt_at p.1 end) slots)

-- the tag is a number of the list
unfoldable pub Tagged : List ℕ → ℕ → Lead → Type 0
Tagged nums at (On next operands statements) = at < length nums
Tagged nums at (Off number index) = Unit

-- the lead of an expression at an index: with its operands it is the expression, at whatever depth
pub record LeadsExpr (version : ℕ) (nums : List ℕ) (at : ℕ) (lead : Lead) : Type 0 where
  pub expr : (depth : ℕ) → scan_of (read_expr version (suc depth)) nums at
      ≡ on_lead lead (λ next operands statements. scan_of (repeat operands (read_expr version depth)) nums next)
  pub tree : (depth : ℕ) (slots : List ℕ)
      → AgreeOn (Made (first_at expr_at) lay_expr lay_exprs at (next_of lead) slots slots)
      (read_expr version (suc depth) (drop at nums) at) (read_operands version depth) nums lead
  pub tag : Tagged nums at lead

-- what stands behind the tag of an assignment's target
unfoldable pub place_form_of : Option PlaceTag → PlaceForm
place_form_of none = NoPlace
place_form_of (some tag_local) = OneNumber
place_form_of (some tag_parameter) = OneNumber
place_form_of (some tag_global) = OneNumber
place_form_of (some tag_field) = TwoNumbers

unfoldable pub place_form : ℕ → ℕ → PlaceForm
place_form version n = place_form_of (place_tag_of version (get_elem? (expr_tags version) n))

unfoldable pub place_scan : PlaceForm → List ℕ → ℕ → Scan
place_scan OneNumber nums at = scan_of number nums (at + 1)
place_scan TwoNumbers nums at = scan_of (repeat 2 number) nums (at + 1)
place_scan NoPlace nums at = Fault 4 at

-- what stands behind a statement's tag
unfoldable pub stmt_form_of : Option StmtTag → StmtForm
stmt_form_of none = NoStmt
stmt_form_of (some tag_empty) = Bare
stmt_form_of (some tag_assign) = Assign
stmt_form_of (some tag_if) = If
stmt_form_of (some tag_block) = Block
stmt_form_of (some tag_call_stmt) = CallStmt
stmt_form_of (some tag_apply) = Named
stmt_form_of (some tag_return_value) = Returned
stmt_form_of (some tag_return) = Bare
stmt_form_of (some tag_exit) = Bare
stmt_form_of (some tag_set_valid) = Named
stmt_form_of (some tag_set_invalid) = Named
stmt_form_of (some tag_extract) = Named
stmt_form_of (some tag_verify) = Verified

unfoldable pub stmt_form : ℕ → ℕ → StmtForm
stmt_form version n = stmt_form_of (get_elem? (stmt_tags version) n)

-- a form that only versions with a parser have
unfoldable pub parser_form : ℕ → StmtForm → StmtForm
parser_form version form = elim (has_parser version) [ true ↦ form | false ↦ NoStmt ]

-- a block up to its members
unfoldable pub block_lead : Value → Lead
block_lead (Of count next) = On next 0 count
block_lead (Unread number index) = Off number index

-- a verify's condition and error: nothing follows them, so they belong to the lead
unfoldable pub read_verify : ℕ → ℕ → Reader (Expr × ℕ)
read_verify version depth = read_expr version depth >>= λ c. between 0 most_error >>= λ e. pure (c, e)

unfoldable pub stmt_lead : ℕ → ℕ → StmtForm → List ℕ → ℕ → Lead
stmt_lead version depth Bare nums at = lead_by (Past (at + 1)) 0 0
stmt_lead version depth Assign nums at = lead_by (scan_of (read_target version depth) nums (at + 1)) 1 0
stmt_lead version depth If nums at = lead_by (Past (at + 1)) 1 2
stmt_lead version depth Block nums at = block_lead (value_of 0 most_members nums (at + 1))
stmt_lead version depth CallStmt nums at = call_lead nums (scan_of number nums (at + 1))
stmt_lead version depth Named nums at = lead_by (scan_of number nums (at + 1)) 0 0
stmt_lead version depth Returned nums at = lead_by (Past (at + 1)) 1 0
stmt_lead version depth Verified nums at = lead_by (scan_of (read_verify version depth) nums (at + 1)) 0 0
stmt_lead version depth NoStmt nums at = Off 4 at

-- the lead of an assignment, and the end of its target
unfoldable pub laid_target : Scan → ℕ → List ℕ → List ℕ
laid_target (Past next) at slots = set slots at next
laid_target (Fault number index) at slots = slots

pub record LeadsTarget (version depth : ℕ) (nums : List ℕ) (at : ℕ) (found mid : List ℕ) (r : Lead) : Type 0 where
  pub lead : r ≡ lead_by (scan_of (read_target version depth) nums at) 1 0
  pub laid : mid ≡ laid_target (scan_of (read_target version depth) nums at) at found

-- and of a verify, with the end of its condition; a lead that is off tells nothing of the slots
unfoldable pub laid_verify : Got (Expr × ℕ) → List ℕ → List ℕ
laid_verify (got v left next) slots = lay_expr v.0 (next - 1) slots
laid_verify (bad number index) slots = slots

unfoldable pub LaidOn : Lead → List ℕ → List ℕ → Type 0
LaidOn (On next operands statements) mid slots = mid ≡ slots
LaidOn (Off number index) mid slots = Unit

pub record LeadsVerify (version depth : ℕ) (nums : List ℕ) (at : ℕ) (found mid : List ℕ) (r : Lead) : Type 0 where
  pub lead : r ≡ lead_by (scan_of (read_verify version depth) nums at) 0 0
  pub laid : LaidOn r mid (laid_verify (read_verify version depth (drop at nums) at) found)

unfoldable pub stmt_laid : ℕ → ℕ → StmtForm → List ℕ → ℕ → List ℕ → List ℕ
stmt_laid version depth Bare nums at slots = slots
stmt_laid version depth Assign nums at slots =
    laid_target (scan_of (read_target version depth) nums (at + 1)) (at + 1) slots
stmt_laid version depth If nums at slots = slots
stmt_laid version depth Block nums at slots = slots
stmt_laid version depth CallStmt nums at slots = slots
stmt_laid version depth Named nums at slots = slots
stmt_laid version depth Returned nums at slots = slots
stmt_laid version depth Verified nums at slots =
    laid_verify (read_verify version depth (drop (at + 1) nums) (at + 1)) slots
stmt_laid version depth NoStmt nums at slots = slots

pub record LeadsForm (version depth : ℕ) (form : StmtForm) (nums : List ℕ) (at : ℕ) (found mid : List ℕ)
    (r : Lead) : Type 0 where
  pub lead : r ≡ stmt_lead version depth form nums at
  pub laid : LaidOn r mid (stmt_laid version depth form nums at found)

-- the lead of a statement at an index, with so many levels allowed below it: with what follows it is the statement
pub record LeadsStmt (version depth : ℕ) (nums : List ℕ) (at : ℕ) (found mid : List ℕ) (lead : Lead) : Type 0 where
  pub stmt : scan_of (read_stmt version (suc depth)) nums at ≡ on_lead lead (λ next operands statements.
      on_scan (scan_of (repeat operands (read_expr version depth)) nums next)
      (scan_of (repeat statements (read_stmt version depth)) nums))
  pub tree : AgreeOn (Made parts_at lay_stmt lay_parts at (next_of lead) found mid)
      (read_stmt version (suc depth) (drop at nums) at) (read_parts version depth) nums lead
  pub tag : Tagged nums at lead
