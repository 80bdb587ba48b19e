-- Scanning a statement: lead, operands and members together are the statement, and what they lay is what it lays.
use mathlib.Core.Bool.{Bool, true, false}
use mathlib.Core.Option.{Option, none, some}
use mathlib.Core.Path.{◌≡◌, refl, sym, ◌∙◌}
use mathlib.Core.List.{List, [], ◌∷◌}
use Prim.Native.Nat.{ℕ, zero, suc, ◌+◌, ◌-◌, ◌*◌, ◌≤◌, ◌<◌, ◌^◌}
use native.Mathlib.Omega.{arith}
use native.Mathlib.Numerals.{add-one}
use lib.ListN.{length, get_or, drop, set, get_elem?}
use lib.Dec.{ltb}
use borrow.Author.Tests.{ltb-true, ltb-false}
use Rattle.rules.specs.Syntax.{Expr, Stmt, empty, assign, if_else, block, call_stmt, apply, return_value, return, exit, set_valid, set_invalid, extract, verify, Place}
use Rattle.rules.specs.Reading.{Got, got, bad, Reader, and_then, ◌>>=◌, pure, here, number, meaning, looked_up, stands_for, between, repeat, too_deep, most_members, most_error}
use Rattle.rules.specs.Reading.{PlaceTag}
use Rattle.rules.specs.Reading.{StmtTag, tag_empty, tag_assign, tag_if, tag_block, tag_call_stmt, tag_apply, tag_return_value, tag_return, tag_exit, tag_set_valid, tag_set_invalid, tag_extract, tag_verify}
use Rattle.rules.specs.Reading.{expr_tags, place_tag_of, stmt_tags, to_args, to_stmts, read_place, read_expr, read_target, read_stmt_as, read_stmt}
use Rattle.rules.proofs.Readers.{Keeps, keeps-number, keeps-between, keeps-list, keeps-place, keeps-expr, keeps-target, keeps-stmt, Kept, keeps_then, keeps-pure, keeps-repeat, looked-in, looked-out, Given, Gives, gives_then, gives-pure, Starts, starts-here, starts-deep}
use Rattle.shape.specs.Scans.{forget, scan_of, Scan, Past, Fault}
use Rattle.shape.specs.Directory.{stmt_at}
use Rattle.shape.specs.Ends.{most_numbers, expr_at, stmts_at, lay_expr, lay_stmt, lay_stmts, first_at, lay_all}
use Rattle.shape.specs.Walks.{Lays}
use Rattle.shape.specs.Leads.{Agree, AgreeOn, next_of, Made, Tagged, lay_exprs, lay_members, read_parts, parts_at, lay_parts, laid_target, read_verify, laid_verify, LaidOn, stmt_laid, LeadsForm, on_scan, value_of, on_value, lead_by, on_lead, block_lead, stmt_form_of, stmt_form, stmt_lead, LeadsStmt, Value, Of, Unread, Lead, On, Off}
use Rattle.shape.specs.declared.statements.StmtForm.{StmtForm}
use Rattle.shape.proofs.Laws.{on-past, on-fault, on_same, on-last, Scans, scans-self, scans-then, scans-pure, scans-last, scans-as, scan-here, stands-is, stands-none, stands-out}
use Rattle.shape.proofs.Laws.{repeat-none, scans-one, scans-two}
use Rattle.shape.proofs.Exprs.{one_less, lead-scan, lead-two, scans-list, call-scan, args-laid, starts-expr, construct}
use Rattle.shape.proofs.Agrees.{Alike, alike_then, alike-one, alike-two, alike_all, alike-assoc, alike-map, agree-none, agree-members, agree-call, behind-tag, tag_in, Latest, kept-latest}
use Rattle.shape.proofs.Lays.{lays-none, lays-deep, BegunAt, Begins, begins-repeat, begins-stands, lays-next, pendings}
use Rattle.shape.proofs.Targets.{unlisted, scans-verify}

-- what follows a lead: operands, then statements
module _ (version : ℕ) (nums : List ℕ) (operand : Reader Expr) (target : Reader (ℕ × Place)) (inner : Reader Stmt)
    (h : Keeps operand) (l : Keeps target) (i : Keeps inner) where
  abbrev after : ℕ → ℕ → ℕ → Scan
  after next operands statements =
      on_scan (scan_of (repeat operands operand) nums next) (scan_of (repeat statements inner) nums)

  after-operands : (next n : ℕ) → after next n 0 ≡ scan_of (repeat n operand) nums next
  after-operands next n =
      on_same (scan_of (repeat n operand) nums next) (scan_of (repeat 0 inner) nums) Past
      (λ m. sym (repeat-none inner nums 0 m refl))
      ∙ on-last (scan_of (repeat n operand) nums next)

  nothing : {A : Type 0} (a : A) → Scans (pure a) nums (λ next. after next 0 0)
  unfolding repeat scan_of forget pure on_scan
  nothing a = record { scan = λ at. refl }

  one-operand : {A : Type 0} {k : Expr → Reader A} → ((a : Expr) → Scans (k a) nums Past)
      → Scans (operand >>= k) nums (λ next. after next 1 0)
  one-operand g =
      record {
        scan = λ at. (scans-as (scans-last h (scans-self operand nums) g) (scans-one h)).scan at ∙ sym
            (after-operands at 1);
      }

  block-scan : (v : Value) → on_value v (λ n next. scan_of (repeat n inner) nums next) ≡ on_lead (block_lead v) after
  unfolding on_value on_lead block_lead repeat scan_of forget pure on_scan
  block-scan (Of n next) = refl
  block-scan (Unread fault index) = refl

  lead-as : (tag : StmtTag) (j depth at : ℕ) → target ≡ read_target version depth → operand ≡ read_expr version depth
      → scan_of (read_stmt_as version tag j operand target inner) nums (suc at)
      ≡ on_lead (stmt_lead version depth (stmt_form_of (some tag)) nums at) after
  unfolding read_stmt_as stmt_lead stmt_form_of on_lead lead_by
  lead-as tag_empty j depth at e o = rw (← add-one at) ((nothing _).scan (at + 1))
  lead-as tag_assign j depth at e o =
      rw (← add-one at, ← e) ((lead-scan after 1 0 l (scans-self target nums)
      (λ p. one-operand (λ a. scans-pure _))).scan (at + 1))
  lead-as tag_if j depth at e o =
      rw (← add-one at, (scans-one h).scan (at + 1))
      ((scans-then h (scans-self operand nums) (λ c. scans-as
      (scans-then i (scans-self inner nums) λ a. scans-last i (scans-self inner nums) λ b. scans-pure _)
      (scans-two i))).scan (at + 1))
  lead-as tag_block j depth at e o =
      rw (← add-one at)
      ((scans-last (keeps-list 0 most_members i) (scans-list 0 most_members i) (λ ss. scans-pure _)).scan (at + 1)
      ∙ block-scan (value_of 0 most_members nums (at + 1)))
  lead-as tag_call_stmt j depth at e o =
      rw (← add-one at) ((call-scan after h (λ f xs. scans-pure _) after-operands).scan (at + 1))
  lead-as tag_apply j depth at e o =
      rw (← add-one at) ((lead-scan after 0 0 keeps-number (scans-self number nums) (λ n. nothing _)).scan (at + 1))
  lead-as tag_return_value j depth at e o = rw (← add-one at) ((one-operand (λ a. scans-pure _)).scan (at + 1))
  lead-as tag_return j depth at e o = rw (← add-one at) ((nothing _).scan (at + 1))
  lead-as tag_exit j depth at e o = rw (← add-one at) ((nothing _).scan (at + 1))
  lead-as tag_set_valid j depth at e o =
      rw (← add-one at) ((lead-scan after 0 0 keeps-number (scans-self number nums) (λ n. nothing _)).scan (at + 1))
  lead-as tag_set_invalid j depth at e o =
      rw (← add-one at) ((lead-scan after 0 0 keeps-number (scans-self number nums) (λ n. nothing _)).scan (at + 1))
  lead-as tag_extract j depth at e o =
      rw (← add-one at) ((lead-scan after 0 0 keeps-number (scans-self number nums) (λ n. nothing _)).scan (at + 1))
  lead-as tag_verify j depth at e o =
      rw (← add-one at, (scans-verify version depth nums).scan (at + 1), ← o)
      ((lead-two after 0 0 h (λ c. keeps-between 0 most_error) (scans-self operand nums) (λ c. scans-self _ nums)
      (λ c n. nothing _)).scan (at + 1))

-- a statement is its lead, its operands and its statements
module _ (version depth : ℕ) (nums : List ℕ) (at : ℕ) where
  behind : ℕ → StmtTag → Reader Stmt
  behind j tag = read_stmt_as version tag j (read_expr version depth) (read_target version depth) (read_stmt version depth)

  parts-of : ℕ → ℕ → ℕ → Scan
  parts-of next operands statements =
      on_scan (scan_of (repeat operands (read_expr version depth)) nums next)
      (scan_of (repeat statements (read_stmt version depth)) nums)

  stmt-scan : at < length nums → scan_of (read_stmt version (suc depth)) nums at
      ≡ on_lead (stmt_lead version depth (stmt_form version (get_or nums at 0)) nums at) parts-of
  unfolding read_stmt stmt_form behind parts-of
  stmt-scan h =
      scan-here nums at (λ j. stands_for (get_elem? (stmt_tags version)) >>= behind j)
      ∙ go (get_elem? (stmt_tags version) (get_or nums at 0)) refl
    where
      go : (x : Option StmtTag) → get_elem? (stmt_tags version) (get_or nums at 0) ≡ x
          → scan_of (stands_for (get_elem? (stmt_tags version)) >>= behind at) nums at
          ≡ on_lead (stmt_lead version depth (stmt_form_of x) nums at) parts-of
      go none e =
          stands-none (get_elem? (stmt_tags version)) (behind at) nums at h e ∙ unlisted version depth nums at parts-of
      go (some tag) e = stands-is (get_elem? (stmt_tags version)) (behind at) nums at tag h e
          ∙ lead-as version nums (read_expr version depth) (read_target version depth) (read_stmt version depth)
          (keeps-expr version depth) (keeps-target version depth) (keeps-stmt version depth) tag at depth at refl refl

  stmt-missing : length nums ≤ at → scan_of (read_stmt version (suc depth)) nums at ≡ Fault 4 at
  unfolding read_stmt behind
  stmt-missing h = scan-here nums at (λ j. stands_for (get_elem? (stmt_tags version)) >>= behind j)
      ∙ stands-out (get_elem? (stmt_tags version)) (behind at) nums at h

gives-stmt : (version : ℕ) (tag : StmtTag) (at : ℕ) (operand : Reader Expr) (target : Reader (ℕ × Place))
    (inner : Reader Stmt)
    → Gives (λ s. stmt_at s ≡ at) (read_stmt_as version tag at operand target inner)
unfolding read_stmt_as stmt_at
gives-stmt version tag_empty at operand target inner = gives-pure _ _ refl
gives-stmt version tag_assign at operand target inner = gives_then _ λ p. gives_then _ λ e. gives-pure _ _ refl
gives-stmt version tag_if at operand target inner =
    gives_then _ λ c. gives_then _ λ a. gives_then _ λ b. gives-pure _ _ refl
gives-stmt version tag_block at operand target inner = gives_then _ λ ss. gives-pure _ _ refl
gives-stmt version tag_call_stmt at operand target inner = gives_then _ λ f. gives_then _ λ xs. gives-pure _ _ refl
gives-stmt version tag_apply at operand target inner = gives_then _ λ t. gives-pure _ _ refl
gives-stmt version tag_return_value at operand target inner = gives_then _ λ e. gives-pure _ _ refl
gives-stmt version tag_return at operand target inner = gives-pure _ _ refl
gives-stmt version tag_exit at operand target inner = gives-pure _ _ refl
gives-stmt version tag_set_valid at operand target inner = gives_then _ λ g. gives-pure _ _ refl
gives-stmt version tag_set_invalid at operand target inner = gives_then _ λ g. gives-pure _ _ refl
gives-stmt version tag_extract at operand target inner = gives_then _ λ g. gives-pure _ _ refl
gives-stmt version tag_verify at operand target inner = gives_then _ λ c. gives_then _ λ e. gives-pure _ _ refl

pub starts-stmt : (version depth : ℕ) → Starts stmt_at (read_stmt version depth)
unfolding read_stmt
starts-stmt version zero = starts-deep stmt_at
starts-stmt version (suc depth) = starts-here λ at. gives_then _ λ tag. gives-stmt version tag at _ _ _

gives-target : (version depth : ℕ) → Starts (λ (p : ℕ × Place). p.0) (read_target version depth)
unfolding read_target
gives-target version zero = starts-deep _
gives-target version (suc depth) =
    starts-here λ at. gives_then _ λ tag. gives_then _ λ p. gives-pure _ _ refl

-- the slots of a statement are its target's, those of its operands and members, and its own
pub stmts-at : (version : ℕ) (ss : List Stmt) (end : ℕ) → stmts_at (to_stmts version ss) end ≡ first_at stmt_at ss end
unfolding stmts_at to_stmts first_at
stmts-at version [] end = refl
stmts-at version (s ∷ ss) end = refl

pub stmts-laid : (version : ℕ) (ss : List Stmt) (end : ℕ) (slots : List ℕ)
    → lay_stmts (to_stmts version ss) end slots ≡ lay_members ss end slots
unfolding lay_stmts to_stmts lay_all
stmts-laid version [] end slots = refl
stmts-laid version (s ∷ ss) end slots =
    rw (stmts-at version ss end) (stmts-laid version ss end (lay_stmt s (first_at stmt_at ss end) slots))

-- a target takes its tag and a number at least
target-later : (version depth : ℕ) (nums : List ℕ) (at : ℕ)
    → Latest (suc at) (read_target version depth (drop at nums) at)
unfolding read_target too_deep here ◌>>=◌ and_then stands_for meaning Latest
target-later version zero nums at = go (drop at nums)
  where
    go : (left : List ℕ) → Latest (suc at) (too_deep {A = ℕ × Place} left at)
    go [] = tt
    go (n ∷ left) = tt
target-later version (suc depth) nums at = go (ltb at (length nums)) refl
  where
    what : ℕ → Option PlaceTag
    what n = place_tag_of version (get_elem? (expr_tags version) n)

    rest : PlaceTag → Reader (ℕ × Place)
    rest tag = read_place version tag >>= λ p. pure (at, p)

    keeps-rest : (tag : PlaceTag) → Keeps (rest tag)
    keeps-rest tag = keeps_then (keeps-place version tag) λ p. keeps-pure _

    inside : (x : Option PlaceTag) → Latest (suc at) (and_then (meaning 4 x (drop (suc at) nums) at) rest)
    inside none = tt
    inside (some tag) = kept-latest nums (suc at) (rest tag (drop (suc at) nums) (suc at))
        ((keeps-rest tag).kept nums (suc at))

    go : (b : Bool) → ltb at (length nums) ≡ b
        → Latest (suc at) (and_then (looked_up 4 what (drop at nums) at) rest)
    go true e = rw (looked-in 4 what nums at (ltb-true at (length nums) e)) (inside (what (get_or nums at 0)))
    go false e = rw (looked-out 4 what nums at (ltb-false at (length nums) e)) tt

-- what holds of a statement, its operands and its members at each tag; its lead ends at `next`, and `found` and `mid`
-- are the slots before and behind it
pub record StmtNodes (version depth : ℕ) (nums : List ℕ) (at next : ℕ) (found : List ℕ)
    (P : List ℕ → Stmt → List Expr × List Stmt → Type 0) : Type 0 where
  pub empty-node : P found (empty at) ([], [])
  pub assign-node : (value : ℕ) (p : Place) (e : Expr) → expr_at e ≡ value → at + 1 < value
      → P (set found (at + 1) value) (assign at (at + 1) p e) (e ∷ [], [])
  pub if-node : (c : Expr) (a b : Stmt) → P found (if_else at c a b) (c ∷ [], a ∷ b ∷ [])
  pub block-node : (ss : List Stmt) → P found (block at (to_stmts version ss)) ([], ss)
  pub call-node : (f : ℕ) (xs : List Expr) → P found (call_stmt at f (to_args version xs)) (xs, [])
  pub apply-node : (t : ℕ) → P found (apply at t) ([], [])
  pub value-node : (e : Expr) → P found (return_value at e) (e ∷ [], [])
  pub return-node : P found (return at) ([], [])
  pub exit-node : P found (exit at) ([], [])
  pub valid-node : (g : ℕ) → P found (set_valid at g) ([], [])
  pub invalid-node : (g : ℕ) → P found (set_invalid at g) ([], [])
  pub extract-node : (g : ℕ) → P found (extract at g) ([], [])
  pub verify-node : (c : Expr) (e : ℕ) (left : List ℕ)
      → read_expr version depth (drop (at + 1) nums) (at + 1) ≡ got c left (next - 1)
      → P (lay_expr c (next - 1) found) (verify at c e) ([], [])

module _ (version depth : ℕ) (nums : List ℕ) (at next : ℕ) (found : List ℕ)
    (P : List ℕ → Stmt → List Expr × List Stmt → Type 0) (N : StmtNodes version depth nums at next found P) where
  abbrev operand : Reader Expr
  operand = read_expr version depth

  abbrev inner : Reader Stmt
  inner = read_stmt version depth

  abbrev target : Reader (ℕ × Place)
  target = read_target version depth

  abbrev parts : ℕ → ℕ → Reader (List Expr × List Stmt)
  parts = read_parts version depth

  abbrev Tree : Stmt → List Expr × List Stmt → Type 0
  Tree = P found

  none_read : (left : List ℕ) (i : ℕ) → parts 0 0 left i ≡ got ([], []) left i
  unfolding read_parts repeat pure ◌>>=◌ and_then
  none_read left i = refl

  after-target : (t n : ℕ) (p : Place) (x : Got Expr) → t ≡ at + 1 → Given (λ e. expr_at e ≡ n) x → at + 1 < n
      → Agree (P (set found (at + 1) n)) (and_then x (λ e. pure (assign at t p e)))
      (and_then (and_then x (λ e. repeat 0 operand >>= λ rest. pure (e ∷ rest)))
      (λ xs. repeat 0 inner >>= λ ss. pure (xs, ss)))
  unfolding Agree Given repeat pure ◌>>=◌ and_then
  after-target t n p (got e left m) q g h = rw q (N.assign-node n p e g h)
  after-target t n p (bad fault index) q g h = tt

  assign-as : (x : Got (ℕ × Place)) → Kept nums (at + 1) x → Given (λ p. p.0 ≡ at + 1) x → Latest (suc (at + 1)) x
      → AgreeOn (P (laid_target (forget x) (at + 1) found))
      (and_then x (λ p. operand >>= λ e. pure (assign at p.0 p.1 e))) parts nums (lead_by (forget x) 1 0)
  unfolding AgreeOn Given Kept Latest forget and_then ◌>>=◌ lead_by laid_target read_parts repeat
  assign-as (got p left n) l g h =
      rw l.rest
      (after-target p.0 n p.1 (operand (drop n nums) n) g
      ((starts-expr version depth).started (drop n nums) n) h)
  assign-as (bad fault index) l g h = tt

  assign-tree : AgreeOn (P (laid_target (scan_of target nums (at + 1)) (at + 1) found))
      ((target >>= λ p. operand >>= λ e. pure (assign at p.0 p.1 e)) (drop (at + 1) nums) (at + 1)) parts nums
      (lead_by (scan_of target nums (at + 1)) 1 0)
  unfolding scan_of ◌>>=◌
  assign-tree =
      assign-as (target (drop (at + 1) nums) (at + 1)) ((keeps-target version depth).kept nums (at + 1))
      ((gives-target version depth).started (drop (at + 1) nums) (at + 1)) (target-later version depth nums (at + 1))

  -- a verify: the lead ends behind its error
  after-condition : (c : Expr) (n : ℕ) (left : List ℕ) (y : Got ℕ)
      → operand (drop (at + 1) nums) (at + 1) ≡ got c left n → BegunAt (λ e end. end - 1) n y
      → next_of (lead_by (forget (and_then y (λ e. pure {A = Expr × ℕ} (c, e)))) 0 0) ≡ next
      → AgreeOn (P (laid_verify (and_then y (λ e. pure (c, e))) found)) (and_then y (λ e. pure (verify at c e))) parts nums
      (lead_by (forget (and_then y (λ e. pure {A = Expr × ℕ} (c, e)))) 0 0)
  unfolding AgreeOn Agree BegunAt next_of forget and_then pure lead_by laid_verify
  after-condition c n left (got e rest end) r b q =
      rw (none_read (drop end nums) end, q) (N.verify-node c e left (r ∙ rw (← b, q)))
  after-condition c n left (bad fault index) r b q = tt

  verify-as : (x : Got Expr) → operand (drop (at + 1) nums) (at + 1) ≡ x
      → next_of (lead_by (forget (and_then x (λ c. between 0 most_error >>= λ e. pure {A = Expr × ℕ} (c, e)))) 0 0) ≡ next
      → AgreeOn (P (laid_verify (and_then x (λ c. between 0 most_error >>= λ e. pure (c, e))) found))
      (and_then x (λ c. between 0 most_error >>= λ e. pure (verify at c e))) parts nums
      (lead_by (forget (and_then x (λ c. between 0 most_error >>= λ e. pure {A = Expr × ℕ} (c, e)))) 0 0)
  unfolding AgreeOn next_of forget and_then ◌>>=◌ lead_by laid_verify between
  verify-as (got c left n) r q =
      after-condition c n left (between 0 most_error left n) r ((begins-stands _).begun left n) q
  verify-as (bad fault index) r q = tt

  verify-tree : next_of (lead_by (scan_of (read_verify version depth) nums (at + 1)) 0 0) ≡ next
      → AgreeOn (P (laid_verify (read_verify version depth (drop (at + 1) nums) (at + 1)) found))
      ((operand >>= λ c. between 0 most_error >>= λ e. pure (verify at c e)) (drop (at + 1) nums) (at + 1)) parts nums
      (lead_by (scan_of (read_verify version depth) nums (at + 1)) 0 0)
  unfolding scan_of read_verify ◌>>=◌
  verify-tree q = verify-as (operand (drop (at + 1) nums) (at + 1)) refl q

  -- operands alone, members alone, and a condition with two branches
  operands-alike : (n : ℕ) {read : Reader Stmt} → Alike (λ s xs. Tree s (xs, [])) read (repeat n operand)
      → Alike Tree read (parts n 0)
  unfolding read_parts repeat pure ◌>>=◌ and_then
  operands-alike n f = alike-map Tree (λ xs. (xs, [])) f

  members_alike : (n : ℕ) {read : Reader Stmt} → Alike (λ s ss. Tree s ([], ss)) read (repeat n inner)
      → Alike Tree read (parts 0 n)
  unfolding read_parts repeat pure ◌>>=◌ and_then
  members_alike n f = alike-map Tree (λ ss. ([], ss)) f

  branches-alike : {k : Expr → Reader Stmt}
      → ((c : Expr) → Alike (λ s ss. Tree s (c ∷ [], ss)) (k c) (repeat 2 inner))
      → Alike Tree (operand >>= k) (parts 1 2)
  unfolding read_parts repeat pure ◌>>=◌ and_then
  branches-alike {k} f =
      alike-assoc Tree operand (λ c. repeat 0 operand >>= λ rest. pure (c ∷ rest))
      (λ xs. repeat 2 inner >>= λ ss. pure (xs, ss)) (alike_then operand λ c. alike-map Tree (λ ss. (c ∷ [], ss)) (f c))

  tree-as : (tag : StmtTag) → next_of (stmt_lead version depth (stmt_form_of (some tag)) nums at) ≡ next
      → AgreeOn (P (stmt_laid version depth (stmt_form_of (some tag)) nums at found))
      (read_stmt_as version tag at operand target inner (drop (at + 1) nums) (at + 1)) parts nums
      (stmt_lead version depth (stmt_form_of (some tag)) nums at)
  unfolding read_stmt_as stmt_lead stmt_laid stmt_form_of
  tree-as tag_empty q =
      agree-none Tree parts nums (at + 1) _ ([], []) _ _ _ (gives-pure _ _ N.empty-node) none_read
  tree-as tag_assign q = assign-tree
  tree-as tag_if q =
      behind-tag Tree parts nums at 1 2
      (branches-alike λ c. alike-two (λ a ss. Tree a (c ∷ [], ss)) inner _ (N.if-node c))
  tree-as tag_block q =
      agree-members Tree parts nums (at + 1) inner _ λ n. members_alike n
      (alike_all (λ a ss. Tree a ([], ss)) (repeat n inner) _ N.block-node)
  tree-as tag_call_stmt q =
      agree-call Tree parts nums (at + 1) operand _ λ f n. operands-alike n
      (alike_all (λ a xs. Tree a (xs, [])) (repeat n operand) _ (N.call-node f))
  tree-as tag_apply q =
      agree-none Tree parts nums (at + 1) _ ([], []) _ _ _
      (gives_then _ λ t. gives-pure _ _ (N.apply-node t)) none_read
  tree-as tag_return_value q =
      behind-tag Tree parts nums at 1 0
      (operands-alike 1 (alike-one (λ a xs. Tree a (xs, [])) operand _ N.value-node))
  tree-as tag_return q =
      agree-none Tree parts nums (at + 1) _ ([], []) _ _ _ (gives-pure _ _ N.return-node) none_read
  tree-as tag_exit q =
      agree-none Tree parts nums (at + 1) _ ([], []) _ _ _ (gives-pure _ _ N.exit-node) none_read
  tree-as tag_set_valid q =
      agree-none Tree parts nums (at + 1) _ ([], []) _ _ _
      (gives_then _ λ g. gives-pure _ _ (N.valid-node g)) none_read
  tree-as tag_set_invalid q =
      agree-none Tree parts nums (at + 1) _ ([], []) _ _ _ (gives_then _ λ g. gives-pure _ _ (N.invalid-node g))
      none_read
  tree-as tag_extract q =
      agree-none Tree parts nums (at + 1) _ ([], []) _ _ _ (gives_then _ λ g. gives-pure _ _ (N.extract-node g))
      none_read
  tree-as tag_verify q = verify-tree q

  pub stmt-agrees : at < length nums
      → next_of (stmt_lead version depth (stmt_form version (get_or nums at 0)) nums at) ≡ next
      → AgreeOn (P (stmt_laid version depth (stmt_form version (get_or nums at 0)) nums at found))
      (read_stmt version (suc depth) (drop at nums) at) parts nums
      (stmt_lead version depth (stmt_form version (get_or nums at 0)) nums at)
  unfolding read_stmt stmt_form here ◌>>=◌ and_then stands_for meaning AgreeOn stmt_lead stmt_form_of
  stmt-agrees h q =
      rw (looked-in 4 (get_elem? (stmt_tags version)) nums at h) (go (get_elem? (stmt_tags version) (get_or nums at 0)) q)
    where
      go : (x : Option StmtTag) → next_of (stmt_lead version depth (stmt_form_of x) nums at) ≡ next
          → AgreeOn (P (stmt_laid version depth (stmt_form_of x) nums at found))
          (and_then (meaning 4 x (drop (suc at) nums) at) (λ tag. read_stmt_as version tag at operand target inner)) parts
          nums (stmt_lead version depth (stmt_form_of x) nums at)
      go none e = tt
      go (some tag) e = rw (← add-one at) (tree-as tag e)

made-nodes : (version depth : ℕ) (nums : List ℕ) (at next : ℕ) (found : List ℕ)
    → StmtNodes version depth nums at next found (λ mid. Made parts_at lay_stmt lay_parts at next found mid)
unfolding lay_stmt parts_at lay_parts lay_all first_at
made-nodes version depth nums at next found = record {
  empty-node = record { made = λ end s. refl };
  assign-node = λ value p e q h. record { made = λ end s. rw q };
  if-node = λ c a b. record { made = λ end s. refl };
  block-node = λ ss. record { made = λ end s. rw (stmts-laid version ss end found) };
  call-node = λ f xs. record { made = λ end s. rw (args-laid version xs end found) };
  apply-node = λ t. record { made = λ end s. refl };
  value-node = λ e. record { made = λ end s. refl };
  return-node = record { made = λ end s. refl };
  exit-node = record { made = λ end s. refl };
  valid-node = λ g. record { made = λ end s. refl };
  invalid-node = λ g. record { made = λ end s. refl };
  extract-node = λ g. record { made = λ end s. refl };
  verify-node = λ c e left q. record { made = λ end s. rw s };
}

tree-on : (version depth : ℕ) (nums : List ℕ) (at : ℕ) (slots found mid : List ℕ) (lead : Lead) → LaidOn lead mid slots
    → AgreeOn (Made parts_at lay_stmt lay_parts at (next_of lead) found slots)
    (read_stmt version (suc depth) (drop at nums) at) (read_parts version depth) nums lead
    → AgreeOn (Made parts_at lay_stmt lay_parts at (next_of lead) found mid)
    (read_stmt version (suc depth) (drop at nums) at) (read_parts version depth) nums lead
unfolding LaidOn AgreeOn
tree-on version depth nums at slots found mid (On next operands statements) l t = rw l t
tree-on version depth nums at slots found mid (Off number index) l t = tt

pub leads-is : (version depth : ℕ) (nums : List ℕ) (at : ℕ) (f : StmtForm) (found mid : List ℕ) (r : Lead)
    → at < length nums
    → f ≡ stmt_form version (get_or nums at 0)
    → LeadsForm version depth f nums at found mid r → LeadsStmt version depth nums at found mid r
unfolding parts-of
leads-is version depth nums at f found mid r h e q =
    record {
      stmt = rw (q.lead, e) (stmt-scan version depth nums at h);
      tree = tree-on version depth nums at _ found mid r q.laid
          (rw (q.lead, e) (stmt-agrees version depth nums at _ found _ (made-nodes version depth nums at _ found) h
          refl));
      tag = rw q.lead (tag_in nums at (stmt_lead version depth f nums at) h);
    }

pub leads-missing : (version depth : ℕ) (nums : List ℕ) (at : ℕ) (found : List ℕ) → length nums ≤ at
    → LeadsStmt version depth nums at found found (Off 4 at)
unfolding on_lead AgreeOn Tagged
leads-missing version depth nums at found h =
    record { stmt = stmt-missing version depth nums at h; tree = tt; tag = tt }

pub ruleset stmts = (leads-is, leads-missing)

-- operands and members begin where the first of them does
module _ (version depth operands statements : ℕ) where
  pub parts-begin : Begins parts_at (read_parts version depth operands statements)
  unfolding parts_at read_parts BegunAt ◌>>=◌ and_then pure
  parts-begin = record {
    begun = λ left at. go at (repeat operands (read_expr version depth) left at)
        ((begins-repeat operands (starts-expr version depth)).begun left at);
  }
    where
      inner : (at n : ℕ) (xs : List Expr) (y : Got (List Stmt)) → first_at expr_at xs n ≡ at
          → BegunAt (first_at stmt_at) n y
          → BegunAt parts_at at (and_then y (λ ss. pure (xs, ss)))
      inner at n xs (got ss left end) e b = rw b e
      inner at n xs (bad fault index) e b = tt

      go : (at : ℕ) (x : Got (List Expr)) → BegunAt (first_at expr_at) at x
          → BegunAt parts_at at (and_then x (λ xs. repeat statements (read_stmt version depth) >>= λ ss. pure (xs, ss)))
      go at (got xs left n) e =
          inner at n xs (repeat statements (read_stmt version depth) left n) e
          ((begins-repeat statements (starts-stmt version depth)).begun left n)
      go at (bad fault index) e = tt

-- the steps of the cycle of statements
module _ (version depth : ℕ) (nums : List ℕ) (at : ℕ) (found : List ℕ) where
  pub stmt-deep : (r : Scan) → depth ≡ 0 → r ≡ scan_of (too_deep {A = ℕ}) nums at
      → Lays (read_stmt version depth) lay_stmt nums at found found r
  unfolding read_stmt
  stmt-deep r e q = rw e (lays-deep lay_stmt nums at found found r q)

  module _ (first : List ℕ) (x : depth ≡ 0 → ⊥) where
    pub stmt-off : (f i : ℕ) → LeadsStmt version (depth - 1) nums at found first (Off f i)
        → Lays (read_stmt version depth) lay_stmt nums at found first (Fault f i)
    unfolding on_lead
    stmt-off f i l =
        lays-none (read_stmt version depth) lay_stmt nums at f i found first (sym (rw (one_less depth x) at l.stmt))

    module _ (next operands statements : ℕ)
        (l : LeadsStmt version (depth - 1) nums at found first (On next operands statements)) (mid : List ℕ) (a : Scan)
        (w : Lays (repeat operands (read_expr version (depth - 1))) lay_exprs nums next first mid a) where
      stmt-tree-on : Agree (Made parts_at lay_stmt lay_parts at next found first) (read_stmt version depth (drop at nums) at)
          (read_parts version (depth - 1) operands statements (drop next nums) next)
      unfolding AgreeOn next_of
      stmt-tree-on = rw (one_less depth x) at l.tree

      pub stmt-operand-fault : (f i : ℕ) → a ≡ Fault f i
          → Lays (read_stmt version depth) lay_stmt nums at found mid (Fault f i)
      unfolding on_lead
      stmt-operand-fault f i m =
          lays-none (read_stmt version depth) lay_stmt nums at f i found mid
          (on-fault a f i (scan_of (repeat statements (read_stmt version (depth - 1))) nums) m
          ∙ sym (rw (one_less depth x, ← w.scan) at l.stmt))

      module _ (after : ℕ) (m : a ≡ Past after) (last : List ℕ) (b : Scan)
          (v : Lays (repeat statements (read_stmt version (depth - 1))) lay_members nums after mid last b) where
        stmt-scan-on : b ≡ scan_of (read_stmt version depth) nums at
        unfolding on_lead
        stmt-scan-on =
            on-past a b after (scan_of (repeat statements (read_stmt version (depth - 1))) nums) m v.scan
            ∙ sym (rw (one_less depth x, ← w.scan) at l.stmt)

        parts-lay : Lays (read_parts version (depth - 1) operands statements) lay_parts nums next first last b
        unfolding read_parts lay_parts
        parts-lay =
            lays-next (λ xs ss. (xs, ss)) lay_parts (first_at stmt_at) (λ xs ss end slots. refl)
            (keeps-repeat operands (keeps-expr version (depth - 1)))
            (begins-repeat statements (starts-stmt version (depth - 1))) w m v

        keeps-parts : Keeps (read_parts version (depth - 1) operands statements)
        unfolding read_parts
        keeps-parts = keeps_then (keeps-repeat operands (keeps-expr version (depth - 1))) λ xs. keeps_then
            (keeps-repeat statements (keeps-stmt version (depth - 1))) λ ss. keeps-pure _

        pub stmt-on : (end : ℕ) → b ≡ Past end
            → Lays (read_stmt version depth) lay_stmt nums at found (set last at end) (Past end)
        stmt-on end q = construct keeps-parts (parts-begin version (depth - 1) operands statements) stmt-tree-on (sym q ∙ stmt-scan-on) parts-lay q

        pub stmt-member-fault : (f i : ℕ) → b ≡ Fault f i
            → Lays (read_stmt version depth) lay_stmt nums at found last (Fault f i)
        stmt-member-fault f i q =
            lays-none (read_stmt version depth) lay_stmt nums at f i found last (sym q ∙ stmt-scan-on)

module _ (version depth : ℕ) (nums : List ℕ) (at next operands statements : ℕ) (found mid : List ℕ)
    (h : length nums ≤ most_numbers) (l : LeadsStmt version depth nums at found mid (On next operands statements)) where
  pub slot-in : at < most_numbers
  unfolding Tagged
  slot-in = omega (arith, l.tag)

  pub slot-fits : at * 8 < 2 ^ 64
  slot-fits = omega (arith, slot-in)

pub ruleset stmt_steps =
    (stmt-deep, stmt-on, stmt-operand-fault, stmt-member-fault, stmt-off, slot-in, slot-fits)

pub ruleset stmt_lists = (keeps-stmt, starts-stmt, pendings)
