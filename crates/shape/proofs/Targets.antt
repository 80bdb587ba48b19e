-- What stands behind a statement's tag: an assignment's target, its form by the tag, its lead by the form.
use mathlib.Core.Bool.{Bool, true, false}
use mathlib.Core.Option.{Option, none, some}
use mathlib.Core.Path.{◌≡◌, refl, sym, ◌∙◌}
use mathlib.Core.List.{List}
use Prim.Native.Nat.{ℕ, zero, suc, ◌+◌, ◌-◌, ◌*◌, ◌≤◌, ◌<◌, ◌^◌}
use native.Mathlib.Omega.{arith}
use native.Mathlib.Numerals.{add-one}
use lib.ListN.{length, get_or, drop, set, get_elem?}
use lib.Dec.{ltb}
use borrow.Author.Tests.{ltb-true, ltb-false}
use Rattle.rules.specs.Syntax.{Place, Expr}
use Rattle.rules.specs.Reading.{Got, got, bad, Reader, ◌>>=◌, pure, number, between, stands_for, repeat, too_deep, most_members, most_error}
use Rattle.rules.specs.Reading.{PlaceTag, tag_local, tag_parameter, tag_global, tag_field}
use Rattle.rules.specs.Reading.{expr_tags, place_tag_of, has_parser, parser_tags, stmt_tags, read_place, read_expr, read_target}
use Rattle.rules.proofs.Predicates.{no_member}
use Rattle.rules.proofs.Readers.{Keeps, keeps_then, keeps-pure, keeps-between, keeps-place, keeps-expr}
use Rattle.shape.specs.Scans.{forget, scan_of, Scan, Past, Fault}
use Rattle.shape.specs.Ends.{most_numbers, lay_expr}
use Rattle.shape.specs.Walks.{Laid, Lays, no_ends}
use Rattle.shape.specs.Leads.{laid_target, LeadsTarget, read_verify, laid_verify, LaidOn, LeadsVerify, stmt_laid, LeadsForm, on_scan, value_of, lead_by, on_lead, call_lead, block_lead, place_form_of, place_form, place_scan, stmt_form_of, stmt_form, parser_form, stmt_lead, Value, Of, Unread, Lead, On, Off}
use Rattle.shape.specs.declared.statements.PlaceForm.{PlaceForm}
use Rattle.shape.specs.declared.statements.PlaceForm.TheVariants.{OneNumber, TwoNumbers, NoPlace}
use Rattle.shape.specs.declared.statements.StmtForm.{StmtForm}
use Rattle.shape.specs.declared.statements.StmtForm.TheVariants.{Bare, Assign, If, Block, CallStmt, Named, Returned, Verified, NoStmt}
use Rattle.shape.proofs.Laws.{Scans, scans-self, scans-then, scans-pure, scans-last, scan-here, stands-is, stands-none, stands-out}
use Rattle.shape.proofs.Laws.{deep-missing, deep-same}
use Rattle.shape.proofs.Lays.{lays-fault, lays-next, lays-scan, begins-stands}
use Rattle.shape.proofs.Exprs.{one_less, scans-field, scans-place}
use Rattle.shape.proofs.Tags.{above}

-- a target's form by its tag
pub place_of : (version n tag : ℕ) (f : PlaceForm) → n ≡ tag → f ≡ place_form version tag → f ≡ place_form version n
place_of version n tag f e q = rw e q

pub place_none : (version n : ℕ) → (n ≡ 2 → ⊥) → (n ≡ 3 → ⊥) → (n ≡ 4 → ⊥) → (n ≡ 5 → ⊥) → NoPlace ≡ place_form version n
unfolding place_form place_form_of place_tag_of
place_none version zero a b c d = refl
place_none version (suc zero) a b c d = refl
place_none version (suc (suc zero)) a b c d = absurd (a refl)
place_none version (suc (suc (suc zero))) a b c d = absurd (b refl)
place_none version (suc (suc (suc (suc zero)))) a b c d = absurd (c refl)
place_none version (suc (suc (suc (suc (suc zero))))) a b c d = absurd (d refl)
place_none version (suc (suc (suc (suc (suc (suc n)))))) a b c d = later n
  where
    later : (n : ℕ)
        → NoPlace ≡ place_form_of (place_tag_of version
        (get_elem? (expr_tags version) (suc (suc (suc (suc (suc (suc n))))))))
    later zero = refl
    later (suc zero) = refl
    later (suc (suc zero)) = refl
    later (suc (suc (suc zero))) = refl
    later (suc (suc (suc (suc zero)))) = refl
    later (suc (suc (suc (suc (suc zero))))) = refl
    later (suc (suc (suc (suc (suc (suc zero)))))) = refl
    later (suc (suc (suc (suc (suc (suc (suc zero))))))) = refl
    later (suc (suc (suc (suc (suc (suc (suc (suc n)))))))) = refl

pub ruleset place_forms = (place_of, place_none)

-- what stands behind a target's tag
module _ (nums : List ℕ) (at : ℕ) (form : PlaceForm) where
  pub place-one : (r : Scan) → form ≡ OneNumber → r ≡ scan_of number nums (at + 1) → r ≡ place_scan form nums at
  unfolding place_scan
  place-one r f q = rw f q

  pub place-two : (r : Scan) → form ≡ TwoNumbers → r ≡ scan_of (repeat 2 number) nums (at + 1)
      → r ≡ place_scan form nums at
  unfolding place_scan
  place-two r f q = rw f q

  pub place-no : form ≡ NoPlace → Fault 4 at ≡ place_scan form nums at
  unfolding place_scan
  place-no f = rw f

pub ruleset places = (place-one, place-two, place-no)

place-as : (version : ℕ) (tag : PlaceTag) (i : ℕ) (nums : List ℕ) (at : ℕ)
    → scan_of (read_place version tag >>= λ p. pure {A = ℕ × Place} (i, p)) nums (suc at)
    ≡ place_scan (place_form_of (some tag)) nums at
unfolding place_scan place_form_of
place-as version tag_local i nums at =
    rw (← add-one at) ((scans-last (keeps-place version tag_local) (scans-place version nums).0
    (λ p. scans-pure _)).scan (at + 1))
place-as version tag_parameter i nums at =
    rw (← add-one at) ((scans-last (keeps-place version tag_parameter) (scans-place version nums).1
    (λ p. scans-pure _)).scan (at + 1))
place-as version tag_global i nums at =
    rw (← add-one at) ((scans-last (keeps-place version tag_global) (scans-place version nums).2
    (λ p. scans-pure _)).scan (at + 1))
place-as version tag_field i nums at =
    rw (← add-one at) ((scans-last (keeps-place version tag_field) (scans-field version nums) (λ p. scans-pure _)).scan
    (at + 1))

module _ (version depth : ℕ) (nums : List ℕ) (at : ℕ) where
  place_tag : ℕ → Option PlaceTag
  place_tag n = place_tag_of version (get_elem? (expr_tags version) n)

  behind-target : ℕ → PlaceTag → Reader (ℕ × Place)
  behind-target i tag = read_place version tag >>= λ p. pure (i, p)

  target-suc : at < length nums
      → place_scan (place_form version (get_or nums at 0)) nums at ≡ scan_of (read_target version (suc depth)) nums at
  unfolding read_target place_form place_form_of place_tag behind-target
  target-suc h =
      sym (scan-here nums at (λ i. stands_for place_tag >>= behind-target i) ∙ go (place_tag (get_or nums at 0)) refl)
    where
      go : (x : Option PlaceTag) → place_tag (get_or nums at 0) ≡ x
          → scan_of (stands_for place_tag >>= behind-target at) nums at ≡ place_scan (place_form_of x) nums at
      go none e = stands-none place_tag (behind-target at) nums at h e ∙ place-no nums at (place_form_of none) refl
      go (some tag) e = stands-is place_tag (behind-target at) nums at tag h e ∙ place-as version tag at nums at

  target-out : length nums ≤ at → Fault 4 at ≡ scan_of (read_target version (suc depth)) nums at
  unfolding read_target place_tag behind-target
  target-out h =
      sym (scan-here nums at (λ i. stands_for place_tag >>= behind-target i) ∙ stands-out place_tag
      (behind-target at) nums at h)

  pub target-deep : (r : Scan) → depth ≡ 0 → r ≡ scan_of (too_deep {A = ℕ}) nums at
      → r ≡ scan_of (read_target version depth) nums at
  unfolding read_target
  target-deep r e q = rw e (q ∙ deep-same (ℕ × Place) nums at)

pub target_is : (version depth : ℕ) (nums : List ℕ) (at : ℕ) (form : PlaceForm) (r : Scan) → (depth ≡ 0 → ⊥)
    → at < length nums
    → form ≡ place_form version (get_or nums at 0) → r ≡ place_scan form nums at
    → r ≡ scan_of (read_target version depth) nums at
target_is version depth nums at form r x h e q =
    q ∙ rw e (rw (one_less depth x) at (target-suc version (depth - 1) nums at h))

pub target-missing : (version depth : ℕ) (nums : List ℕ) (at : ℕ) → (depth ≡ 0 → ⊥) → length nums ≤ at
    → Fault 4 at ≡ scan_of (read_target version depth) nums at
target-missing version depth nums at x h = rw (one_less depth x) at (target-out version (depth - 1) nums at h)

-- a target that reads is inside the list
target-inside : (version depth : ℕ) (nums : List ℕ) (at n : ℕ) (a : Scan)
    → a ≡ scan_of (read_target version depth) nums at → a ≡ Past n
    → at < length nums
target-inside version depth nums at n a q p = go depth (sym p ∙ q) (ltb at (length nums)) refl
  where
    go : (d : ℕ) → Past n ≡ scan_of (read_target version d) nums at → (b : Bool) → ltb at (length nums) ≡ b
        → at < length nums
    go d e true t = ltb-true at (length nums) t
    go zero e false t =
        let f : Fault 4 at ≡ scan_of (read_target version 0) nums at
        = target-deep version 0 nums at (Fault 4 at) refl (deep-missing nums at (ltb-false at (length nums) t)) in
        let z : ◌≡◌ {A = ℕ} 0 1 = cc in
        absurd (omega arith)
    go (suc d) e false t =
        let f : Fault 4 at ≡ scan_of (read_target version (suc d)) nums at
        = target-out version d nums at (ltb-false at (length nums) t) in
        let z : ◌≡◌ {A = ℕ} 0 1 = cc in
        absurd (omega arith)

pub ruleset targets = (target-deep, target_is, target-missing)

-- an assignment up to its value
module _ (version depth : ℕ) (nums : List ℕ) (at : ℕ) (a : Scan)
    (q : a ≡ scan_of (read_target version depth) nums at) where
  pub target-on : (next : ℕ) (found : List ℕ) → a ≡ Past next
      → LeadsTarget version depth nums at found (set found at next) (On next 1 0)
  unfolding lead_by laid_target
  target-on next found p = record { lead = rw (← q, p); laid = rw (← q, p) }

  pub target-off : (f i : ℕ) (found : List ℕ) → a ≡ Fault f i → LeadsTarget version depth nums at found found (Off f i)
  unfolding lead_by laid_target
  target-off f i found p = record { lead = rw (← q, p); laid = rw (← q, p) }

  pub target-slot : (n : ℕ) → a ≡ Past n → length nums ≤ most_numbers → at < most_numbers
  target-slot n p h = omega (arith, target-inside version depth nums at n a q p)

  pub target_fits : (n : ℕ) → a ≡ Past n → length nums ≤ most_numbers → at * 8 < 2 ^ 64
  target_fits n p h = omega (arith, target-inside version depth nums at n a q p)

pub ruleset target_leads = (target-on, target-off, target-slot, target_fits)

-- a statement's form by its tag
tags-long : (version : ℕ) → length (stmt_tags version) ≤ 13
unfolding parser_tags
tags-long version = go (has_parser version) refl
  where
    go : (b : Bool) → has_parser version ≡ b → length (stmt_tags version) ≤ 13
    go true e = rw (parser_tags, e) (omega arith)
    go false e = rw (parser_tags, e) (omega arith)

pub stmt-of : (version n tag : ℕ) (f : StmtForm) → n ≡ tag → f ≡ stmt_form version tag → f ≡ stmt_form version n
stmt-of version n tag f e q = rw e q

pub stmt-none : (version n : ℕ) → (n ≡ 0 → ⊥) → (n ≡ 1 → ⊥) → (n ≡ 2 → ⊥) → (n ≡ 3 → ⊥) → (n ≡ 4 → ⊥) → (n ≡ 5 → ⊥)
    → (n ≡ 6 → ⊥)
    → (n ≡ 7 → ⊥) → (n ≡ 8 → ⊥) → (n ≡ 9 → ⊥) → (n ≡ 10 → ⊥) → (n ≡ 11 → ⊥) → (n ≡ 12 → ⊥)
    → NoStmt ≡ stmt_form version n
unfolding stmt_form stmt_form_of
stmt-none version n a b c d e f g h i j k l m =
    let p : 4 ≤ n = above n 3 (above n 2 (above n 1 (above n 0 (omega arith) a) b) c) d in
    let q : 9 ≤ n = above n 8 (above n 7 (above n 6 (above n 5 (above n 4 p e) f) g) h) i in
    let r : 13 ≤ n = above n 12 (above n 11 (above n 10 (above n 9 q j) k) l) m in
    rw (no_member (stmt_tags version) n (omega (arith, tags-long version)))

-- the forms of a parser's statements
pub stmt-extract : (version n : ℕ) (r : StmtForm) → n ≡ 11 → r ≡ parser_form version Named → r ≡ stmt_form version n
unfolding stmt_form stmt_form_of parser_form parser_tags
stmt-extract version n r e q = q ∙ rw e (go (has_parser version) refl)
  where
    go : (b : Bool) → has_parser version ≡ b → parser_form version Named ≡ stmt_form_of (get_elem? (parser_tags version) 0)
    go true h = rw (parser_form, parser_tags, h)
    go false h = rw (parser_form, parser_tags, h)

pub stmt-verify : (version n : ℕ) (r : StmtForm) → n ≡ 12 → r ≡ parser_form version Verified → r ≡ stmt_form version n
unfolding stmt_form stmt_form_of parser_form parser_tags
stmt-verify version n r e q = q ∙ rw e (go (has_parser version) refl)
  where
    go : (b : Bool) → has_parser version ≡ b → parser_form version Verified ≡ stmt_form_of (get_elem? (parser_tags version) 1)
    go true h = rw (parser_form, parser_tags, h)
    go false h = rw (parser_form, parser_tags, h)

pub ruleset stmt_forms = (stmt-of, stmt-none, stmt-extract, stmt-verify)

pub parser-has : (version : ℕ) (form : StmtForm) (b : Bool) → b ≡ has_parser version → b ≡ true
    → form ≡ parser_form version form
unfolding parser_form
parser-has version form b e q = rw (parser_form, ← e, q)

pub parser-lacks : (version : ℕ) (form : StmtForm) (b : Bool) → b ≡ has_parser version → b ≡ false
    → NoStmt ≡ parser_form version form
unfolding parser_form
parser-lacks version form b e q = rw (parser_form, ← e, q)

pub ruleset parser_forms = (parser-has, parser-lacks)

-- a block up to its members
pub block_on : (v w : Value) (count next : ℕ) → v ≡ w → v ≡ Of count next → On next 0 count ≡ block_lead w
unfolding block_lead
block_on v w count next e p = rw (← e, p)

pub block-off : (v w : Value) (fault index : ℕ) → v ≡ w → v ≡ Unread fault index → Off fault index ≡ block_lead w
unfolding block_lead
block-off v w fault index e p = rw (← e, p)

pub ruleset blocks = (block_on, block-off)

-- a verify up to its end
lay_verify : Expr × ℕ → ℕ → List ℕ → List ℕ
lay_verify v end slots = lay_expr v.0 (end - 1) slots

pub keeps-verify : (version depth : ℕ) → Keeps (read_verify version depth)
unfolding read_verify
keeps-verify version depth = keeps_then (keeps-expr version depth) λ c. keeps_then (keeps-between 0 most_error) λ e.
    keeps-pure _

pub scans-verify : (version depth : ℕ) (nums : List ℕ)
    → Scans (read_verify version depth) nums
    (λ at. on_scan (scan_of (read_expr version depth) nums at) (scan_of (between 0 most_error) nums))
unfolding read_verify
scans-verify version depth nums = scans-then (keeps-expr version depth) (scans-self _ nums) λ c.
    scans-last (keeps-between 0 most_error) (scans-self _ nums) λ e. scans-pure _

module _ (version depth : ℕ) (nums : List ℕ) (at : ℕ) (found mid : List ℕ) where
  verify-laid : (s : Scan) (r : Lead) → r ≡ lead_by s 0 0 → Lays (read_verify version depth) lay_verify nums at found mid s
      → LeadsVerify version depth nums at found mid r
  unfolding scan_of Laid LaidOn lead_by forget laid_verify lay_verify
  verify-laid s r e w =
      record {
        lead = rw (← w.scan) e;
        laid = rw (e, w.scan) (go (read_verify version depth (drop at nums) at) w.laid);
      }
    where
      go : (x : Got (Expr × ℕ)) → Laid x lay_verify found mid
          → LaidOn (lead_by (forget x) 0 0) mid (laid_verify x found)
      go (got v left next) l = l
      go (bad fault index) l = tt

  module _ (a : Scan) (w : Lays (read_expr version depth) lay_expr nums at found mid a) where
    pub verify-on : (n : ℕ) (s : Scan) (r : Lead) → a ≡ Past n → s ≡ scan_of (between 0 most_error) nums n
        → r ≡ lead_by s 0 0
        → LeadsVerify version depth nums at found mid r
    unfolding read_verify between lay_verify no_ends
    verify-on n s r p q e =
        verify-laid s r e (lays-next (λ c e. (c, e)) lay_verify (λ e end. end - 1) (λ c e end slots. refl)
        (keeps-expr version depth) (begins-stands _) w p (lays-scan mid q))

    pub verify-off : (f i : ℕ) → a ≡ Fault f i → LeadsVerify version depth nums at found mid (Off f i)
    unfolding read_verify lead_by
    verify-off f i p = verify-laid (Fault f i) (Off f i) refl (lays-fault _ lay_verify found w p)

pub ruleset verifies = (verify-on, verify-off)

-- the lead of a statement, by its form
module _ (version depth : ℕ) (nums : List ℕ) (at : ℕ) (form : StmtForm) (r : Lead) where
  pub bare-lead : form ≡ Bare → r ≡ lead_by (Past (at + 1)) 0 0 → r ≡ stmt_lead version depth form nums at
  unfolding stmt_lead
  bare-lead f q = rw f q

  pub assign-lead : form ≡ Assign → (s : Scan) → s ≡ scan_of (read_target version depth) nums (at + 1) → r ≡ lead_by s 1 0
      → r ≡ stmt_lead version depth form nums at
  unfolding stmt_lead
  assign-lead f s e q = rw (f, ← e) q

  pub if-lead : form ≡ If → r ≡ lead_by (Past (at + 1)) 1 2 → r ≡ stmt_lead version depth form nums at
  unfolding stmt_lead
  if-lead f q = rw f q

  pub block-lead : form ≡ Block → r ≡ block_lead (value_of 0 most_members nums (at + 1))
      → r ≡ stmt_lead version depth form nums at
  unfolding stmt_lead
  block-lead f q = rw f q

  pub call-stmt-lead : form ≡ CallStmt → r ≡ call_lead nums (scan_of number nums (at + 1))
      → r ≡ stmt_lead version depth form nums at
  unfolding stmt_lead
  call-stmt-lead f q = rw f q

  pub named-lead : form ≡ Named → (s : Scan) → s ≡ scan_of number nums (at + 1) → r ≡ lead_by s 0 0
      → r ≡ stmt_lead version depth form nums at
  unfolding stmt_lead
  named-lead f s e q = rw (f, ← e) q

  pub returned-lead : form ≡ Returned → r ≡ lead_by (Past (at + 1)) 1 0 → r ≡ stmt_lead version depth form nums at
  unfolding stmt_lead
  returned-lead f q = rw f q

  pub verify-lead : form ≡ Verified → r ≡ lead_by (scan_of (read_verify version depth) nums (at + 1)) 0 0
      → r ≡ stmt_lead version depth form nums at
  unfolding stmt_lead
  verify-lead f q = rw f q

pub no-stmt-lead : (version depth : ℕ) (nums : List ℕ) (at : ℕ) (form : StmtForm) → form ≡ NoStmt
    → Off 4 at ≡ stmt_lead version depth form nums at
unfolding stmt_lead
no-stmt-lead version depth nums at form f = rw f

pub laid_on : (r : Lead) (mid slots : List ℕ) → mid ≡ slots → LaidOn r mid slots
unfolding LaidOn
laid_on (On next operands statements) mid slots e = e
laid_on (Off number index) mid slots e = tt

-- with the slots that it lays: none but an assignment's target and a verify's condition
module _ (version depth : ℕ) (nums : List ℕ) (at : ℕ) (form : StmtForm) (r : Lead) (found : List ℕ) where
  pub bare-form : form ≡ Bare → r ≡ lead_by (Past (at + 1)) 0 0 → LeadsForm version depth form nums at found found r
  unfolding stmt_laid
  bare-form f q = record { lead = bare-lead version depth nums at form r f q; laid = laid_on r _ _ (rw f) }

  pub assign-form : (mid : List ℕ) → form ≡ Assign → LeadsTarget version depth nums (at + 1) found mid r
      → LeadsForm version depth form nums at found mid r
  unfolding stmt_laid
  assign-form mid f t =
      record { lead = assign-lead version depth nums at form r f _ refl t.lead; laid = laid_on r _ _ (rw f t.laid) }

  pub if-form : form ≡ If → r ≡ lead_by (Past (at + 1)) 1 2 → LeadsForm version depth form nums at found found r
  unfolding stmt_laid
  if-form f q = record { lead = if-lead version depth nums at form r f q; laid = laid_on r _ _ (rw f) }

  pub block-form : form ≡ Block → r ≡ block_lead (value_of 0 most_members nums (at + 1))
      → LeadsForm version depth form nums at found found r
  unfolding stmt_laid
  block-form f q = record { lead = block-lead version depth nums at form r f q; laid = laid_on r _ _ (rw f) }

  pub call-stmt-form : form ≡ CallStmt → r ≡ call_lead nums (scan_of number nums (at + 1))
      → LeadsForm version depth form nums at found found r
  unfolding stmt_laid
  call-stmt-form f q = record { lead = call-stmt-lead version depth nums at form r f q; laid = laid_on r _ _ (rw f) }

  pub named-form : form ≡ Named → (s : Scan) → s ≡ scan_of number nums (at + 1) → r ≡ lead_by s 0 0
      → LeadsForm version depth form nums at found found r
  unfolding stmt_laid
  named-form f s e q = record { lead = named-lead version depth nums at form r f s e q; laid = laid_on r _ _ (rw f) }

  pub returned-form : form ≡ Returned → r ≡ lead_by (Past (at + 1)) 1 0
      → LeadsForm version depth form nums at found found r
  unfolding stmt_laid
  returned-form f q = record { lead = returned-lead version depth nums at form r f q; laid = laid_on r _ _ (rw f) }

  pub verify-form : (mid : List ℕ) → form ≡ Verified → LeadsVerify version depth nums (at + 1) found mid r
      → LeadsForm version depth form nums at found mid r
  unfolding stmt_laid
  verify-form mid f v = record { lead = verify-lead version depth nums at form r f v.lead; laid = rw f v.laid }

pub no-stmt-form : (version depth : ℕ) (nums : List ℕ) (at : ℕ) (form : StmtForm) (found : List ℕ) → form ≡ NoStmt
    → LeadsForm version depth form nums at found found (Off 4 at)
unfolding LaidOn
no-stmt-form version depth nums at form found f =
    record { lead = no-stmt-lead version depth nums at form f; laid = tt }

pub unlisted : (version depth : ℕ) (nums : List ℕ) (at : ℕ) (K : ℕ → ℕ → ℕ → Scan)
    → Fault 4 at ≡ on_lead (stmt_lead version depth (stmt_form_of none) nums at) K
unfolding stmt_lead stmt_form_of on_lead
unlisted version depth nums at K = refl

pub ruleset stmt_leads =
    (bare-form, assign-form, if-form, block-form, call-stmt-form, named-form, returned-form, verify-form, no-stmt-form)
