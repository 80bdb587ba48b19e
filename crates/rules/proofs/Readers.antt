-- Readers over the numbers from an index on: a reader that starts at `drop at nums` sees the number at `at`, and what
-- it leaves is `drop next nums` for the index `next` that it gives. So indices into one list can stand for what is left.
use mathlib.Core.Bool.{Bool, true, false}
use mathlib.Core.Option.{Option, none, some}
use mathlib.Core.Path.{◌≡◌, refl, ap}
use mathlib.Core.List.{List, [], ◌∷◌}
use Prim.Native.Nat.{ℕ, zero, suc, ◌≤◌, ◌<◌}
use native.Mathlib.Omega.{arith}
use lib.ListN.{length, get_or, drop, drop_of_length-le}
use lib.Seq.{drop-cons}
use lib.Dec.{ltb, leb}
use borrow.Author.Tests.{ltb-true, ltb-false, leb-true}
use Rattle.rules.specs.Syntax.{Expr, Stmt, Place, HeaderTy, Global, Callable, Table, ParserState}
use Rattle.rules.specs.Reading.{Got, got, bad, Reader, and_then, ◌>>=◌, pure, here, number, meaning, looked_up, stands_for, between, within, repeat, list_of, too_deep, deepest}
use Rattle.rules.specs.Reading.{PlaceTag, tag_local, tag_parameter, tag_global, tag_field, ExprTag, tag_bool, tag_bits, tag_place, tag_valid, tag_not, tag_complement, tag_binary, tag_cast, tag_slice, tag_concatenation, tag_call}
use Rattle.rules.specs.Reading.{StmtTag, tag_empty, tag_assign, tag_if, tag_block, tag_call_stmt, tag_apply, tag_return_value, tag_return, tag_exit, tag_set_valid, tag_set_invalid, tag_extract, tag_verify, CallableKind, kind_action, kind_function, TransitionTag, tag_none, tag_accept, tag_reject, tag_lead_to, tag_select}
use Rattle.rules.specs.Reading.{version_of, read_place, read_expr_as, read_expr, read_target, read_stmt_as, read_stmt}
use Rattle.rules.specs.Reading.{read_header, read_global, read_parameter, read_returns, read_callable, read_numeral, read_key, read_table, has_parser, read_pair, read_transition_as, read_transition, read_state, read_states, read_after_version, read_program}

-- a number at an index of the list, and beyond its end
pub looked-in : {A : Type 0} (fault : ℕ) (what : ℕ → Option A) (nums : List ℕ) (at : ℕ) → at < length nums
    → looked_up fault what (drop at nums) at ≡ meaning fault (what (get_or nums at 0)) (drop (suc at) nums) at
unfolding looked_up
looked-in fault what nums at h = rw (drop-cons nums at 0 h)

pub looked-out : {A : Type 0} (fault : ℕ) (what : ℕ → Option A) (nums : List ℕ) (at : ℕ) → length nums ≤ at
    → looked_up fault what (drop at nums) at ≡ bad fault at
unfolding looked_up
looked-out fault what nums at h = rw (drop_of_length-le nums h)

pub number_in : (nums : List ℕ) (at : ℕ) → at < length nums
    → number (drop at nums) at ≡ got (get_or nums at 0) (drop (suc at) nums) (suc at)
unfolding number
number_in nums at h = rw (drop-cons nums at 0 h)

pub number-out : (nums : List ℕ) (at : ℕ) → length nums ≤ at → number (drop at nums) at ≡ bad 4 at
unfolding number
number-out nums at h = rw (drop_of_length-le nums h)

pub deep_in : {A : Type 0} (nums : List ℕ) (at : ℕ) → at < length nums → too_deep {A = A} (drop at nums) at ≡ bad 5 at
unfolding too_deep
deep_in nums at h = rw (drop-cons nums at 0 h)

pub deep_out : {A : Type 0} (nums : List ℕ) (at : ℕ) → length nums ≤ at → too_deep {A = A} (drop at nums) at ≡ bad 4 at
unfolding too_deep
deep_out nums at h = rw (drop_of_length-le nums h)

-- what a reader from `at` on leaves: the numbers from `next` on, later than `at`, and inside the list where `at` was
pub record Left (nums : List ℕ) (at : ℕ) (left : List ℕ) (next : ℕ) : Type 0 where
  pub rest : left ≡ drop next nums
  pub later : at ≤ next
  pub inside : at ≤ length nums → next ≤ length nums

unfoldable pub Kept : {A : Type 0} → List ℕ → ℕ → Got A → Type 0
Kept nums at (got a left next) = Left nums at left next
Kept nums at (bad number index) = Unit

-- a reader that keeps to the list, from whatever index it starts
pub record Keeps {A : Type 0} (read : Reader A) : Type 0 where
  pub kept : (nums : List ℕ) (at : ℕ) → Kept nums at (read (drop at nums) at)

-- a step later
kept-later : {A : Type 0} (nums : List ℕ) (at next : ℕ) (x : Got A) → at ≤ next
    → (at ≤ length nums → next ≤ length nums)
    → Kept nums next x → Kept nums at x
unfolding Kept
kept-later nums at next (got a left last) h i k =
    record { rest = k.rest; later = omega (arith, k.later); inside = λ l. k.inside (i l) }
kept-later nums at next (bad number index) h i k = tt

pub keeps_then : {A B : Type 0} {read : Reader A} {k : A → Reader B} → Keeps read → ((a : A) → Keeps (k a))
    → Keeps (read >>= k)
unfolding ◌>>=◌ and_then Kept
keeps_then {A} {B} {read} {k} h g = record { kept = λ nums at. go nums at (read (drop at nums) at) (h.kept nums at) }
  where
    go : (nums : List ℕ) (at : ℕ) (x : Got A) → Kept nums at x → Kept nums at (and_then x k)
    go nums at (got a left next) l =
        rw l.rest (kept-later nums at next (k a (drop next nums) next) l.later l.inside
        ((g a).kept nums next))
    go nums at (bad number index) l = tt

pub keeps-pure : {A : Type 0} (a : A) → Keeps (pure a)
unfolding pure Kept
keeps-pure a = record { kept = λ nums at. record { rest = refl; later = omega arith; inside = λ l. l } }

pub keeps_here : Keeps here
unfolding here Kept
keeps_here = record { kept = λ nums at. record { rest = refl; later = omega arith; inside = λ l. l } }

-- by cases: the index is inside the list, or beyond it
by_index : {A : Type 0} (read : Reader A)
    → ((nums : List ℕ) (at : ℕ) → at < length nums → Kept nums at (read (drop at nums) at))
    → ((nums : List ℕ) (at : ℕ) → length nums ≤ at → Kept nums at (read (drop at nums) at)) → Keeps read
by_index {A} read f g = record { kept = λ nums at. go nums at (ltb at (length nums)) refl }
  where
    go : (nums : List ℕ) (at : ℕ) (b : Bool) → ltb at (length nums) ≡ b → Kept nums at (read (drop at nums) at)
    go nums at true e = f nums at (ltb-true at (length nums) e)
    go nums at false e = g nums at (ltb-false at (length nums) e)

pub keeps-number : Keeps number
unfolding Kept
keeps-number = by_index number
    (λ nums at h. rw (number_in nums at h) (record { rest = refl; later = omega arith; inside = λ l. h }))
    (λ nums at h. rw (number-out nums at h) tt)

kept-meaning : {A : Type 0} (fault : ℕ) (x : Option A) (nums : List ℕ) (at : ℕ) → at < length nums
    → Kept nums at (meaning fault x (drop (suc at) nums) at)
unfolding meaning Kept
kept-meaning fault none nums at h = tt
kept-meaning fault (some a) nums at h = record { rest = refl; later = omega arith; inside = λ l. h }

pub keeps-looked : {A : Type 0} (fault : ℕ) (what : ℕ → Option A) → Keeps (looked_up fault what)
unfolding Kept
keeps-looked fault what = by_index (looked_up fault what)
    (λ nums at h. rw (looked-in fault what nums at h) (kept-meaning fault (what (get_or nums at 0)) nums at h))
    (λ nums at h. rw (looked-out fault what nums at h) tt)

pub keeps-stands : {A : Type 0} (what : ℕ → Option A) → Keeps (stands_for what)
unfolding stands_for
keeps-stands what = keeps-looked 4 what

pub keeps-between : (least most : ℕ) → Keeps (between least most)
unfolding between
keeps-between least most = keeps-stands (within least most)

pub keeps-repeat : {A : Type 0} (n : ℕ) {one : Reader A} → Keeps one → Keeps (repeat n one)
unfolding repeat
keeps-repeat zero k = keeps-pure []
keeps-repeat (suc n) k = keeps_then k λ a. keeps_then (keeps-repeat n k) λ rest. keeps-pure (a ∷ rest)

pub keeps-list : {A : Type 0} (least most : ℕ) {one : Reader A} → Keeps one → Keeps (list_of least most one)
unfolding list_of
keeps-list least most k = keeps_then (keeps-between least most) λ n. keeps-repeat n k

pub keeps-deep : {A : Type 0} → Keeps (too_deep {A = A})
unfolding Kept
keeps-deep = by_index too_deep (λ nums at h. rw (deep_in nums at h) tt) (λ nums at h. rw (deep_out nums at h) tt)

-- the readers of a program
module _ (version : ℕ) where
  pub keeps-place : (tag : PlaceTag) → Keeps (read_place version tag)
  unfolding read_place
  keeps-place tag_local = keeps_then keeps-number λ i. keeps-pure _
  keeps-place tag_parameter = keeps_then keeps-number λ i. keeps-pure _
  keeps-place tag_global = keeps_then keeps-number λ g. keeps-pure _
  keeps-place tag_field = keeps_then keeps-number λ g. keeps_then keeps-number λ f. keeps-pure _

  keeps-expr-as : (tag : ExprTag) (at : ℕ) {operand : Reader Expr} → Keeps operand
      → Keeps (read_expr_as version tag at operand)
  unfolding read_expr_as
  keeps-expr-as tag_bool at k = keeps_then keeps-number λ n. keeps-pure _
  keeps-expr-as tag_bits at k = keeps_then (keeps-between 1 64) λ w. keeps_then keeps-number λ n. keeps-pure _
  keeps-expr-as (tag_place t) at k = keeps_then (keeps-place t) λ p. keeps-pure _
  keeps-expr-as tag_valid at k = keeps_then keeps-number λ g. keeps-pure _
  keeps-expr-as tag_not at k = keeps_then k λ a. keeps-pure _
  keeps-expr-as tag_complement at k = keeps_then k λ a. keeps-pure _
  keeps-expr-as tag_binary at k = keeps_then (keeps-stands _) λ o. keeps_then k λ a. keeps_then k λ b. keeps-pure _
  keeps-expr-as tag_cast at k = keeps_then (keeps-between 1 64) λ w. keeps_then k λ a. keeps-pure _
  keeps-expr-as tag_slice at k =
      keeps_then (keeps-between 0 63) λ h. keeps_then (keeps-between 0 63) λ l. keeps_then k λ a. keeps-pure _
  keeps-expr-as tag_concatenation at k = keeps_then k λ a. keeps_then k λ b. keeps-pure _
  keeps-expr-as tag_call at k = keeps_then keeps-number λ f. keeps_then (keeps-list 0 8 k) λ xs. keeps-pure _

  pub keeps-expr : (depth : ℕ) → Keeps (read_expr version depth)
  unfolding read_expr
  keeps-expr zero = keeps-deep
  keeps-expr (suc depth) =
      keeps_then keeps_here λ at. keeps_then (keeps-stands _) λ tag. keeps-expr-as tag at (keeps-expr depth)

  pub keeps-target : (depth : ℕ) → Keeps (read_target version depth)
  unfolding read_target
  keeps-target zero = keeps-deep
  keeps-target (suc depth) =
      keeps_then keeps_here λ at. keeps_then (keeps-stands _) λ tag. keeps_then (keeps-place tag) λ p. keeps-pure _

  keeps-stmt-as : (tag : StmtTag) (at : ℕ) {operand : Reader Expr} {target : Reader (ℕ × Place)} {inner : Reader Stmt}
      → Keeps operand → Keeps target → Keeps inner → Keeps (read_stmt_as version tag at operand target inner)
  unfolding read_stmt_as
  keeps-stmt-as tag_empty at k t i = keeps-pure _
  keeps-stmt-as tag_assign at k t i = keeps_then t λ p. keeps_then k λ e. keeps-pure _
  keeps-stmt-as tag_if at k t i = keeps_then k λ c. keeps_then i λ a. keeps_then i λ b. keeps-pure _
  keeps-stmt-as tag_block at k t i = keeps_then (keeps-list 0 64 i) λ ss. keeps-pure _
  keeps-stmt-as tag_call_stmt at k t i = keeps_then keeps-number λ f. keeps_then (keeps-list 0 8 k) λ xs. keeps-pure _
  keeps-stmt-as tag_apply at k t i = keeps_then keeps-number λ n. keeps-pure _
  keeps-stmt-as tag_return_value at k t i = keeps_then k λ e. keeps-pure _
  keeps-stmt-as tag_return at k t i = keeps-pure _
  keeps-stmt-as tag_exit at k t i = keeps-pure _
  keeps-stmt-as tag_set_valid at k t i = keeps_then keeps-number λ g. keeps-pure _
  keeps-stmt-as tag_set_invalid at k t i = keeps_then keeps-number λ g. keeps-pure _
  keeps-stmt-as tag_extract at k t i = keeps_then keeps-number λ g. keeps-pure _
  keeps-stmt-as tag_verify at k t i = keeps_then k λ c. keeps_then (keeps-between 0 255) λ e. keeps-pure _

  pub keeps-stmt : (depth : ℕ) → Keeps (read_stmt version depth)
  unfolding read_stmt
  keeps-stmt zero = keeps-deep
  keeps-stmt (suc depth) = keeps_then keeps_here λ at. keeps_then (keeps-stands _) λ tag.
      keeps-stmt-as tag at (keeps-expr depth) (keeps-target depth) (keeps-stmt depth)

  pub keeps-header : Keeps (read_header version)
  unfolding read_header
  keeps-header = keeps_then keeps_here λ at. keeps_then (keeps-list 1 16 (keeps-between 1 64)) λ ws. keeps-pure _

  pub keeps-global : Keeps (read_global version)
  unfolding read_global
  keeps-global = keeps_then keeps_here λ at. keeps_then (keeps-stands _) λ t. keeps-pure _

  pub keeps-parameter : Keeps (read_parameter version)
  unfolding read_parameter
  keeps-parameter = keeps_then (keeps-stands _) λ d. keeps_then (keeps-stands _) λ t. keeps-pure _

  pub keeps-returns : (kind : CallableKind) → Keeps (read_returns version kind)
  unfolding read_returns
  keeps-returns kind_action = keeps-pure none
  keeps-returns kind_function = keeps_then (keeps-stands _) λ t. keeps-pure _

  pub keeps-callable : Keeps (read_callable version)
  unfolding read_callable
  keeps-callable =
      keeps_then keeps_here λ at. keeps_then (keeps-stands _) λ kind. keeps_then (keeps-returns kind) λ returns.
      keeps_then (keeps-list 0 8 keeps-parameter) λ ps. keeps_then (keeps-list 0 8 (keeps-stands _)) λ ls.
      keeps_then (keeps-stmt deepest) λ body. keeps-pure _

  pub keeps-numeral : Keeps (read_numeral version)
  unfolding read_numeral
  keeps-numeral = keeps_then keeps_here λ at. keeps_then keeps-number λ n. keeps-pure _

  pub keeps-key : Keeps (read_key version)
  unfolding read_key
  keeps-key =
      keeps_then keeps_here λ at. keeps_then (keeps-stands _) λ kind. keeps_then (keeps-expr deepest)
      λ e. keeps-pure _

  pub keeps-table : Keeps (read_table version)
  unfolding read_table
  keeps-table =
      keeps_then keeps_here λ at. keeps_then (keeps-list 1 4 keeps-key) λ ks. keeps_then
      (keeps-list 1 8 keeps-numeral) λ ns.
      keeps_then keeps-numeral λ d. keeps_then keeps_here λ n. keeps_then (keeps-list 0 8 keeps-numeral)
      λ xs. keeps-pure _

  pub keeps-pair : Keeps (read_pair version)
  unfolding read_pair
  keeps-pair = keeps_then keeps-numeral λ v. keeps_then keeps-numeral λ s. keeps-pure _

  keeps-transition-as : (tag : TransitionTag) (at : ℕ) → Keeps (read_transition_as version tag at)
  unfolding read_transition_as
  keeps-transition-as tag_none at = keeps-pure _
  keeps-transition-as tag_accept at = keeps-pure _
  keeps-transition-as tag_reject at = keeps_then (keeps-between 0 255) λ e. keeps-pure _
  keeps-transition-as tag_lead_to at = keeps_then keeps-numeral λ s. keeps-pure _
  keeps-transition-as tag_select at = keeps_then (keeps-expr deepest) λ e. keeps_then (keeps-list 0 16 keeps-pair) λ ps.
      keeps-pure _

  pub keeps-transition : Keeps (read_transition version)
  unfolding read_transition
  keeps-transition = keeps_then keeps_here λ at. keeps_then (keeps-stands _) λ tag. keeps-transition-as tag at

  pub keeps-state : Keeps (read_state version)
  unfolding read_state
  keeps-state = keeps_then keeps_here λ at. keeps_then (keeps-stmt deepest) λ body. keeps_then keeps-transition λ t.
      keeps-pure _

  pub keeps-states : Keeps (read_states version)
  unfolding read_states
  keeps-states = go (has_parser version)
    where
      go : (b : Bool) → Keeps {A = List ParserState} (elim b [
        | true ↦ list_of 1 16 (read_state version)
        | false ↦ pure []
      ])
      go true = keeps-list 1 16 keeps-state
      go false = keeps-pure []

  pub keeps-after-version : Keeps (read_after_version version)
  unfolding read_after_version
  keeps-after-version = keeps_then (keeps-list 0 8 keeps-header) λ hs. keeps_then (keeps-list 0 32 keeps-global) λ gs.
      keeps_then (keeps-list 0 16 keeps-callable) λ cs. keeps_then (keeps-list 0 8 keeps-table) λ ts.
      keeps_then keeps-states λ ss. keeps_then (keeps-stmt deepest) λ body. keeps-pure _

pub keeps-program : Keeps read_program
unfolding read_program
keeps-program = keeps_then (keeps-stands version_of) λ version. keeps-after-version version

-- what holds of everything that a reader gives
unfoldable pub Given : {A : Type 0} → (A → Type 0) → Got A → Type 0
Given P (got a left next) = P a
Given P (bad number index) = Unit

pub record Gives {A : Type 0} (P : A → Type 0) (read : Reader A) : Type 0 where
  pub given : (left : List ℕ) (at : ℕ) → Given P (read left at)

pub gives_then : {A B : Type 0} {P : B → Type 0} (read : Reader A) {k : A → Reader B} → ((a : A) → Gives P (k a))
    → Gives P (read >>= k)
unfolding ◌>>=◌ and_then Given
gives_then {A} {B} {P} read {k} g = record { given = λ left at. go (read left at) }
  where
    go : (x : Got A) → Given P (and_then x k)
    go (got a left next) = (g a).given left next
    go (bad fault index) = tt

pub gives-pure : {A : Type 0} (P : A → Type 0) (a : A) → P a → Gives P (pure a)
unfolding pure Given
gives-pure P a p = record { given = λ left at. p }

-- what a reader gives carries the index where the reader starts
pub record Starts {A : Type 0} (start : A → ℕ) (read : Reader A) : Type 0 where
  pub started : (left : List ℕ) (at : ℕ) → Given (λ a. start a ≡ at) (read left at)

pub starts-here : {A : Type 0} {start : A → ℕ} {k : ℕ → Reader A} → ((at : ℕ) → Gives (λ a. start a ≡ at) (k at))
    → Starts start (here >>= k)
unfolding here ◌>>=◌ and_then
starts-here g = record { started = λ left at. (g at).given left at }

pub starts-deep : {A : Type 0} (start : A → ℕ) → Starts start too_deep
unfolding too_deep Given
starts-deep {A} start = record { started = go }
  where
    go : (left : List ℕ) (at : ℕ) → Given (λ a. start a ≡ at) (too_deep {A = A} left at)
    go [] at = tt
    go (n ∷ left) at = tt

module _ (version : ℕ) where
  pub starts-header : Starts (λ (h : HeaderTy). h.at) (read_header version)
  unfolding read_header
  starts-header = starts-here λ at. gives_then _ λ ws. gives-pure _ _ refl

  pub starts-global : Starts (λ (g : Global). g.at) (read_global version)
  unfolding read_global
  starts-global = starts-here λ at. gives_then _ λ t. gives-pure _ _ refl

  pub starts-callable : Starts (λ (c : Callable). c.at) (read_callable version)
  unfolding read_callable
  starts-callable =
      starts-here λ at. gives_then _ λ kind. gives_then _ λ returns. gives_then _ λ ps. gives_then _
      λ ls. gives_then _ λ body. gives-pure _ _ refl

  pub starts-table : Starts (λ (t : Table). t.at) (read_table version)
  unfolding read_table
  starts-table =
      starts-here λ at. gives_then _ λ ks. gives_then _ λ ns. gives_then _ λ d. gives_then _ λ n. gives_then _
      λ xs. gives-pure _ _ refl

  pub starts-state : Starts (λ (s : ParserState). s.at) (read_state version)
  unfolding read_state
  starts-state = starts-here λ at. gives_then _ λ body. gives_then _ λ t. gives-pure _ _ refl

pub gives_as : {A : Type 0} {P Q : A → Type 0} {read : Reader A} → ((a : A) → P a → Q a) → Gives P read → Gives Q read
unfolding Given
gives_as {A} {P} {Q} {read} f h = record { given = λ left at. go (read left at) (h.given left at) }
  where
    go : (x : Got A) → Given P x → Given Q x
    go (got a left next) p = f a p
    go (bad fault index) p = tt

-- how long lists are
pub gives-with : {A B : Type 0} {Q : A → Type 0} {P : B → Type 0} {read : Reader A} {k : A → Reader B} → Gives Q read
    → ((a : A) → Q a → Gives P (k a)) → Gives P (read >>= k)
unfolding ◌>>=◌ and_then Given
gives-with {A} {B} {Q} {P} {read} {k} h g = record { given = λ left at. go (read left at) (h.given left at) }
  where
    go : (x : Got A) → Given Q x → Given P (and_then x k)
    go (got a left next) q = (g a q).given left next
    go (bad fault index) q = tt

pub gives-between : (least most : ℕ) → Gives (λ n. n ≤ most) (between least most)
unfolding between stands_for looked_up meaning within Given
gives-between least most = record { given = go }
  where
    in-range : (n : ℕ) (b : Bool) → leb least n ≡ b → (d : Bool) → leb n most ≡ d → (left : List ℕ) (at : ℕ)
        → Given (λ n. n ≤ most) (meaning 4 (within least most n) left at)
    in-range n true e true f left at = rw (within, e, f) (leb-true n most f)
    in-range n true e false f left at = rw (within, e, f) tt
    in-range n false e d f left at = rw (within, e) tt

    go : (left : List ℕ) (at : ℕ) → Given (λ n. n ≤ most) (looked_up 4 (within least most) left at)
    go [] at = tt
    go (n ∷ left) at = in-range n (leb least n) refl (leb n most) refl left at

pub gives-repeat : {A : Type 0} (n : ℕ) (one : Reader A) → Gives (λ xs. length xs ≡ n) (repeat n one)
unfolding repeat
gives-repeat zero one = gives-pure _ [] refl
gives-repeat (suc n) one =
    gives_then one λ a. gives-with (gives-repeat n one) λ rest e. gives-pure _ (a ∷ rest) (ap suc e)

pub gives-list : {A : Type 0} (least most : ℕ) (one : Reader A) → Gives (λ xs. length xs ≤ most) (list_of least most one)
unfolding list_of
gives-list least most one = gives-with (gives-between least most) λ n h. gives_as (λ xs e. rw e h) (gives-repeat n one)
