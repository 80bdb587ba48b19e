-- Scanning what the parts of a program hold besides expressions and statements: types, lists, the heads of callables.
use mathlib.Core.Bool.{Bool, true, false, ◌&&◌}
use mathlib.Core.Option.{Option, none, some}
use mathlib.Core.Path.{◌≡◌, refl, sym, ◌∙◌}
use mathlib.Core.List.{List}
use Prim.Native.Nat.{ℕ, zero, suc, ◌<◌}
use native.Mathlib.Omega.{arith}
use lib.ListN.{length, get_or, get_elem?}
use lib.Dec.{leb, leb-zero}
use Rattle.rules.specs.Words.{widest}
use Rattle.rules.specs.Syntax.{Ty, Callable}
use borrow.Author.Tests.{le-leb}
use Rattle.rules.specs.Reading.{most_fields, most_parameters, most_locals, most_arguments}
use Rattle.rules.specs.Reading.{Reader, ◌>>=◌, pure, number, within, between, stands_for, repeat, list_of, deepest}
use Rattle.rules.specs.Reading.{kind_action, kind_function, directions, key_kinds, callable_kinds, bits_of, type_of, or_header, global_type_of}
use Rattle.rules.specs.Reading.{read_expr, read_stmt, read_header, read_global, read_parameter, read_returns, read_numeral, read_key, read_pair}
use Rattle.rules.proofs.Readers.{Keeps, keeps_then, keeps-number, keeps-stands, keeps-between, keeps-list, keeps-expr, keeps-parameter, keeps-returns, keeps-numeral, keeps-pair, keeps-pure}
use Rattle.std.specs.Prelude.{Result, Ok, Err}
use Rattle.std.specs.Result.{MatchResult}
use Rattle.rules.specs.Answers.{number_of}
use Rattle.rules.specs.declared.Fault as rules
use Rattle.shape.specs.Scans.{told, scan_of, Scan, Past, Fault}
use Rattle.shape.specs.Leads.{on_scan, value_of, on_value, Value, Of, Unread}
use Rattle.shape.specs.Parts.{repeat_scan, list_scan, Tells, Lists, read_returning, read_frame, read_default}
use Rattle.shape.proofs.Listings.{lists-scan}
use Rattle.shape.proofs.Laws.{on_same, Scans, scans-self, scans-then, scans-pure, scans-here, scans-last, scans-as, scans-two, stands-is, seq-past, seq-fault}
use Rattle.shape.proofs.Laws.{is_some, Spans, some-within, scan-like, spans-scan, spans-list, list-scan, repeat-none, scans-repeat, IsValue, value-inv, between-fault, scan-fault, stands-some, stands-lacks}

-- lists, with the members' own scan
repeat-scan : {A : Type 0} {one : Reader A} {nums : List ℕ} {s : ℕ → Scan} → Keeps one → Scans one nums s
    → (count at : ℕ) → scan_of (repeat count one) nums at ≡ repeat_scan s count at
unfolding repeat_scan
repeat-scan {one = one} {nums = nums} h f zero at = sym (repeat-none one nums 0 at refl)
repeat-scan {s = s} h f (suc count) at = (scans-repeat count h f).scan at ∙ on_same (s at) _ _ (repeat-scan h f count)

pub scans-items : {A : Type 0} {one : Reader A} {nums : List ℕ} {s : ℕ → Scan} (least most : ℕ) → Keeps one
    → Scans one nums s
    → Scans (list_of least most one) nums (list_scan s least most nums)
unfolding list_scan on_value
scans-items {A} {one} {nums} {s} least most h f =
    record { scan = λ at. list-scan least most nums at h ∙ go (value_of least most nums at) }
  where
    go : (v : Value) → on_value v (λ n next. scan_of (repeat n one) nums next) ≡ on_value v (repeat_scan s)
    go (Of n next) = repeat-scan h f n next
    go (Unread fault index) = refl

-- the lists of the page as ranges
pub direction-is : (version : ℕ) (nums : List ℕ) (at : ℕ) (r : Scan) → r ≡ scan_of (between 0 3) nums at
    → r ≡ scan_of (stands_for (get_elem? (directions version))) nums at
direction-is version nums at r e = e ∙ sym (spans-scan nums at (spans-list (directions version) 3 refl))

pub key-kind-is : (version : ℕ) (nums : List ℕ) (at : ℕ) (r : Scan) → r ≡ scan_of (between 0 2) nums at
    → r ≡ scan_of (stands_for (get_elem? (key_kinds version))) nums at
key-kind-is version nums at r e = e ∙ sym (spans-scan nums at (spans-list (key_kinds version) 2 refl))

some_bits : (version : ℕ) (x : Option ℕ) → is_some (bits_of version x) ≡ is_some x
unfolding is_some bits_of
some_bits version none = refl
some_bits version (some n) = refl

spans-type : (version : ℕ) → Spans (type_of version) 0 widest
unfolding type_of is_some
spans-type version = record { span = go }
  where
    go : (n : ℕ) → is_some (type_of version n) ≡ (leb 0 n && leb n widest)
    go zero = refl
    go (suc n) =
        some_bits version (within 1 widest (suc n)) ∙ some-within 1 widest (suc n)
        ∙ rw (le-leb 1 (suc n) (omega arith), leb-zero (suc n))

pub type-is : (version : ℕ) (nums : List ℕ) (at : ℕ) (r : Scan) → r ≡ scan_of (between 0 widest) nums at
    → r ≡ scan_of (stands_for (type_of version)) nums at
type-is version nums at r e = e ∙ sym (spans-scan nums at (spans-type version))

-- how each part scans
module _ (version : ℕ) (nums : List ℕ) where
  scans-numeral : Scans (read_numeral version) nums (scan_of number nums)
  unfolding read_numeral
  scans-numeral = scans-here λ at. scans-last keeps-number (scans-self number nums) λ n. scans-pure _

  pub numeral-is : (at : ℕ) (r : Scan) → r ≡ scan_of number nums at → r ≡ scan_of (read_numeral version) nums at
  numeral-is at r e = e ∙ sym (scans-numeral.scan at)

  scans-pair : Scans (read_pair version) nums (scan_of (repeat 2 number) nums)
  unfolding read_pair
  scans-pair =
      scans-as (scans-then (keeps-numeral version) scans-numeral λ v. scans-last (keeps-numeral version) scans-numeral
      λ s. scans-pure _) (scans-two keeps-number)

  pub pair_is : (at : ℕ) (r : Scan) → r ≡ scan_of (repeat 2 number) nums at → r ≡ scan_of (read_pair version) nums at
  pair_is at r e = e ∙ sym (scans-pair.scan at)

  scans-parameter : Scans (read_parameter version) nums
      (λ at. on_scan (scan_of (stands_for (get_elem? (directions version))) nums at)
      (scan_of (stands_for (type_of version)) nums))
  unfolding read_parameter
  scans-parameter =
      scans-then (keeps-stands _) (scans-self _ nums) λ d. scans-last (keeps-stands _) (scans-self _ nums)
      λ t. scans-pure _

  pub scans-key : Scans (read_key version) nums
      (λ at. on_scan (scan_of (stands_for (get_elem? (key_kinds version))) nums at) (scan_of (read_expr version deepest) nums))
  unfolding read_key
  scans-key = scans-here λ at. scans-then (keeps-stands _) (scans-self _ nums) λ kind.
      scans-last (keeps-expr version deepest) (scans-self _ nums) λ e. scans-pure _

  scans-header : Scans (read_header version) nums (list_scan (scan_of (between 1 widest) nums) 1 most_fields nums)
  unfolding read_header
  scans-header =
      scans-here λ at. scans-last (keeps-list 1 most_fields (keeps-between 1 widest))
      (scans-items 1 most_fields (keeps-between 1 widest) (scans-self _ nums)) λ ws. scans-pure _

  pub header_is : (at : ℕ) (r : Scan) → r ≡ list_scan (scan_of (between 1 widest) nums) 1 most_fields nums at
      → r ≡ scan_of (read_header version) nums at
  header_is at r e = e ∙ sym (scans-header.scan at)

  scans-parameters : Scans (list_of 0 most_parameters (read_parameter version)) nums
      (list_scan (scan_of (read_parameter version) nums) 0 most_parameters nums)
  scans-parameters = scans-items 0 most_parameters (keeps-parameter version) (scans-self _ nums)

  scans-locals : Scans (list_of 0 most_locals (stands_for (type_of version))) nums
      (list_scan (scan_of (stands_for (type_of version)) nums) 0 most_locals nums)
  scans-locals = scans-items 0 most_locals (keeps-stands _) (scans-self _ nums)

  pub scans-numerals : (least most : ℕ)
      → Scans (list_of least most (read_numeral version)) nums
      (list_scan (scan_of (read_numeral version) nums) least most nums)
  scans-numerals least most = scans-items least most (keeps-numeral version) (scans-self _ nums)

  pub scans-pairs : (least most : ℕ)
      → Scans (list_of least most (read_pair version)) nums
      (list_scan (scan_of (read_pair version) nums) least most nums)
  scans-pairs least most = scans-items least most (keeps-pair version) (scans-self _ nums)

  frame-keeps : Keeps (list_of 0 most_locals (stands_for (type_of version)))
  frame-keeps = keeps-list 0 most_locals (keeps-stands _)

  pub scans-frame : Scans (read_frame version) nums
      (λ at. on_scan (list_scan (scan_of (read_parameter version) nums) 0 most_parameters nums at)
      (list_scan (scan_of (stands_for (type_of version)) nums) 0 most_locals nums))
  unfolding read_frame
  scans-frame =
      scans-then (keeps-list 0 most_parameters (keeps-parameter version)) scans-parameters λ ps.
      scans-last frame-keeps scans-locals
      λ ls. scans-pure _

  pub scans-default : Scans (read_default version) nums
      (λ at. on_scan (scan_of (read_numeral version) nums at)
      (list_scan (scan_of (read_numeral version) nums) 0 most_arguments nums))
  unfolding read_default
  scans-default =
      scans-then (keeps-numeral version) (scans-self _ nums) λ d. scans-here λ c.
      scans-last (keeps-list 0 most_arguments (keeps-numeral version)) (scans-numerals 0 most_arguments) λ xs.
      scans-pure _

  unfoldable pub behind-head : ℕ → Option Ty → Reader Callable
  behind-head i returns =
      list_of 0 most_parameters (read_parameter version) >>= λ parameters.
      list_of 0 most_locals (stands_for (type_of version)) >>= λ locals.
      read_stmt version deepest >>= λ body.
      pure (record { at = i; returns = returns; parameters = parameters; locals = locals; body = body })

  pub keeps-returning : Keeps (read_returning version)
  unfolding read_returning
  keeps-returning = keeps_then (keeps-stands _) λ kind. keeps-returns version kind

  pub keeps-frame : Keeps (read_frame version)
  unfolding read_frame
  keeps-frame = keeps_then (keeps-list 0 most_parameters (keeps-parameter version)) λ ps. keeps_then frame-keeps λ ls.
      keeps-pure _

-- a callable's head
module _ (version : ℕ) (nums : List ℕ) (at n next : ℕ) (v : Value) (e : v ≡ value_of 0 1 nums at) where
  pub returning-action : v ≡ Of n next → n ≡ 0 → Past next ≡ scan_of (read_returning version) nums at
  unfolding read_returning read_returns
  returning-action p z =
      let i : IsValue 0 1 nums at n next = value-inv 0 1 nums at n next (sym e ∙ p) in
      rw (← i.after) (sym (stands-is (get_elem? (callable_kinds version)) (read_returns version) nums at kind_action
      i.inside (rw (i.same, z))
      ∙ (scans-pure _).scan (suc at)))

  pub returning-function : (r : Scan) → v ≡ Of n next → (n ≡ 0 → ⊥) → r ≡ scan_of (stands_for (type_of version)) nums next
      → r ≡ scan_of (read_returning version) nums at
  unfolding read_returning read_returns
  returning-function r p z q =
      let i : IsValue 0 1 nums at n next = value-inv 0 1 nums at n next (sym e ∙ p) in
      let o : n ≡ 1 = omega (arith, i.high) in
      q
      ∙ rw (← i.after) (sym (stands-is (get_elem? (callable_kinds version))
      (read_returns version) nums at kind_function i.inside (rw (i.same, o))
      ∙ (scans-last (keeps-stands _) (scans-self _ nums) (λ t. scans-pure _)).scan (suc at)))

pub returning-fault : (version : ℕ) (nums : List ℕ) (at f i : ℕ) (v : Value) → v ≡ value_of 0 1 nums at → v ≡ Unread f i
    → Fault f i ≡ scan_of (read_returning version) nums at
unfolding read_returning
returning-fault version nums at f i v e p =
    sym (scan-fault (stands_for (get_elem? (callable_kinds version))) (read_returns version) nums at f i
    (spans-scan nums at (spans-list (callable_kinds version) 1 refl) ∙ sym (between-fault 0 1 nums at f i v e p)))

-- a global: the type of a value, or a header type's number
some-header : (version n : ℕ) → is_some (or_header version n none) ≡ (leb 128 n && leb n 135)
unfolding is_some or_header
some-header version n = go (leb 128 n && leb n 135) refl
  where
    go : (b : Bool) → (leb 128 n && leb n 135) ≡ b → is_some (or_header version n none) ≡ b
    go true e = rw (or_header, e)
    go false e = rw (or_header, e)

some-global : (version n : ℕ) (x : Option Ty) → is_some x ≡ true → is_some (or_header version n x) ≡ true
unfolding is_some or_header
some-global version n none e = let z : ◌≡◌ {A = ℕ} 0 1 = cc in absurd (omega arith)
some-global version n (some t) e = refl

no_value : (version n : ℕ) (x : Option Ty) → is_some x ≡ false
    → is_some (or_header version n x) ≡ is_some (or_header version n none)
unfolding is_some or_header
no_value version n none e = refl
no_value version n (some t) e = let z : ◌≡◌ {A = ℕ} 0 1 = cc in absurd (omega arith)

module _ (version : ℕ) (nums : List ℕ) (at : ℕ) where
  scans-global : Scans (read_global version) nums (scan_of (stands_for (global_type_of version)) nums)
  unfolding read_global
  scans-global = scans-here λ i. scans-last (keeps-stands _) (scans-self _ nums) λ t. scans-pure _

  -- at a number that stands for the type of a value, and at one that does not
  global-value : (at < length nums → is_some (type_of version (get_or nums at 0)) ≡ true)
      → scan_of (stands_for (global_type_of version)) nums at ≡ scan_of (stands_for (type_of version)) nums at
  unfolding global_type_of
  global-value f = scan-like (global_type_of version) (type_of version) nums at
      (λ h. some-global version (get_or nums at 0) (type_of version (get_or nums at 0)) (f h) ∙ sym (f h))

  global-header : (at < length nums → is_some (type_of version (get_or nums at 0)) ≡ false)
      → scan_of (stands_for (global_type_of version)) nums at ≡ scan_of (between 128 135) nums at
  unfolding global_type_of between
  global-header f = scan-like (global_type_of version) (within 128 135) nums at
      (λ h. no_value version (get_or nums at 0) (type_of version (get_or nums at 0)) (f h)
      ∙ some-header version (get_or nums at 0) ∙ sym (some-within 128 135 (get_or nums at 0)))

  pub global-past : (n : ℕ) (a : Scan) → a ≡ scan_of (between 0 widest) nums at → a ≡ Past n
      → Past n ≡ scan_of (read_global version) nums at
  global-past n a e p =
      sym p ∙ e ∙ sym (spans-scan nums at (spans-type version))
      ∙ sym (global-value (λ h. stands-some (type_of version) nums at h n
      (spans-scan nums at (spans-type version) ∙ sym e ∙ p)))
      ∙ sym (scans-global.scan at)

  pub global-else : (f i : ℕ) (a r : Scan) → a ≡ scan_of (between 0 widest) nums at → a ≡ Fault f i
      → r ≡ scan_of (between 128 135) nums at
      → r ≡ scan_of (read_global version) nums at
  global-else f i a r e p q =
      q
      ∙ sym (global-header (λ h. stands-lacks (type_of version) nums at h f i
      (spans-scan nums at (spans-type version) ∙ sym e ∙ p)))
      ∙ sym (scans-global.scan at)

  -- the one, or else the other
  pub global-either : (s r : Result ℕ rules.Fault) (P : rules.Fault → Type 0) → told s ≡ scan_of (between 0 widest) nums at
      → MatchResult s (λ x. r ≡ Ok x) P → ((f : rules.Fault) → P f → told r ≡ scan_of (between 128 135) nums at)
      → told r ≡ scan_of (read_global version) nums at
  global-either (Ok n) r P e m t = rw m (global-past n (Past n) e refl)
  global-either (Err f) r P e m t = global-else (number_of f.reason) f.index (told (Err f)) (told r) e refl (t f m)

-- the steps of the parts' functions: a first thing past and then a second, or the first's fault
module _ (version : ℕ) (nums : List ℕ) (at : ℕ) (a : Scan) where
  pub parameter-past : (n : ℕ) (r : Scan) → a ≡ scan_of (stands_for (get_elem? (directions version))) nums at → a ≡ Past n
      → r ≡ scan_of (stands_for (type_of version)) nums n
      → r ≡ scan_of (read_parameter version) nums at
  parameter-past n r q p h = seq-past _ _ _ ((scans-parameter version nums).scan at) a q n r p h

  pub parameter-fault : (f i : ℕ) → a ≡ scan_of (stands_for (get_elem? (directions version))) nums at → a ≡ Fault f i
      → Fault f i ≡ scan_of (read_parameter version) nums at
  parameter-fault f i q p = seq-fault _ _ _ ((scans-parameter version nums).scan at) a q f i p

  pub frame-fault : (f i : ℕ) → a ≡ list_scan (scan_of (read_parameter version) nums) 0 most_parameters nums at → a ≡ Fault f i
      → Fault f i ≡ scan_of (read_frame version) nums at
  frame-fault f i q p = seq-fault _ _ _ ((scans-frame version nums).scan at) a q f i p

  pub default-fault : (f i : ℕ) → a ≡ scan_of (read_numeral version) nums at → a ≡ Fault f i
      → Fault f i ≡ scan_of (read_default version) nums at
  default-fault f i q p = seq-fault _ _ _ ((scans-default version nums).scan at) a q f i p

module _ (version : ℕ) (nums : List ℕ) (at n : ℕ) (r : Scan) where
  pub frame_past : (parameter ty : ℕ → Result ℕ rules.Fault → Type 0)
      → Lists parameter 0 most_parameters nums at (Past n) → Lists ty 0 most_locals nums n r
      → Tells parameter (scan_of (read_parameter version) nums) → Tells ty (scan_of (stands_for (type_of version)) nums)
      → r ≡ scan_of (read_frame version) nums at
  frame_past parameter ty w v t u =
      seq-past _ _ _ ((scans-frame version nums).scan at) (Past n) (w.scan _ t) n r refl (v.scan _ u)

  pub default-past : (numeral : ℕ → Result ℕ rules.Fault → Type 0) → Past n ≡ scan_of (read_numeral version) nums at
      → Lists numeral 0 most_arguments nums n r → Tells numeral (scan_of (read_numeral version) nums)
      → r ≡ scan_of (read_default version) nums at
  default-past numeral q w t = seq-past _ _ _ ((scans-default version nums).scan at) (Past n) q n r refl (w.scan _ t)

pub ruleset parts = (
  lists-scan,
  numeral-is,
  pair_is,
  direction-is,
  key-kind-is,
  type-is,
  parameter-past,
  parameter-fault,
  header_is,
  returning-action,
  returning-function,
  returning-fault,
  frame_past,
  frame-fault,
  default-past,
  default-fault,
)
