-- Scanning, step by step: what a reader's scan is at a number, behind another reader, and over a list.
use mathlib.Core.Bool.{Bool, true, false, ◌&&◌}
use mathlib.Core.Option.{Option, none, some}
use mathlib.Core.Path.{◌≡◌, refl, sym, ◌∙◌}
use mathlib.Core.List.{List, [], ◌∷◌}
use Prim.Native.Nat.{ℕ, zero, suc, ◌+◌, ◌≤◌, ◌<◌}
use native.Mathlib.Omega.{arith}
use native.Mathlib.Numerals.{add-one}
use lib.ListN.{length, get_or, drop, get_elem?}
use lib.Dec.{ltb, leb, leb-zero, leb-suc-suc}
use borrow.Author.Tests.{lt-ltb, le-ltb, le-leb, lt-leb, ltb-true, ltb-false}
use Rattle.rules.specs.Reading.{Got, got, bad, Reader, and_then, ◌>>=◌, pure, here, number, meaning, looked_up, stands_for, between, within, repeat, list_of, too_deep}
use Rattle.rules.proofs.Readers.{Kept, Keeps, keeps-pure, keeps-repeat, keeps-between, looked-in, looked-out, number_in, number-out, deep_in, deep_out}
use Rattle.shape.specs.Scans.{forget, scan_of, Scan, Past, Fault}
use Rattle.shape.specs.Leads.{on_scan, valued, value_of, on_value, Value, Of, Unread}

-- a number of any value
pub number-is : (nums : List ℕ) (at : ℕ) → at < length nums → Past (at + 1) ≡ scan_of number nums at
unfolding scan_of forget
number-is nums at h = rw (number_in nums at h, add-one at)

pub number-missing : (nums : List ℕ) (at : ℕ) → length nums ≤ at → Fault 4 at ≡ scan_of number nums at
unfolding scan_of forget
number-missing nums at h = rw (number-out nums at h)

-- a number from a least to a most
within-is : (least most n : ℕ) → least ≤ n → n ≤ most → within least most n ≡ some n
unfolding within
within-is least most n h k = rw (within, le-leb least n h, le-leb n most k)

within_low : (least most n : ℕ) → n < least → within least most n ≡ none
unfolding within
within_low least most n h = rw (within, lt-leb least n h)

within-high : (least most n : ℕ) → least ≤ n → most < n → within least most n ≡ none
unfolding within
within-high least most n h k = rw (within, le-leb least n h, lt-leb n most k)

pub value-is : (least most : ℕ) (nums : List ℕ) (at : ℕ) → at < length nums → least ≤ get_or nums at 0
    → get_or nums at 0 ≤ most
    → Of (get_or nums at 0) (at + 1) ≡ value_of least most nums at
unfolding value_of valued between stands_for meaning
value-is least most nums at h l m =
    rw (looked-in 4 (within least most) nums at h, within-is least most (get_or nums at 0) l m, add-one at)

pub value_low : (least most : ℕ) (nums : List ℕ) (at : ℕ) → at < length nums → get_or nums at 0 < least
    → Unread 4 at ≡ value_of least most nums at
unfolding value_of valued between stands_for meaning
value_low least most nums at h l =
    rw (looked-in 4 (within least most) nums at h, within_low least most (get_or nums at 0) l)

pub value-high : (least most : ℕ) (nums : List ℕ) (at : ℕ) → at < length nums → least ≤ get_or nums at 0
    → most < get_or nums at 0
    → Unread 4 at ≡ value_of least most nums at
unfolding value_of valued between stands_for meaning
value-high least most nums at h l m =
    rw (looked-in 4 (within least most) nums at h, within-high least most (get_or nums at 0) l m)

pub value-missing : (least most : ℕ) (nums : List ℕ) (at : ℕ) → length nums ≤ at
    → Unread 4 at ≡ value_of least most nums at
unfolding value_of valued between stands_for
value-missing least most nums at h = rw (looked-out 4 (within least most) nums at h)

-- with its value forgotten
between-by : (least most : ℕ) (nums : List ℕ) (at : ℕ)
    → scan_of (between least most) nums at ≡ on_value (value_of least most nums at) (λ n next. Past next)
unfolding scan_of forget value_of valued on_value
between-by least most nums at = go (between least most (drop at nums) at)
  where
    go : (x : Got ℕ) → forget x ≡ on_value (valued x) (λ n next. Past next)
    go (got n left next) = refl
    go (bad fault index) = refl

pub between-past : (least most : ℕ) (nums : List ℕ) (at n next : ℕ) (v : Value) → v ≡ value_of least most nums at
    → v ≡ Of n next
    → Past next ≡ scan_of (between least most) nums at
unfolding on_value
between-past least most nums at n next v e p = sym (rw (← e, p) at (between-by least most nums at))

pub between-fault : (least most : ℕ) (nums : List ℕ) (at fault index : ℕ) (v : Value) → v ≡ value_of least most nums at
    → v ≡ Unread fault index
    → Fault fault index ≡ scan_of (between least most) nums at
unfolding on_value
between-fault least most nums at fault index v e p = sym (rw (← e, p) at (between-by least most nums at))

-- no further level
pub deep_is : (nums : List ℕ) (at : ℕ) → at < length nums → Fault 5 at ≡ scan_of (too_deep {A = ℕ}) nums at
unfolding scan_of forget
deep_is nums at h = rw (deep_in {A = ℕ} nums at h)

pub deep-missing : (nums : List ℕ) (at : ℕ) → length nums ≤ at → Fault 4 at ≡ scan_of (too_deep {A = ℕ}) nums at
unfolding scan_of forget
deep-missing nums at h = rw (deep_out {A = ℕ} nums at h)

pub deep-same : (A : Type 0) (nums : List ℕ) (at : ℕ)
    → scan_of (too_deep {A = ℕ}) nums at ≡ scan_of (too_deep {A = A}) nums at
unfolding scan_of forget too_deep
deep-same A nums at = go (drop at nums)
  where
    go : (left : List ℕ) → forget (too_deep {A = ℕ} left at) ≡ forget (too_deep {A = A} left at)
    go [] = refl
    go (n ∷ left) = refl

pub ruleset leaves = (
  number-is,
  number-missing,
  value-is,
  value_low,
  value-high,
  value-missing,
  between-past,
  between-fault,
  deep_is,
  deep-missing,
)

-- one reader behind another
pub on-past : (a r : Scan) (n : ℕ) (k : ℕ → Scan) → a ≡ Past n → r ≡ k n → r ≡ on_scan a k
unfolding on_scan
on-past a r n k p q = rw p q

pub on-fault : (a : Scan) (number index : ℕ) (k : ℕ → Scan) → a ≡ Fault number index → Fault number index ≡ on_scan a k
unfolding on_scan
on-fault a number index k p = rw p

pub on_same : (a : Scan) (k l : ℕ → Scan) → ((n : ℕ) → k n ≡ l n) → on_scan a k ≡ on_scan a l
unfolding on_scan
on_same (Past n) k l e = e n
on_same (Fault number index) k l e = refl

pub on-last : (a : Scan) → on_scan a Past ≡ a
unfolding on_scan
on-last (Past n) = refl
on-last (Fault number index) = refl

-- how a reader scans: with the rest of the list forgotten too
pub record Scans {A : Type 0} (read : Reader A) (nums : List ℕ) (t : ℕ → Scan) : Type 0 where
  pub scan : (at : ℕ) → scan_of read nums at ≡ t at

pub scans-self : {A : Type 0} (read : Reader A) (nums : List ℕ) → Scans read nums (scan_of read nums)
scans-self read nums = record { scan = λ at. refl }

-- where what the second reads does not depend on what the first has read
pub scans-then : {A B : Type 0} {read : Reader A} {k : A → Reader B} {nums : List ℕ} {s t : ℕ → Scan} → Keeps read
    → Scans read nums s
    → ((a : A) → Scans (k a) nums t) → Scans (read >>= k) nums (λ at. on_scan (s at) t)
unfolding scan_of forget ◌>>=◌ and_then on_scan Kept
scans-then {A} {B} {read} {k} {nums} {s} {t} h f g =
    record { scan = λ at. rw (← f.scan at) (go at (read (drop at nums) at) (h.kept nums at)) }
  where
    go : (at : ℕ) (x : Got A) → Kept nums at x → forget (and_then x k) ≡ on_scan (forget x) t
    go at (got a left next) l = rw l.rest ((g a).scan next)
    go at (bad fault index) l = refl

pub scans-pure : {A : Type 0} (a : A) {nums : List ℕ} → Scans (pure a) nums Past
unfolding scan_of forget pure
scans-pure a = record { scan = λ at. refl }

pub scans-here : {A : Type 0} {k : ℕ → Reader A} {nums : List ℕ} {t : ℕ → Scan} → ((at : ℕ) → Scans (k at) nums t)
    → Scans (here >>= k) nums t
unfolding scan_of here ◌>>=◌ and_then
scans-here f = record { scan = λ at. (f at).scan at }

pub scan-here : {A : Type 0} (nums : List ℕ) (at : ℕ) (k : ℕ → Reader A)
    → scan_of (here >>= k) nums at ≡ scan_of (k at) nums at
unfolding scan_of here ◌>>=◌ and_then
scan-here nums at k = refl

-- at the end of a construct the tree is made, and forgotten
pub scans-last : {A B : Type 0} {read : Reader A} {k : A → Reader B} {nums : List ℕ} {s : ℕ → Scan} → Keeps read
    → Scans read nums s
    → ((a : A) → Scans (k a) nums Past) → Scans (read >>= k) nums s
scans-last {s = s} h f g = record { scan = λ at. (scans-then h f g).scan at ∙ on-last (s at) }

-- the same readers scan the same
pub scans-as : {A B : Type 0} {read : Reader A} {other : Reader B} {nums : List ℕ} {t : ℕ → Scan} → Scans read nums t
    → Scans other nums t
    → Scans read nums (scan_of other nums)
scans-as f g = record { scan = λ at. f.scan at ∙ sym (g.scan at) }

-- a number of a list of the page
module _ {A B : Type 0} (what : ℕ → Option A) (k : A → Reader B) (nums : List ℕ) (at : ℕ) where
  pub stands-is : (a : A) → at < length nums → what (get_or nums at 0) ≡ some a
      → scan_of (stands_for what >>= k) nums at ≡ scan_of (k a) nums (suc at)
  unfolding scan_of stands_for ◌>>=◌ and_then meaning
  stands-is a h e = rw (looked-in 4 what nums at h, e)

  pub stands-none : at < length nums → what (get_or nums at 0) ≡ none → scan_of (stands_for what >>= k) nums at ≡ Fault 4 at
  unfolding scan_of forget stands_for ◌>>=◌ and_then meaning
  stands-none h e = rw (looked-in 4 what nums at h, e)

  pub stands-out : length nums ≤ at → scan_of (stands_for what >>= k) nums at ≡ Fault 4 at
  unfolding scan_of forget stands_for ◌>>=◌ and_then
  stands-out h = rw (looked-out 4 what nums at h)

-- a list of members
pub repeat-none : {A : Type 0} (one : Reader A) (nums : List ℕ) (k at : ℕ) → k ≡ 0
    → Past at ≡ scan_of (repeat k one) nums at
unfolding repeat
repeat-none one nums k at e = rw e (sym ((scans-pure []).scan at))

pub scans-repeat : {A : Type 0} {one : Reader A} {nums : List ℕ} {s : ℕ → Scan} (k : ℕ) → Keeps one → Scans one nums s
    → Scans (repeat (suc k) one) nums (λ at. on_scan (s at) (scan_of (repeat k one) nums))
unfolding repeat
scans-repeat {A} {one} {nums} k h f =
    scans-then h f λ a. scans-last (keeps-repeat k h) (scans-self (repeat k one) nums) λ rest. scans-pure _

-- a list of the page that has an entry just for the numbers of a range scans as the range does
unfoldable pub is_some : {A : Type 0} → Option A → Bool
is_some none = false
is_some (some a) = true

pub record Spans {A : Type 0} (what : ℕ → Option A) (least most : ℕ) : Type 0 where
  pub span : (n : ℕ) → is_some (what n) ≡ (leb least n && leb n most)

within_both : (least most n : ℕ) → (leb least n && leb n most) ≡ true → within least most n ≡ some n
unfolding within
within_both least most n e = rw (within, e)

within-not : (least most n : ℕ) → (leb least n && leb n most) ≡ false → within least most n ≡ none
unfolding within
within-not least most n e = rw (within, e)

pub some-within : (least most n : ℕ) → is_some (within least most n) ≡ (leb least n && leb n most)
unfolding is_some
some-within least most n = go (leb least n && leb n most) refl
  where
    go : (b : Bool) → (leb least n && leb n most) ≡ b → is_some (within least most n) ≡ b
    go true e = rw (within_both least most n e)
    go false e = rw (within-not least most n e)

same-meaning : {A B : Type 0} (x : Option A) (y : Option B) (left : List ℕ) (at : ℕ) → is_some x ≡ is_some y
    → forget (meaning 4 x left at) ≡ forget (meaning 4 y left at)
unfolding is_some forget meaning
same-meaning none none left at e = refl
same-meaning none (some b) left at e = let z : ◌≡◌ {A = ℕ} 0 1 = cc in absurd (omega arith)
same-meaning (some a) none left at e = let z : ◌≡◌ {A = ℕ} 0 1 = cc in absurd (omega arith)
same-meaning (some a) (some b) left at e = refl

-- two lists scan the same at a number that both have or both lack
pub scan-like : {A B : Type 0} (what : ℕ → Option A) (like : ℕ → Option B) (nums : List ℕ) (at : ℕ)
    → (at < length nums → is_some (what (get_or nums at 0)) ≡ is_some (like (get_or nums at 0)))
    → scan_of (stands_for what) nums at ≡ scan_of (stands_for like) nums at
unfolding scan_of forget stands_for
scan-like what like nums at s = go (ltb at (length nums)) refl
  where
    go : (b : Bool) → ltb at (length nums) ≡ b
        → forget (looked_up 4 what (drop at nums) at) ≡ forget (looked_up 4 like (drop at nums) at)
    go true e =
        let h : at < length nums = ltb-true at (length nums) e in
        rw (looked-in 4 what nums at h, looked-in 4 like nums at h)
        (same-meaning (what (get_or nums at 0)) (like (get_or nums at 0)) (drop (suc at) nums) at (s h))
    go false e =
        let h : length nums ≤ at = ltb-false at (length nums) e in
        rw (looked-out 4 what nums at h, looked-out 4 like nums at h)

pub spans-scan : {A : Type 0} {what : ℕ → Option A} {least most : ℕ} (nums : List ℕ) (at : ℕ) → Spans what least most
    → scan_of (stands_for what) nums at ≡ scan_of (between least most) nums at
unfolding between
spans-scan {A} {what} {least} {most} nums at s = scan-like what (within least most) nums at
    (λ h. s.span (get_or nums at 0) ∙ sym (some-within least most (get_or nums at 0)))

some_at : {A : Type 0} (l : List A) (n : ℕ) → is_some (get_elem? l n) ≡ ltb n (length l)
unfolding is_some
some_at [] n = sym (le-ltb n 0 (omega arith))
some_at (a ∷ l) zero = sym (lt-ltb 0 (suc (length l)) (omega arith))
some_at (a ∷ l) (suc n) = some_at l n ∙ sym (leb-suc-suc (suc n) (length l))

pub spans-list : {A : Type 0} (l : List A) (last : ℕ) → length l ≡ suc last → Spans (get_elem? l) 0 last
spans-list l last e = record { span = λ n. some_at l n ∙ rw (e, leb-suc-suc n last, leb-zero n) }

-- lists of no, one and two members, and of as many as a count says
pub scans-none : {A B : Type 0} (one : Reader A) (b : B) {nums : List ℕ}
    → Scans (pure b) nums (scan_of (repeat 0 one) nums)
unfolding repeat scan_of forget pure
scans-none one b = record { scan = λ at. refl }

pub scans-one : {A : Type 0} {one : Reader A} {nums : List ℕ} → Keeps one → Scans (repeat 1 one) nums (scan_of one nums)
unfolding repeat
scans-one {A} {one} {nums} h =
    scans-last h (scans-self one nums) λ a. scans-last (keeps-pure []) (scans-pure []) λ rest. scans-pure _

pub scans-two : {A : Type 0} {one : Reader A} {nums : List ℕ} → Keeps one
    → Scans (repeat 2 one) nums (λ at. on_scan (scan_of one nums at) (scan_of one nums))
unfolding repeat
scans-two {A} {one} {nums} h =
    scans-then h (scans-self one nums) λ a. scans-last (keeps-repeat 1 h) (scans-one h) λ rest. scans-pure _

pub list-scan : {A : Type 0} {one : Reader A} (least most : ℕ) (nums : List ℕ) (at : ℕ) → Keeps one
    → scan_of (list_of least most one) nums at
    ≡ on_value (value_of least most nums at) (λ n next. scan_of (repeat n one) nums next)
unfolding list_of scan_of forget ◌>>=◌ and_then value_of valued on_value Kept
list-scan {A} {one} least most nums at h =
    go (between least most (drop at nums) at) ((keeps-between least most).kept nums at)
  where
    go : (x : Got ℕ) → Kept nums at x
        → forget (and_then x (λ n. repeat n one))
        ≡ on_value (valued x) (λ n next. forget (repeat n one (drop next nums) next))
    go (got n left next) l = rw l.rest
    go (bad fault index) l = refl

-- a value is at most the most
unfoldable pub AtMost : ℕ → Value → Type 0
AtMost most (Of n next) = n ≤ most
AtMost most (Unread fault index) = Unit

pub value-most : (least most : ℕ) (nums : List ℕ) (at : ℕ) → AtMost most (value_of least most nums at)
unfolding AtMost
value-most least most nums at = go (ltb at (length nums)) refl
  where
    in-range : at < length nums → (b : Bool) → ltb (get_or nums at 0) least ≡ b → (d : Bool)
        → ltb most (get_or nums at 0) ≡ d
        → AtMost most (value_of least most nums at)
    in-range h true e d f = rw (← value_low least most nums at h (ltb-true (get_or nums at 0) least e)) tt
    in-range h false e true f =
        rw (← value-high least most nums at h (ltb-false (get_or nums at 0) least e) (ltb-true most (get_or nums at 0) f))
        tt
    in-range h false e false f =
        rw (← value-is least most nums at h (ltb-false (get_or nums at 0) least e) (ltb-false most (get_or nums at 0) f))
        (ltb-false most (get_or nums at 0) f)

    go : (b : Bool) → ltb at (length nums) ≡ b → AtMost most (value_of least most nums at)
    go true e =
        in-range (ltb-true at (length nums) e) (ltb (get_or nums at 0) least) refl (ltb most (get_or nums at 0)) refl
    go false e = rw (← value-missing least most nums at (ltb-false at (length nums) e)) tt

-- what a value read tells of the number at its index
pub record IsValue (least most : ℕ) (nums : List ℕ) (at n next : ℕ) : Type 0 where
  pub inside : at < length nums
  pub same : get_or nums at 0 ≡ n
  pub after : suc at ≡ next
  pub low : least ≤ n
  pub high : n ≤ most

pub value-inv : (least most : ℕ) (nums : List ℕ) (at n next : ℕ) → value_of least most nums at ≡ Of n next
    → IsValue least most nums at n next
value-inv least most nums at n next p = go (ltb at (length nums)) refl
  where
    never : (f i : ℕ) → Unread f i ≡ value_of least most nums at → IsValue least most nums at n next
    never f i q = let z : ◌≡◌ {A = ℕ} 0 1 = cc in absurd (omega arith)

    in-range : at < length nums → (b : Bool) → ltb (get_or nums at 0) least ≡ b → (d : Bool)
        → ltb most (get_or nums at 0) ≡ d
        → IsValue least most nums at n next
    in-range h true e d f = never 4 at (value_low least most nums at h (ltb-true (get_or nums at 0) least e))
    in-range h false e true f =
        never 4 at (value-high least most nums at h (ltb-false (get_or nums at 0) least e)
        (ltb-true most (get_or nums at 0) f))
    in-range h false e false f =
        let l : least ≤ get_or nums at 0 = ltb-false (get_or nums at 0) least e in
        let m : get_or nums at 0 ≤ most = ltb-false most (get_or nums at 0) f in
        let q : Of (get_or nums at 0) (at + 1) ≡ Of n next = value-is least most nums at h l m ∙ p in
        let v : get_or nums at 0 ≡ n = cc in
        let w : at + 1 ≡ next = cc in
        record { inside = h; same = v; after = rw (← w) (sym (add-one at)); low = rw (← v) l; high = rw (← v) m }

    go : (b : Bool) → ltb at (length nums) ≡ b → IsValue least most nums at n next
    go true e =
        in-range (ltb-true at (length nums) e) (ltb (get_or nums at 0) least) refl (ltb most (get_or nums at 0)) refl
    go false e = never 4 at (value-missing least most nums at (ltb-false at (length nums) e))

-- a fault of the first is the fault of the whole
pub scan-fault : {A B : Type 0} (read : Reader A) (k : A → Reader B) (nums : List ℕ) (at f i : ℕ)
    → scan_of read nums at ≡ Fault f i
    → scan_of (read >>= k) nums at ≡ Fault f i
unfolding scan_of forget ◌>>=◌ and_then
scan-fault {A} read k nums at f i e = go (read (drop at nums) at) e
  where
    go : (x : Got A) → forget x ≡ Fault f i → forget (and_then x k) ≡ Fault f i
    go (got a left next) q = let z : ◌≡◌ {A = ℕ} 0 1 = cc in absurd (omega arith)
    go (bad fault index) q = q

-- two steps of code: the first past and the second, or the first's fault
module _ (x s : Scan) (k : ℕ → Scan) (e : x ≡ on_scan s k) (a : Scan) (q : a ≡ s) where
  pub seq-past : (n : ℕ) (r : Scan) → a ≡ Past n → r ≡ k n → r ≡ x
  seq-past n r p h = on-past s r n k (sym q ∙ p) h ∙ sym e

  pub seq-fault : (f i : ℕ) → a ≡ Fault f i → Fault f i ≡ x
  seq-fault f i p = on-fault s f i k (sym q ∙ p) ∙ sym e

-- what a scan by a list tells of the number
module _ {A : Type 0} (what : ℕ → Option A) (nums : List ℕ) (at : ℕ) (h : at < length nums) where
  pub stands-some : (n : ℕ) → scan_of (stands_for what) nums at ≡ Past n → is_some (what (get_or nums at 0)) ≡ true
  unfolding scan_of forget stands_for meaning is_some
  stands-some n e = go (what (get_or nums at 0)) (rw (looked-in 4 what nums at h) at e)
    where
      go : (x : Option A) → forget (meaning 4 x (drop (suc at) nums) at) ≡ Past n → is_some x ≡ true
      go none q = let z : ◌≡◌ {A = ℕ} 0 1 = cc in absurd (omega arith)
      go (some a) q = refl

  pub stands-lacks : (f i : ℕ) → scan_of (stands_for what) nums at ≡ Fault f i → is_some (what (get_or nums at 0)) ≡ false
  unfolding scan_of forget stands_for meaning is_some
  stands-lacks f i e = go (what (get_or nums at 0)) (rw (looked-in 4 what nums at h) at e)
    where
      go : (x : Option A) → forget (meaning 4 x (drop (suc at) nums) at) ≡ Fault f i → is_some x ≡ false
      go none q = refl
      go (some a) q = let z : ◌≡◌ {A = ℕ} 0 1 = cc in absurd (omega arith)
