-- What scanning lays into slots, step by step: behind another reader, over a list, and at a fault.
use mathlib.Core.Option.{Option, none, some}
use mathlib.Core.Path.{◌≡◌, refl, sym, ◌∙◌}
use mathlib.Core.List.{List, [], ◌∷◌}
use Prim.Native.Nat.{ℕ, zero, suc, ◌+◌, ◌-◌, ◌≤◌, ◌<◌}
use native.Mathlib.Nat.{sub-zero}
use native.Mathlib.Omega.{arith}
use native.Mathlib.Numerals.{sub-one}
use lib.ListN.{drop}
use Rattle.rules.specs.Reading.{Got, got, bad, Reader, and_then, ◌>>=◌, pure, meaning, looked_up, stands_for, between, within, repeat, list_of, too_deep}
use Rattle.rules.proofs.Readers.{Kept, Keeps, keeps-between, Given, Starts}
use Rattle.shape.specs.Scans.{forget, scan_of, Scan, Past, Fault}
use Rattle.shape.specs.Ends.{first_at, lay_all}
use Rattle.shape.specs.Leads.{valued, value_of, Value, Of, Unread}
use Rattle.shape.specs.Walks.{Laid, Lays, no_ends}
use Rattle.shape.proofs.Laws.{deep-same, repeat-none}

-- what a reader that was scanned gave, with the slots that it filled
pub record Done {A : Type 0} (read : Reader A) (lay : A → ℕ → List ℕ → List ℕ) (nums : List ℕ) (at : ℕ)
    (found filled : List ℕ) (next : ℕ) (a : A) : Type 0 where
  pub gave : read (drop at nums) at ≡ got a (drop next nums) next
  pub laid : filled ≡ lay a next found

module _ {A : Type 0} {read : Reader A} {lay : A → ℕ → List ℕ → List ℕ} {nums : List ℕ} {at : ℕ}
    {found filled : List ℕ} {x : Scan} where
  pub lays-done : Keeps read → Lays read lay nums at found filled x → (n : ℕ) → x ≡ Past n
      → (a : A) × Done read lay nums at found filled n a
  unfolding scan_of forget Laid Kept
  lays-done h w n p = go (read (drop at nums) at) refl (h.kept nums at) w.laid (sym w.scan ∙ p)
    where
      go : (y : Got A) → read (drop at nums) at ≡ y → Kept nums at y → Laid y lay found filled → forget y ≡ Past n
          → (a : A) × Done read lay nums at found filled n a
      go (bad fault index) e k l q = let z : ◌≡◌ {A = ℕ} 0 1 = cc in absurd (omega arith)
      go (got a left next) e k l q =
          let same : next ≡ n = cc in
          (a, record { gave = e ∙ rw (k.rest, same); laid = rw (← same) l })

  pub lays-bad : Lays read lay nums at found filled x → (f i : ℕ) → x ≡ Fault f i → read (drop at nums) at ≡ bad f i
  unfolding scan_of forget
  lays-bad w f i p = go (read (drop at nums) at) (sym w.scan ∙ p)
    where
      go : (y : Got A) → forget y ≡ Fault f i → y ≡ bad f i
      go (bad fault index) q =
          let v : fault ≡ f = cc in
          let u : index ≡ i = cc in
          rw (v, u)
      go (got a left next) q = let z : ◌≡◌ {A = ℕ} 0 1 = cc in absurd (omega arith)

-- one reader and then another, each laying its own; a fault of the first
pub lays-then : {A B C : Type 0} {first : Reader A} {second : Reader B} (make : A → B → C)
    {lay_first : A → ℕ → List ℕ → List ℕ} {lay_second : B → ℕ → List ℕ → List ℕ} (lay : C → ℕ → List ℕ → List ℕ)
    → ((a : A) (b : B) (m next : ℕ) (slots : List ℕ) → lay_second b next (lay_first a m slots) ≡ lay
    (make a b) next slots)
    → {nums : List ℕ} {at n : ℕ} {found mid filled : List ℕ} {x r : Scan} → Keeps first
    → Lays first lay_first nums at found mid x → x ≡ Past n → Lays second lay_second nums n mid filled r
    → Lays (first >>= λ a. second >>= λ b. pure (make a b)) lay nums at found filled r
unfolding scan_of forget Laid ◌>>=◌ and_then pure
lays-then {A} {B} {C} {first} {second} make {lay_first} {lay_second} lay both {nums} {at} {n} {found} {mid} {filled} {x}
    {r} h w p v =
    let d : (a : A) × Done first lay_first nums at found mid n a = lays-done h w n p in
    let y : Got B = second (drop n nums) n in
    record {
      scan = v.scan ∙ rw d.1.gave (same d.0 y);
      laid = rw d.1.gave (go d.0 y d.1.laid v.laid);
    }
  where
    same : (a : A) (y : Got B) → forget y ≡ forget (and_then y (λ b. pure (make a b)))
    same a (got b left next) = refl
    same a (bad fault index) = refl

    go : (a : A) (y : Got B) → mid ≡ lay_first a n found → Laid y lay_second mid filled
        → Laid (and_then y (λ b. pure (make a b))) lay found filled
    go a (got b left next) m l = l ∙ rw m (both a b n next found)
    go a (bad fault index) m l = tt

pub lays-fault : {A C : Type 0} {first : Reader A} (k : A → Reader C) {lay_first : A → ℕ → List ℕ → List ℕ}
    (lay : C → ℕ → List ℕ → List ℕ)
    {nums : List ℕ} {at f i : ℕ} {found filled : List ℕ} {x : Scan} (mid : List ℕ)
    → Lays first lay_first nums at found filled x → x ≡ Fault f i
    → Lays (first >>= k) lay nums at mid filled (Fault f i)
unfolding scan_of forget Laid ◌>>=◌ and_then
lays-fault k lay {f = f} {i = i} mid w p = record { scan = rw (lays-bad w f i p); laid = rw (lays-bad w f i p) tt }

-- what reads the same, perhaps from an index on
pub lays-as : {A : Type 0} {read other : Reader A} {lay : A → ℕ → List ℕ → List ℕ} {nums : List ℕ} {at next : ℕ}
    {found filled : List ℕ} {r : Scan}
    → read (drop at nums) at ≡ other (drop next nums) next → Lays other lay nums next found filled r
    → Lays read lay nums at found filled r
unfolding scan_of
lays-as e w = record { scan = rw e w.scan; laid = rw e w.laid }

-- a fault tells nothing of the slots
pub lays-none : {A : Type 0} (read : Reader A) (lay : A → ℕ → List ℕ → List ℕ) (nums : List ℕ) (at f i : ℕ)
    (found filled : List ℕ) → Fault f i ≡ scan_of read nums at
    → Lays read lay nums at found filled (Fault f i)
unfolding scan_of forget Laid
lays-none {A} read lay nums at f i found filled e = record { scan = e; laid = go (read (drop at nums) at) e }
  where
    go : (x : Got A) → Fault f i ≡ forget x → Laid x lay found filled
    go (bad fault index) q = tt
    go (got a left next) q = let z : ◌≡◌ {A = ℕ} 0 1 = cc in absurd (omega arith)

pub lays-deep : {A : Type 0} (lay : A → ℕ → List ℕ → List ℕ) (nums : List ℕ) (at : ℕ) (found filled : List ℕ)
    (r : Scan) → r ≡ scan_of (too_deep {A = ℕ}) nums at
    → Lays too_deep lay nums at found filled r
unfolding Laid too_deep
lays-deep {A} lay nums at found filled r e = record { scan = e ∙ deep-same A nums at; laid = go (drop at nums) }
  where
    go : (left : List ℕ) → Laid (too_deep {A = A} left at) lay found filled
    go [] = tt
    go (n ∷ left) = tt

-- where that which ends at an index begins
unfoldable pub BegunAt : {A : Type 0} → (A → ℕ → ℕ) → ℕ → Got A → Type 0
BegunAt start at (got a left next) = start a next ≡ at
BegunAt start at (bad number index) = Unit

pub record Begins {A : Type 0} (start : A → ℕ → ℕ) (read : Reader A) : Type 0 where
  pub begun : (left : List ℕ) (at : ℕ) → BegunAt start at (read left at)

pub begins-repeat : {A : Type 0} {start : A → ℕ} {one : Reader A} (n : ℕ) → Starts start one
    → Begins (first_at start) (repeat n one)
unfolding BegunAt Given repeat pure ◌>>=◌ and_then first_at
begins-repeat zero s = record { begun = λ left at. refl }
begins-repeat {A} {start} {one} (suc n) s = record { begun = λ left at. go at (one left at) (s.started left at) }
  where
    inner : (at : ℕ) (a : A) (y : Got (List A)) → start a ≡ at
        → BegunAt (first_at start) at (and_then y (λ rest. pure (a ∷ rest)))
    inner at a (got rest left next) g = g
    inner at a (bad fault index) g = tt

    go : (at : ℕ) (x : Got A) → Given (λ a. start a ≡ at) x
        → BegunAt (first_at start) at (and_then x (λ a. repeat n one >>= λ rest. pure (a ∷ rest)))
    go at (got a left next) g = inner at a (repeat n one left next) g
    go at (bad fault index) g = tt

-- one reader and then another, where the first ends where the second begins
pub lays-next : {A B C : Type 0} {first : Reader A} {second : Reader B} (make : A → B → C)
    {lay_first : A → ℕ → List ℕ → List ℕ} {lay_second : B → ℕ → List ℕ → List ℕ} (lay : C → ℕ → List ℕ → List ℕ)
    (start : B → ℕ → ℕ)
    → ((a : A) (b : B) (next : ℕ) (slots : List ℕ) → lay_second b next (lay_first a (start b next) slots) ≡ lay
    (make a b) next slots)
    → {nums : List ℕ} {at n : ℕ} {found mid filled : List ℕ} {x r : Scan} → Keeps first → Begins start second
    → Lays first lay_first nums at found mid x → x ≡ Past n → Lays second lay_second nums n mid filled r
    → Lays (first >>= λ a. second >>= λ b. pure (make a b)) lay nums at found filled r
unfolding scan_of forget Laid BegunAt ◌>>=◌ and_then pure
lays-next {A} {B} {C} {first} {second} make {lay_first} {lay_second} lay start both {nums} {at} {n} {found} {mid} {filled}
    {x} {r} h s w p v =
    let d : (a : A) × Done first lay_first nums at found mid n a = lays-done h w n p in
    let y : Got B = second (drop n nums) n in
    record {
      scan = v.scan ∙ rw d.1.gave (same d.0 y);
      laid = rw d.1.gave (go d.0 y (s.begun (drop n nums) n) d.1.laid v.laid);
    }
  where
    same : (a : A) (y : Got B) → forget y ≡ forget (and_then y (λ b. pure (make a b)))
    same a (got b left next) = refl
    same a (bad fault index) = refl

    go : (a : A) (y : Got B) → BegunAt start n y → mid ≡ lay_first a n found → Laid y lay_second mid filled
        → Laid (and_then y (λ b. pure (make a b))) lay found filled
    go a (got b left next) e m l = l ∙ rw (m, ← e) (both a b next found)
    go a (bad fault index) e m l = tt

-- so many, one after the other
module _ {A : Type 0} (start : A → ℕ) (lay : A → ℕ → List ℕ → List ℕ) (one : Reader A) (nums : List ℕ) (at count : ℕ)
  where
    pub all_none : (found : List ℕ) → count ≡ 0
        → Lays (repeat count one) (lay_all start lay) nums at found found (Past at)
    unfolding repeat pure Laid lay_all
    all_none found e = record { scan = repeat-none one nums count at e; laid = rw e refl }

    pub all_past : Keeps one → Starts start one → (n : ℕ) (found mid filled : List ℕ) (a b r : Scan) → (count ≡ 0 → ⊥)
        → Lays one lay nums at found mid a
        → a ≡ Past n → Lays (repeat (count - 1) one) (lay_all start lay) nums n mid filled b → b ≡ r
        → Lays (repeat count one) (lay_all start lay) nums at found filled r
    unfolding repeat lay_all
    all_past h s n found mid filled a b r x w p v e = rw (← e) (go count x v)
      where
        go : (k : ℕ) → (k ≡ 0 → ⊥) → Lays (repeat (k - 1) one) (lay_all start lay) nums n mid filled b
            → Lays (repeat k one) (lay_all start lay) nums at found filled b
        go zero y u = absurd (y refl)
        go (suc k) y u =
            lays-next (λ a rest. a ∷ rest) (lay_all start lay) (first_at start) (λ a rest next slots. refl) h
            (begins-repeat k s) w p (rw (sub-one (suc k)) at u)

    pub all-fault : (f i : ℕ) (found mid : List ℕ) (a : Scan) → (count ≡ 0 → ⊥) → Lays one lay nums at found mid a
        → a ≡ Fault f i
        → Lays (repeat count one) (lay_all start lay) nums at found mid (Fault f i)
    unfolding repeat
    all-fault f i found mid a x w p = go count x
      where
        go : (k : ℕ) → (k ≡ 0 → ⊥) → Lays (repeat k one) (lay_all start lay) nums at found mid (Fault f i)
        go zero y = absurd (y refl)
        go (suc k) y = lays-fault (λ a. repeat k one >>= λ rest. pure (a ∷ rest)) (lay_all start lay) found w p

-- a list of which some are done: what the rest lays, all lay
pub record Pending {A : Type 0} (one : Reader A) (lays : List A → ℕ → List ℕ → List ℕ) (count : ℕ) (nums : List ℕ)
    (at : ℕ)
    (found : List ℕ) (done next : ℕ) (now : List ℕ) : Type 0 where
  pub rest : (last : List ℕ) (r : Scan) → Lays (repeat (count - done) one) lays nums next now last r
      → Lays (repeat count one) lays nums at found last r

module _ {A : Type 0} (one : Reader A) (count : ℕ) (nums : List ℕ) (at : ℕ) (found : List ℕ) where
  pub pending-first : (lays : List A → ℕ → List ℕ → List ℕ) → Pending one lays count nums at found 0 at found
  pending-first lays = record { rest = λ last r w. rw sub-zero at w }

  module _ (start : A → ℕ) (lay : A → ℕ → List ℕ → List ℕ) (done next : ℕ) (now : List ℕ)
      (w : Pending one (lay_all start lay) count nums at found done next now) where
    pub pending-none : count ≤ done → Lays (repeat count one) (lay_all start lay) nums at found now (Past next)
    pending-none h = w.rest now (Past next) (all_none start lay one nums next (count - done) now (omega arith))

    module _ (mid : List ℕ) (a : Scan) (h : done < count) (v : Lays one lay nums next now mid a) where
      pub pending-past : (end : ℕ) → a ≡ Past end → Keeps one → Starts start one
          → Pending one (lay_all start lay) count nums at found (done + 1) end mid
      pending-past end p k s = record {
        rest = λ last r u.
            let e : count - (done + 1) ≡ count - done - 1 = omega arith in
            w.rest last r
            (all_past start lay one nums next (count - done) k s end now mid last a r r (λ z. omega arith) v p
            (rw e at u) refl);
      }

      pub pending-fault : (f i : ℕ) → a ≡ Fault f i
          → Lays (repeat count one) (lay_all start lay) nums at found mid (Fault f i)
      pending-fault f i p =
          w.rest mid (Fault f i) (all-fault start lay one nums next (count - done) f i now mid a (λ z. omega arith) v p)

pub ruleset pendings = (pending-first, pending-none, pending-past, pending-fault)

-- a reader of what lays nothing
pub lays-scan : {A : Type 0} {read : Reader A} {nums : List ℕ} {at : ℕ} {r : Scan} (found : List ℕ)
    → r ≡ scan_of read nums at → Lays read no_ends nums at found found r
unfolding Laid no_ends
lays-scan {A} {read} {nums} {at} found e = record { scan = e; laid = go (read (drop at nums) at) }
  where
    go : (x : Got A) → Laid x no_ends found found
    go (got a left next) = refl
    go (bad fault index) = tt

-- the same slots said in another way
pub lays-like : {A : Type 0} {read : Reader A} {lay other : A → ℕ → List ℕ → List ℕ} {nums : List ℕ} {at : ℕ}
    {found filled : List ℕ} {r : Scan}
    → ((a : A) (end : ℕ) (slots : List ℕ) → lay a end slots ≡ other a end slots)
    → Lays read lay nums at found filled r → Lays read other nums at found filled r
unfolding Laid
lays-like {A} {read} {lay} {other} {nums} {at} {found} {filled} e w =
    record { scan = w.scan; laid = go (read (drop at nums) at) w.laid }
  where
    go : (x : Got A) → Laid x lay found filled → Laid x other found filled
    go (got a left next) l = l ∙ e a next found
    go (bad fault index) l = tt

pub lays-same : {A : Type 0} {read : Reader A} {lay : A → ℕ → List ℕ → List ℕ} {nums : List ℕ} {at : ℕ}
    {found filled : List ℕ} (a r : Scan)
    → Lays read lay nums at found filled a → a ≡ r → Lays read lay nums at found filled r
lays-same a r w e = rw (← e) w

-- a list: its count, then its members
pub lays-counted : {A : Type 0} (one : Reader A) (lay : List A → ℕ → List ℕ → List ℕ) (least most : ℕ) (nums : List ℕ)
    (at n next : ℕ) (found filled : List ℕ) (v : Value) (r : Scan)
    → v ≡ value_of least most nums at → v ≡ Of n next → Lays (repeat n one) lay nums next found filled r
    → Lays (list_of least most one) lay nums at found filled r
unfolding list_of ◌>>=◌ and_then value_of valued scan_of Kept
lays-counted {A} one lay least most nums at n next found filled v r q p w =
    go (between least most (drop at nums) at) refl ((keeps-between least most).kept nums at) (sym q ∙ p)
  where
    go : (y : Got ℕ) → between least most (drop at nums) at ≡ y → Kept nums at y → valued y ≡ Of n next
        → Lays (list_of least most one) lay nums at found filled r
    go (bad fault index) e k c = let z : ◌≡◌ {A = ℕ} 0 1 = cc in absurd (omega arith)
    go (got m left after) e k c =
        let u : m ≡ n = cc in
        let o : after ≡ next = cc in
        record { scan = w.scan ∙ rw (e, k.rest, u, o); laid = rw (e, k.rest, u, o) w.laid }

pub lays-uncounted : {A : Type 0} (one : Reader A) (lay : List A → ℕ → List ℕ → List ℕ) (least most : ℕ)
    (nums : List ℕ) (at f i : ℕ) (found filled : List ℕ) (v : Value)
    → v ≡ value_of least most nums at → v ≡ Unread f i
    → Lays (list_of least most one) lay nums at found filled (Fault f i)
unfolding list_of ◌>>=◌ and_then value_of valued scan_of forget Laid
lays-uncounted {A} one lay least most nums at f i found filled v q p =
    go (between least most (drop at nums) at) refl (sym q ∙ p)
  where
    go : (y : Got ℕ) → between least most (drop at nums) at ≡ y → valued y ≡ Unread f i
        → Lays (list_of least most one) lay nums at found filled (Fault f i)
    go (bad fault index) e c =
        let u : fault ≡ f = cc in
        let o : index ≡ i = cc in
        record { scan = rw (e, u, o); laid = rw e tt }
    go (got m left after) e c = let z : ◌≡◌ {A = ℕ} 0 1 = cc in absurd (omega arith)

-- a list begins at its count, which stands before its first member
begins-meaning : {A : Type 0} {start : A → ℕ} {one : Reader A} (x : Option ℕ) (left : List ℕ) (at : ℕ)
    → Starts start one
    → BegunAt (λ xs end. first_at start xs end - 1) at (and_then (meaning 4 x left at) (λ n. repeat n one))
unfolding BegunAt meaning and_then
begins-meaning none left at s = tt
begins-meaning {A} {start} {one} (some n) left at s =
    go (repeat n one left (suc at)) ((begins-repeat n s).begun left (suc at))
  where
    go : (y : Got (List A)) → BegunAt (first_at start) (suc at) y → BegunAt (λ xs end. first_at start xs end - 1) at y
    go (got xs rest end) e = rw e (sub-one (suc at))
    go (bad fault index) e = tt

pub begins-list : {A : Type 0} {start : A → ℕ} {one : Reader A} (least most : ℕ) → Starts start one
    → Begins (λ xs end. first_at start xs end - 1) (list_of least most one)
unfolding BegunAt list_of between stands_for looked_up ◌>>=◌ and_then
begins-list {A} {start} {one} least most s = record { begun = go }
  where
    go : (left : List ℕ) (at : ℕ) → BegunAt (λ xs end. first_at start xs end - 1) at (list_of least most one left at)
    go [] at = tt
    go (n ∷ left) at = begins-meaning (within least most n) left at s

-- a number by itself begins just before its end
pub begins-stands : {A : Type 0} (what : ℕ → Option A) → Begins (λ a end. end - 1) (stands_for what)
unfolding BegunAt stands_for looked_up meaning
begins-stands {A} what = record { begun = go }
  where
    go : (left : List ℕ) (at : ℕ) → BegunAt (λ a end. end - 1) at (stands_for what left at)
    go [] at = tt
    go (n ∷ left) at = inner (what n)
      where
        inner : (x : Option A) → BegunAt (λ a end. end - 1) at (meaning 4 x left at)
        inner none = tt
        inner (some a) = sub-one (suc at)

-- a tree made of what was read
pub lays-made : {A C : Type 0} {read : Reader A} (make : A → C) {lay_first : A → ℕ → List ℕ → List ℕ}
    (lay : C → ℕ → List ℕ → List ℕ)
    → ((a : A) (next : ℕ) (slots : List ℕ) → lay_first a next slots ≡ lay (make a) next slots)
    → {nums : List ℕ} {at : ℕ} {found filled : List ℕ} {r : Scan} → Lays read lay_first nums at found filled r
    → Lays (read >>= λ a. pure (make a)) lay nums at found filled r
unfolding scan_of forget Laid ◌>>=◌ and_then pure
lays-made {A} {C} {read} make {lay_first} lay same {nums} {at} {found} {filled} w = record {
  scan = w.scan ∙ scanned (read (drop at nums) at);
  laid = go (read (drop at nums) at) w.laid;
}
  where
    scanned : (x : Got A) → forget x ≡ forget (and_then x (λ a. pure (make a)))
    scanned (got a left next) = refl
    scanned (bad fault index) = refl

    go : (x : Got A) → Laid x lay_first found filled → Laid (and_then x (λ a. pure (make a))) lay found filled
    go (got a left next) l = l ∙ same a next found
    go (bad fault index) l = tt

-- brackets moved around two readers
pub pair_then : {A B C : Type 0} (first : Reader A) (second : Reader B) (k : A → B → Reader C) (left : List ℕ) (at : ℕ)
    → (first >>= λ a. second >>= k a) left at
    ≡ ((first >>= λ a. second >>= λ b. pure {A = A × B} (a, b)) >>= λ p. k p.0 p.1) left at
unfolding ◌>>=◌ and_then pure
pair_then {A} {B} {C} first second k left at = go (first left at)
  where
    inner : (a : A) (y : Got B)
        → and_then y (k a) ≡ and_then (and_then y (λ b. pure {A = A × B} (a, b))) (λ p. k p.0 p.1)
    inner a (got b left next) = refl
    inner a (bad fault index) = refl

    go : (x : Got A)
        → and_then x (λ a. second >>= k a) ≡ and_then (and_then x (λ a. second >>= λ b. pure {A = A × B} (a, b)))
        (λ p. k p.0 p.1)
    go (got a left next) = inner a (second left next)
    go (bad fault index) = refl

pub then_same : {A B : Type 0} (read : Reader A) (left : List ℕ) (at : ℕ) (k l : A → Reader B)
    → ((a : A) (left : List ℕ) (at : ℕ) → k a left at ≡ l a left at)
    → (read >>= k) left at ≡ (read >>= l) left at
unfolding ◌>>=◌ and_then
then_same {A} read left at k l e = go (read left at)
  where
    go : (x : Got A) → and_then x k ≡ and_then x l
    go (got a left next) = e a left next
    go (bad fault index) = refl

pub then-assoc : {A B C : Type 0} (first : Reader A) (k : A → Reader B) (l : B → Reader C) (left : List ℕ) (at : ℕ)
    → (first >>= λ a. k a >>= l) left at ≡ ((first >>= k) >>= l) left at
unfolding ◌>>=◌ and_then
then-assoc {A} {B} {C} first k l left at = go (first left at)
  where
    go : (x : Got A) → and_then x (λ a. k a >>= l) ≡ and_then (and_then x k) l
    go (got a left next) = refl
    go (bad fault index) = refl
