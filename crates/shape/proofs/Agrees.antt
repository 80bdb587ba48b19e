-- How a construct and what stands in it are read: a reader of the whole and one of the parts go on alike behind the lead.
use mathlib.Core.Path.{◌≡◌}
use mathlib.Core.List.{List, [], ◌∷◌}
use Prim.Native.Nat.{ℕ, ◌+◌, ◌<◌, ◌≤◌}
use lib.ListN.{length, drop}
use Rattle.rules.specs.Reading.{Got, got, bad, Reader, and_then, ◌>>=◌, pure, number, between, repeat, list_of, most_arguments, most_members}
use Rattle.rules.proofs.Readers.{Kept, Keeps, keeps-number, keeps-between, keeps-repeat, Given, Gives}
use Rattle.shape.specs.Scans.{forget, scan_of, Scan, Past, Fault}
use Rattle.shape.specs.Leads.{valued, value_of, lead_by, arguments_lead, call_lead, block_lead, Agree, AgreeOn, Tagged, Lead, On, Off}

pub record Alike {A B : Type 0} (P : A → B → Type 0) (read : Reader A) (parts : Reader B) : Type 0 where
  pub alike : (left : List ℕ) (at : ℕ) → Agree P (read left at) (parts left at)

pub alike_then : {A B C : Type 0} {P : A → B → Type 0} (read : Reader C) {k : C → Reader A} {l : C → Reader B}
    → ((c : C) → Alike P (k c) (l c))
    → Alike P (read >>= k) (read >>= l)
unfolding Agree ◌>>=◌ and_then
alike_then {A} {B} {C} {P} read {k} {l} g = record { alike = λ left at. go (read left at) }
  where
    go : (x : Got C) → Agree P (and_then x k) (and_then x l)
    go (got c left next) = (g c).alike left next
    go (bad fault index) = tt

pub alike-one : {A C : Type 0} (P : A → List C → Type 0) (one : Reader C) (f : C → A) → ((a : C) → P (f a) (a ∷ []))
    → Alike P (one >>= λ a. pure (f a)) (repeat 1 one)
unfolding Agree ◌>>=◌ and_then repeat pure
alike-one P one f h = alike_then one λ a. record { alike = λ left at. h a }

pub alike-two : {A C : Type 0} (P : A → List C → Type 0) (one : Reader C) (f : C → C → A)
    → ((a b : C) → P (f a b) (a ∷ b ∷ []))
    → Alike P (one >>= λ a. one >>= λ b. pure (f a b)) (repeat 2 one)
unfolding Agree ◌>>=◌ and_then repeat pure
alike-two {A} {C} P one f h = alike_then one λ a. record { alike = λ left at. go a (one left at) }
  where
    go : (a : C) (x : Got C)
        → Agree P (and_then x (λ b. pure (f a b)))
        (and_then (and_then x (λ b. repeat 0 one >>= λ rest. pure (b ∷ rest))) (λ rest. pure (a ∷ rest)))
    go a (got b left next) = h a b
    go a (bad fault index) = tt

pub alike_all : {A B : Type 0} (P : A → B → Type 0) (parts : Reader B) (f : B → A) → ((b : B) → P (f b) b)
    → Alike P (parts >>= λ b. pure (f b)) parts
unfolding Agree ◌>>=◌ and_then pure
alike_all {A} {B} P parts f h = record { alike = λ left at. go (parts left at) }
  where
    go : (x : Got B) → Agree P (and_then x (λ b. pure (f b))) x
    go (got b left next) = h b
    go (bad fault index) = tt

-- brackets moved, and parts made into something else
pub alike-assoc : {A B C D : Type 0} (P : A → B → Type 0) {read : Reader A} (first : Reader C) (g : C → Reader D)
    (l : D → Reader B)
    → Alike P read (first >>= λ c. g c >>= l)
    → Alike P read ((first >>= g) >>= l)
unfolding ◌>>=◌ and_then
alike-assoc {A} {B} {C} {D} P {read} first g l f =
    record { alike = λ left at. go (read left at) (first left at) (f.alike left at) }
  where
    go : (y : Got A) (x : Got C) → Agree P y (and_then x (λ c. g c >>= l)) → Agree P y (and_then (and_then x g) l)
    go y (got c left next) h = h
    go y (bad fault index) h = h

pub alike-map : {A B C : Type 0} (P : A → C → Type 0) {read : Reader A} {parts : Reader B} (h : B → C)
    → Alike (λ a b. P a (h b)) read parts
    → Alike P read (parts >>= λ b. pure (h b))
unfolding Agree ◌>>=◌ and_then pure
alike-map {A} {B} {C} P {read} {parts} h f =
    record { alike = λ left at. go (read left at) (parts left at) (f.alike left at) }
  where
    go : (y : Got A) (x : Got B) → Agree (λ a b. P a (h b)) y x → Agree P y (and_then x (λ b. pure (h b)))
    go (got a rest end) (got b left next) p = p
    go (got a rest end) (bad fault index) p = tt
    go (bad f i) x p = tt

-- behind a lead
module _ {A B : Type 0} (P : A → B → Type 0) (parts : ℕ → ℕ → Reader B) (nums : List ℕ) (at : ℕ) where
  pub agree-lead : {C : Type 0} {read : Reader C} {k : C → Reader A} (n m : ℕ) → Keeps read
      → ((c : C) → Alike P (k c) (parts n m))
      → AgreeOn P ((read >>= k) (drop at nums) at) parts nums (lead_by (scan_of read nums at) n m)
  unfolding AgreeOn lead_by scan_of forget ◌>>=◌ and_then Kept
  agree-lead {C} {read} {k} n m h g = go (read (drop at nums) at) (h.kept nums at)
    where
      go : (x : Got C) → Kept nums at x → AgreeOn P (and_then x k) parts nums (lead_by (forget x) n m)
      go (got c left next) l = rw l.rest ((g c).alike (drop next nums) next)
      go (bad fault index) l = tt

  pub agree-two : {C : Type 0} {one : Reader C} {k : C → C → Reader A} (n m : ℕ) → Keeps one
      → ((c d : C) → Alike P (k c d) (parts n m))
      → AgreeOn P ((one >>= λ c. one >>= k c) (drop at nums) at) parts nums (lead_by (scan_of (repeat 2 one) nums at) n m)
  unfolding AgreeOn lead_by scan_of forget ◌>>=◌ and_then repeat pure Kept
  agree-two {C} {one} {k} n m h g = go (one (drop at nums) at) ((keeps-repeat 2 h).kept nums at)
    where
      second : (c : C) → Got C → Got (List C)
      second c x = and_then (and_then x (λ d. repeat 0 one >>= λ rest. pure (d ∷ rest))) (λ rest. pure (c ∷ rest))

      inner : (c : C) (x : Got C) → Kept nums at (second c x)
          → AgreeOn P (and_then x (k c)) parts nums (lead_by (forget (second c x)) n m)
      inner c (got d left next) l = rw l.rest ((g c d).alike (drop next nums) next)
      inner c (bad fault index) l = tt

      go : (x : Got C) → Kept nums at (and_then x (λ c. repeat 1 one >>= λ rest. pure (c ∷ rest)))
          → AgreeOn P (and_then x (λ c. one >>= k c)) parts nums
          (lead_by (forget (and_then x (λ c. repeat 1 one >>= λ rest. pure (c ∷ rest)))) n m)
      go (got c left next) l = inner c (one left next) l
      go (bad fault index) l = tt

  -- with nothing behind it
  pub agree-none : (read : Reader A) (b : B) (s : Scan) (left : List ℕ) (from : ℕ) → Gives (λ a. P a b) read
      → ((left : List ℕ) (at : ℕ) → parts 0 0 left at ≡ got b left at)
      → AgreeOn P (read left from) parts nums (lead_by s 0 0)
  unfolding AgreeOn lead_by Agree Given
  agree-none read b (Fault fault index) left from g e = tt
  agree-none read b (Past next) left from g e =
      rw (e (drop next nums) next) (go (read left from) (g.given left from))
    where
      go : (x : Got A) → Given (λ a. P a b) x → Agree P x (got b (drop next nums) next)
      go (got a left next) p = p
      go (bad fault index) p = tt

  -- a count, and so many parts
  pub agree-arguments : {C : Type 0} (one : Reader C) (k : List C → Reader A)
      → ((n : ℕ) → Alike P (repeat n one >>= k) (parts n 0))
      → AgreeOn P ((list_of 0 most_arguments one >>= k) (drop at nums) at) parts nums
      (arguments_lead (value_of 0 most_arguments nums at))
  unfolding AgreeOn arguments_lead value_of valued list_of ◌>>=◌ and_then Kept
  agree-arguments {C} one k g = go (between 0 most_arguments (drop at nums) at)
      ((keeps-between 0 most_arguments).kept nums at)
    where
      go : (x : Got ℕ) → Kept nums at x
          → AgreeOn P (and_then (and_then x (λ n. repeat n one)) k) parts nums (arguments_lead (valued x))
      go (got n left next) l = rw l.rest ((g n).alike (drop next nums) next)
      go (bad fault index) l = tt

  pub agree-members : {C : Type 0} (one : Reader C) (k : List C → Reader A)
      → ((n : ℕ) → Alike P (repeat n one >>= k) (parts 0 n))
      → AgreeOn P ((list_of 0 most_members one >>= k) (drop at nums) at) parts nums
      (block_lead (value_of 0 most_members nums at))
  unfolding AgreeOn block_lead value_of valued list_of ◌>>=◌ and_then Kept
  agree-members {C} one k g = go (between 0 most_members (drop at nums) at) ((keeps-between 0 most_members).kept nums at)
    where
      go : (x : Got ℕ) → Kept nums at x
          → AgreeOn P (and_then (and_then x (λ n. repeat n one)) k) parts nums (block_lead (valued x))
      go (got n left next) l = rw l.rest ((g n).alike (drop next nums) next)
      go (bad fault index) l = tt

pub agree-call : {A B C : Type 0} (P : A → B → Type 0) (parts : ℕ → ℕ → Reader B) (nums : List ℕ) (at : ℕ)
    (one : Reader C) (k : ℕ → List C → Reader A)
    → ((f n : ℕ) → Alike P (repeat n one >>= k f) (parts n 0))
    → AgreeOn P ((number >>= λ f. list_of 0 most_arguments one >>= k f) (drop at nums) at) parts nums
    (call_lead nums (scan_of number nums at))
unfolding call_lead scan_of forget ◌>>=◌ and_then Kept AgreeOn
agree-call {A} {B} {C} P parts nums at one k g = go (number (drop at nums) at) (keeps-number.kept nums at)
  where
    go : (x : Got ℕ) → Kept nums at x
        → AgreeOn P (and_then x (λ f. list_of 0 most_arguments one >>= k f)) parts nums (call_lead nums (forget x))
    go (got f left next) l = rw l.rest (agree-arguments P parts nums next one (k f) (g f))
    go (bad fault index) l = tt

-- the parts right behind the tag
pub behind-tag : {A B : Type 0} (P : A → B → Type 0) {read : Reader A} (parts : ℕ → ℕ → Reader B) (nums : List ℕ)
    (at n m : ℕ) → Alike P read (parts n m)
    → AgreeOn P (read (drop (at + 1) nums) (at + 1)) parts nums (lead_by (Past (at + 1)) n m)
unfolding AgreeOn lead_by
behind-tag P parts nums at n m g = g.alike (drop (at + 1) nums) (at + 1)

pub tag_in : (nums : List ℕ) (at : ℕ) (lead : Lead) → at < length nums → Tagged nums at lead
unfolding Tagged
tag_in nums at (On next operands statements) h = h
tag_in nums at (Off fault index) h = tt

-- what is read ends at an index or later
unfoldable pub Latest : {A : Type 0} → ℕ → Got A → Type 0
Latest from (got a left next) = from ≤ next
Latest from (bad number index) = Unit

pub kept-latest : {A : Type 0} (nums : List ℕ) (at : ℕ) (x : Got A) → Kept nums at x → Latest at x
unfolding Latest Kept
kept-latest nums at (got a left next) k = k.later
kept-latest nums at (bad fault index) k = tt
