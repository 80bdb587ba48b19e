-- What is said of an answer of the rules, as data: of a judged part, of an option, of what a reader gives, of a run. One law for each way
-- of putting two together, so that a construct of a theorem is a line or two.
use mathlib.Core.Path.{◌≡◌, refl}
use mathlib.Core.Logic.{◌⊎◌, inl, inr}
use mathlib.Core.Bool.{Bool, true, false, ◌&&◌, ◌||◌, false≢true}
use mathlib.Core.Option.{Option, none, some}
use Prim.Native.Nat.{ℕ, zero, suc, ◌+◌, ◌≤◌}
use native.Mathlib.Omega.{arith}
use mathlib.Core.List.{List, [], ◌∷◌, ◌++◌}
use lib.Dec.{leb, eqb}
use lib.ListN.{get_elem?, length, length-append}
use borrow.Author.Tests.{leb-true, eqb-true}
use Rattle.rules.specs.Reading.{Got, got, bad, Reader}
use Rattle.rules.specs.Reading as Reading
use Rattle.rules.specs.Form.{Res, ok, fault, ◌>>=◌, named, need, and_look, only_if}
use Rattle.rules.specs.Running.{State, Seen, Out, done, full, M, more, next, pure, tick, or_stuck, must, gets, set_to, puts, change}
use Rattle.rules.specs.Running as Running

-- two tests that hold together
pub and_both : (a b : Bool) → (a && b) ≡ true → (a ≡ true) × (b ≡ true)
and_both true b e = (refl, e)
and_both false b e = absurd (false≢true e)

pub both_true : (a b : Bool) → a ≡ true → b ≡ true → (a && b) ≡ true
both_true a b e q = rw (e, q)

-- no member where the list is too short
pub no_member : {A : Type 0} (xs : List A) (i : ℕ) → length xs ≤ i → get_elem? xs i ≡ none
no_member [] i h = refl
no_member (x ∷ xs) zero h = absurd (omega arith)
no_member (x ∷ xs) (suc i) h = no_member xs i (omega arith)

-- pointwise
pub data All2 {A B : Type 0} (R : A → B → Type 0) : List A → List B → Type 0 where
  nil : All2 R [] []
  cons : {a : A} {b : B} {xs : List A} {ys : List B} → R a b → All2 R xs ys → All2 R (a ∷ xs) (b ∷ ys)

pub data All {A : Type 0} (P : A → Type 0) : List A → Type 0 where
  none_left : All P []
  also : {a : A} {xs : List A} → P a → All P xs → All P (a ∷ xs)

-- P holds of the answer, if there is one
pub data IfOk {A : Type 0} (P : A → Type 0) : Res A → Type 0 where
  is_ok : {a : A} → P a → IfOk P (ok a)
  is_fault : {number at : ℕ} → IfOk P (fault number at)

pub data IfSome {A : Type 0} (P : A → Type 0) : Option A → Type 0 where
  if_none : IfSome P none
  if_some : {a : A} → P a → IfSome P (some a)

-- the numbers that the judge refuses with
abbrev pub JudgeGives : ℕ → Type 0
JudgeGives n = ((1 ≤ n) × (n ≤ 12)) ⊎ (n ≡ 16)

pub gives : (n : ℕ) → (leb 1 n && leb n 12 || eqb n 16) ≡ true → JudgeGives n
gives n e = go (leb 1 n && leb n 12) refl e
  where
    go : (b : Bool) → (leb 1 n && leb n 12) ≡ b → (b || eqb n 16) ≡ true → JudgeGives n
    go true q e = let both = and_both (leb 1 n) (leb n 12) q in inl (leb-true 1 n both.0, leb-true n 12 both.1)
    go false q e = inr (eqb-true n 16 e)

pub data IfGot {A : Type 0} (P : A → Type 0) : Got A → Type 0 where
  is_got : {a : A} {left : List ℕ} {at : ℕ} → P a → IfGot P (got a left at)
  is_bad : {number at : ℕ} → JudgeGives number → IfGot P (bad number at)

-- there is a value, and P holds of it
pub data SomeOf {A : Type 0} (P : A → Type 0) : Option A → Type 0 where
  is_some : {a : A} → P a → SomeOf P (some a)

-- judged parts
pub ok-then : {A B : Type 0} {P : A → Type 0} {Q : B → Type 0} {r : Res A} {k : A → Res B} → IfOk P r → ((a : A) → P a
    → IfOk Q (k a)) → IfOk Q (r >>= k)
unfolding ◌>>=◌
ok-then (is_ok p) h = h _ p
ok-then is_fault h = is_fault

pub ok-map : {A : Type 0} {P Q : A → Type 0} {r : Res A} → IfOk P r → ((a : A) → P a → Q a) → IfOk Q r
ok-map (is_ok p) h = is_ok (h _ p)
ok-map is_fault h = is_fault

pub ok-self : {A : Type 0} (r : Res A) → IfOk (λ a. r ≡ ok a) r
ok-self (ok a) = is_ok refl
ok-self (fault number at) = is_fault

pub ok-and : {A : Type 0} {P Q : A → Type 0} {r : Res A} → IfOk P r → IfOk Q r → IfOk (λ a. P a × Q a) r
ok-and (is_ok p) (is_ok q) = is_ok (p, q)
ok-and is_fault q = is_fault

pub ok-found : {A : Type 0} (at : ℕ) (o : Option A) → IfOk (λ a. o ≡ some a) (named at o)
unfolding named
ok-found at none = is_fault
ok-found at (some a) = is_ok refl

pub ok-need : (number at : ℕ) (b : Bool) → IfOk (λ _. b ≡ true) (need number at b)
unfolding need
ok-need number at true = is_ok refl
ok-need number at false = is_fault

pub from-ok : {A : Type 0} {P : A → Type 0} {a : A} → IfOk P (ok a) → P a
from-ok (is_ok p) = p

-- options
pub some_then : {A B : Type 0} {P : A → Type 0} {Q : B → Type 0} {o : Option A} {k : A → Option B} → SomeOf P o
    → ((a : A) → P a → SomeOf Q (k a)) → SomeOf Q (and_look o k)
unfolding and_look
some_then (is_some p) h = h _ p

pub if-then : {A B : Type 0} {P : A → Type 0} {Q : B → Type 0} {o : Option A} {k : A → Option B} → IfSome P o
    → ((a : A) → P a → IfSome Q (k a)) → IfSome Q (and_look o k)
unfolding and_look
if-then if_none h = if_none
if-then (if_some p) h = h _ p

pub if-only : {A : Type 0} {P : A → Type 0} {o : Option A} (b : Bool) → IfSome P o → IfSome P (only_if b o)
unfolding only_if
if-only true h = h
if-only false h = if_none

pub if-map : {A : Type 0} {P Q : A → Type 0} {o : Option A} → IfSome P o → ((a : A) → P a → Q a) → IfSome Q o
if-map if_none h = if_none
if-map (if_some p) h = if_some (h _ p)

pub if-any : {A : Type 0} (o : Option A) → IfSome (λ _. Unit {0}) o
if-any none = if_none
if-any (some a) = if_some tt

pub if-self : {A : Type 0} (o : Option A) → IfSome (λ a. o ≡ some a) o
if-self none = if_none
if-self (some a) = if_some refl

pub from_some : {A : Type 0} {P : A → Type 0} {a : A} → IfSome P (some a) → P a
from_some (if_some p) = p

-- looking into a list, into one that fits another, and changing one member of it
pub look-all : {A : Type 0} {P : A → Type 0} {xs : List A} → All P xs → (i : ℕ) → IfSome P (get_elem? xs i)
look-all none_left i = if_none
look-all (also p ps) zero = if_some p
look-all (also p ps) (suc i) = look-all ps i

pub look-fits : {A B : Type 0} {R : A → B → Type 0} {xs : List A} {ys : List B} → All2 R xs ys → (i : ℕ) → IfSome (λ a.
    SomeOf (R a) (get_elem? ys i)) (get_elem? xs i)
look-fits nil i = if_none
look-fits (cons r rs) zero = if_some (is_some r)
look-fits (cons r rs) (suc i) = look-fits rs i

pub change-fits : {A B : Type 0} {R : A → B → Type 0} {xs : List A} {ys : List B} → All2 R xs ys → (i : ℕ)
    → IfSome (λ a. (f : B → Option B) → ((b : B) → R a b → SomeOf (R a) (f b))
    → SomeOf (All2 R xs) (change f ys i)) (get_elem? xs i)
unfolding change
change-fits nil i = if_none
change-fits (cons r rs) zero = if_some λ f h. some_then (h _ r) λ c hc. is_some (cons hc rs)
change-fits (cons r rs) (suc i) = if-map (change-fits rs i) λ a g f h. some_then (g f h) λ ys' h'. is_some (cons r h')

-- readers
pub record Reads {A : Type 0} (P : A → Type 0) (read : Reader A) : Type 0 where
  pub reads : (left : List ℕ) (at : ℕ) → IfGot P (read left at)

got-then : {A B : Type 0} {P : A → Type 0} {Q : B → Type 0} {g : Got A} {k : A → Reader B} → IfGot P g → ((a : A) → P a
    → Reads Q (k a)) → IfGot Q (Reading.and_then g k)
unfolding Reading.and_then
got-then (is_got p) h = (h _ p).reads _ _
got-then (is_bad q) h = is_bad q

pub reads_then : {A B : Type 0} {P : A → Type 0} {Q : B → Type 0} {read : Reader A} {k : A → Reader B} → Reads P read
    → ((a : A) → P a → Reads Q (k a)) → Reads Q (Reading.◌>>=◌ read k)
unfolding Reading.◌>>=◌
reads_then h g = record { reads = λ left at. got-then (h.reads left at) g }

pub reads-pure : {A : Type 0} {P : A → Type 0} (a : A) → P a → Reads P (Reading.pure a)
unfolding Reading.pure
reads-pure a p = record { reads = λ left at. is_got p }

got-meaning : {A : Type 0} {P : A → Type 0} (number : ℕ) → JudgeGives number → {o : Option A} (left : List ℕ) (at : ℕ)
    → IfSome P o → IfGot P (Reading.meaning number o left at)
unfolding Reading.meaning
got-meaning number q left at if_none = is_bad q
got-meaning number q left at (if_some p) = is_got p

got-looked-up : {A : Type 0} {P : A → Type 0} (number : ℕ) → JudgeGives number → (what : ℕ → Option A)
    → ((n : ℕ) → IfSome P (what n)) → (left : List ℕ) (at : ℕ) → IfGot P (Reading.looked_up number what left at)
unfolding Reading.looked_up
got-looked-up number q what h [] at = is_bad q
got-looked-up number q what h (n ∷ left) at = got-meaning number q left at (h n)

pub reads-looked-up : {A : Type 0} {P : A → Type 0} (number : ℕ) → JudgeGives number → {what : ℕ → Option A}
    → ((n : ℕ) → IfSome P (what n)) → Reads P (Reading.looked_up number what)
reads-looked-up number q h = record { reads = got-looked-up number q _ h }

pub reads-repeat : {A : Type 0} {P : A → Type 0} (n : ℕ) {one : Reader A} → Reads P one
    → Reads (All P) (Reading.repeat n one)
unfolding Reading.repeat
reads-repeat zero h = reads-pure _ none_left
reads-repeat (suc n) h = reads_then h λ a p. reads_then (reads-repeat n h) λ rest ps. reads-pure _ (also p ps)

-- how the steps taken stand to a ceiling: at most, or equal
pub record Counts (W : ℕ → ℕ → Type 0) : Type 0 where
  pub nought : W 0 0
  pub one : W 1 1
  pub sum : {n m c d : ℕ} → W n c → W m d → W (n + m) (c + d)

pub at_most : Counts ◌≤◌
at_most = record { nought = omega arith; one = omega arith; sum = λ h k. omega arith }

pub equal : Counts (λ n c. n ≡ c)
equal = record { nought = refl; one = refl; sum = λ h k. omega arith }

-- a run that is not stuck: its answer is as R says, the state still fits, and its steps stand to c as W says; or it is full
pub data Good (W : ℕ → ℕ → Type 0) {S B : Type 0} (F : S → Type 0) (R : B → Type 0) (c : ℕ) : Out S B → Type 0 where
  good : {b : B} {s : S} (seen : Seen) → R b → F s → W (length seen) c → Good W F R c (done b s seen)
  is_full : Good W F R c full

pub record Runs (W : ℕ → ℕ → Type 0) {S B : Type 0} (F : S → Type 0) (R : B → Type 0) (c : ℕ) (m : M S B) : Type 0 where
  pub run : (s : S) → F s → Good W F R c (m s)

module _ {W : ℕ → ℕ → Type 0} (counts : Counts W) where
  good_more : {S B : Type 0} {F : S → Type 0} {R : B → Type 0} {c d : ℕ} {o : Out S B} (seen : Seen)
      → W (length seen) d → Good W F R c o → Good W F R (d + c) (more seen o)
  unfolding more
  good_more seen h (good later r f q) = good (seen ++ later) r f (rw (length-append seen later) (counts.sum h q))
  good_more seen h is_full = is_full

  good-next : {S A B : Type 0} {F : S → Type 0} {R : A → Type 0} {Q : B → Type 0} {c d : ℕ} {o : Out S A} {k : A
      → M S B}
      → Good W F R c o → ((a : A) → R a → Runs W F Q d (k a)) → Good W F Q (c + d) (next o k)
  unfolding next
  good-next (good seen r f q) h = good_more seen q ((h _ r).run _ f)
  good-next is_full h = is_full

  pub runs_then : {S A B : Type 0} {F : S → Type 0} {R : A → Type 0} {Q : B → Type 0} {c d : ℕ} {m : M S A} {k : A
      → M S B}
      → Runs W F R c m → ((a : A) → R a → Runs W F Q d (k a)) → Runs W F Q (c + d) (Running.◌>>=◌ m k)
  unfolding Running.◌>>=◌
  runs_then h g = record { run = λ s f. good-next (h.run s f) g }

  pub runs-tick : {A : Type 0} {F : State → Type 0} {R : A → Type 0} {c : ℕ} {m : M State A} → Runs W F R c m
      → Runs W F R (1 + c) (tick m)
  unfolding tick
  runs-tick h = record { run = λ s f. good_more {d = 1} (s.store ∷ []) counts.one (h.run s f) }

  pub runs-pure : {S A : Type 0} {F : S → Type 0} {R : A → Type 0} (a : A) → R a → Runs W F R 0 (pure a)
  unfolding pure
  runs-pure a r = record { run = λ s f. good [] r f counts.nought }

  good-some : {S A : Type 0} {F : S → Type 0} {R : A → Type 0} {o : Option A} (s : S) → SomeOf R o → F s
      → Good W F R 0 (or_stuck o s)
  unfolding or_stuck
  good-some s (is_some r) f = good [] r f counts.nought

  pub runs-some : {S A : Type 0} {F : S → Type 0} {R : A → Type 0} {o : Option A} → SomeOf R o
      → Runs W F R 0 (or_stuck o)
  runs-some h = record { run = λ s f. good-some s h f }

  pub runs-must : {S : Type 0} {F : S → Type 0} (b : Bool) → b ≡ true → Runs W F (λ _. Unit {0}) 0 (must b)
  unfolding must
  runs-must true e = record { run = λ s f. good [] tt f counts.nought }
  runs-must false e = absurd (false≢true e)

  pub runs-gets : {S A : Type 0} {F : S → Type 0} {R : A → Type 0} {g : S → Option A} → ((s : S) → F s
      → SomeOf R (g s)) → Runs W F R 0 (gets g)
  unfolding gets
  runs-gets h = record { run = λ s f. good-some s (h s f) f }

  good-set : {S : Type 0} {F : S → Type 0} {o : Option S} → SomeOf F o → Good W F (λ _. Unit {0}) 0 (set_to o)
  unfolding set_to
  good-set (is_some f) = good [] tt f counts.nought

  pub runs-puts : {S : Type 0} {F : S → Type 0} {g : S → Option S} → ((s : S) → F s → SomeOf F (g s)) → Runs W F (λ _.
      Unit {0}) 0 (puts g)
  unfolding puts
  runs-puts h = record { run = λ s f. good-set (h s f) }

good-map : {W : ℕ → ℕ → Type 0} {S A : Type 0} {F : S → Type 0} {R Q : A → Type 0} {c : ℕ} {o : Out S A} → ((a : A)
    → R a → Q a) → Good W F R c o → Good W F Q c o
good-map g (good seen r f q) = good seen (g _ r) f q
good-map g is_full = is_full

pub runs_map : {W : ℕ → ℕ → Type 0} {S A : Type 0} {F : S → Type 0} {R Q : A → Type 0} {c : ℕ} {m : M S A}
    → Runs W F R c m → ((a : A) → R a → Q a) → Runs W F Q c m
runs_map h g = record { run = λ s f. good-map g (h.run s f) }

-- a run where what is known of the state is said in another way
good-fits : {W : ℕ → ℕ → Type 0} {S A : Type 0} {F G : S → Type 0} {R : A → Type 0} {c : ℕ} {o : Out S A} → ((s : S)
    → F s → G s) → Good W F R c o → Good W G R c o
good-fits g (good seen r f q) = good seen r (g _ f) q
good-fits g is_full = is_full

pub runs-fits : {W : ℕ → ℕ → Type 0} {S A : Type 0} {F G : S → Type 0} {R : A → Type 0} {c : ℕ} {m : M S A} → ((s : S)
    → G s → F s) → ((s : S) → F s → G s) → Runs W F R c m → Runs W G R c m
runs-fits g h r = record { run = λ s f. good-fits h (r.run s (g s f)) }

-- at most a smaller ceiling is at most a larger one
good-le : {S B : Type 0} {F : S → Type 0} {R : B → Type 0} {c d : ℕ} {o : Out S B} → c ≤ d → Good ◌≤◌ F R c o
    → Good ◌≤◌ F R d o
good-le h (good seen r f q) = good seen r f (omega arith)
good-le h is_full = is_full

pub runs-le : {S A : Type 0} {F : S → Type 0} {R : A → Type 0} {c d : ℕ} {m : M S A} → c ≤ d → Runs ◌≤◌ F R c m
    → Runs ◌≤◌ F R d m
runs-le h r = record { run = λ s f. good-le h (r.run s f) }

-- behind a look-up that finds, and a test that holds
pub runs-known : {S A B : Type 0} {F : S → Type 0} {R : B → Type 0} {c : ℕ} {o : Option A} {k : A → M S B} (a : A)
    → o ≡ some a → ((x : A) → x ≡ a → Runs ◌≤◌ F R c (k x)) → Runs ◌≤◌ F R c (Running.◌>>=◌ (or_stuck o) k)
runs-known {c} a e h = rw e (runs-le {c = 0 + c} (omega arith) (runs_then at_most (runs-some at_most {R = λ x.
    x ≡ a} (is_some refl)) h))

pub runs-holds : {S B : Type 0} {F : S → Type 0} {R : B → Type 0} {c : ℕ} {m : M S B} (b : Bool) → b ≡ true
    → Runs ◌≤◌ F R c m → Runs ◌≤◌ F R c (Running.◌>>=◌ (must b) λ _. m)
runs-holds {c} b e h = runs-le {c = 0 + c} (omega arith) (runs_then at_most (runs-must at_most b e) λ _ _. h)
