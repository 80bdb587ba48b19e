-- Runs that go on: what is known of the parts of one, and what the parts come to, one after the other.
use Rattle.program.specs.declared.Scope as coded
use mathlib.Core.Bool.{Bool, true, false}
use mathlib.Core.Option.{Option, none, some}
use mathlib.Core.Path.{◌≡◌, refl, ◌∙◌, sym, ap}
use mathlib.Core.List.{List, [], ◌∷◌, ◌++◌, append_assoc}
use Prim.Native.Nat.{ℕ, ◌+◌, ◌≤◌}
use native.Mathlib.Omega.{arith}
use lib.ListN.{length, length-append}
use lib.Seq.{get_or-set_same}
use Rattle.rules.specs.Form.{Scope}
use Rattle.rules.specs.Ceiling.{most_steps}
use Rattle.rules.specs.Running.{State, Seen, Out, done, stuck, full, M, more, next, ◌>>=◌, nowhere, tick, or_stuck, must, gets, set_to, puts}
use Rattle.store.specs.Mirrors.{counter_slot, store_slots, Scene}
use Rattle.store.specs.Changes.{Becomes}
use Rattle.steps.specs.Outcomes.{Goes, goes, counter_of, Ran, ticked}

-- where a run comes to
pub record Gone {S A : Type 0} (counted : ℕ) (o : Out S A) : Type 0 where
  pub answer : A
  pub state : S
  pub seen : Seen
  pub is : o ≡ done answer state seen
  pub steps : counted + length seen ≤ most_steps

pub gone : {S A : Type 0} {counted : ℕ} {o : Out S A} → Goes counted o → Gone counted o
gone (goes q) = record { answer = _; state = _; seen = _; is = refl; steps = q }

pub not_stuck : {S A B : Type 0} {counted : ℕ} → Goes {S = S} {A = A} counted stuck → B
not_stuck g = let w = gone g in let e = w.is in let z : ◌≡◌ {A = ℕ} 0 1 = cc in absurd (omega arith)

pub not_full : {S A B : Type 0} {counted : ℕ} → Goes {S = S} {A = A} counted full → B
not_full g = let w = gone g in let e = w.is in let z : ◌≡◌ {A = ℕ} 0 1 = cc in absurd (omega arith)

pub not-nowhere : {S A B : Type 0} {counted : ℕ} (s : S) → Goes {A = A} counted (nowhere s) → B
unfolding nowhere
not-nowhere s g = not_stuck g

-- behind what was seen already
steps_of : {S A : Type 0} {counted : ℕ} {a : A} {s : S} {seen : Seen} → Goes counted (done a s seen)
    → counted + length seen ≤ most_steps
steps_of (goes q) = q

more-goes : {S A : Type 0} {counted : ℕ} (seen : Seen) (o : Out S A) → Goes counted (more seen o)
    → Goes (counted + length seen) o
unfolding more
more-goes seen (done a s later) g = goes {seen = later} (omega (arith, steps_of g, length-append seen later))
more-goes seen stuck g = not_stuck g
more-goes seen full g = not_full g

-- a step, then the rest
pub tick_goes : {A : Type 0} {counted : ℕ} (m : M State A) (s : State) → Goes counted (tick m s)
    → Goes (counted + 1) (m s)
unfolding tick
tick_goes m s g = more-goes (s.store ∷ []) (m s) g

pub tick-below : {A : Type 0} {counted : ℕ} (m : M State A) (s : State) → Goes counted (tick m s)
    → counted + 1 ≤ most_steps
tick-below m s g = let w = gone (tick_goes m s g) in omega (arith, w.steps)

-- one after the other
pub record Begun {S A B : Type 0} (counted : ℕ) (m : M S A) (k : A → M S B) (s : S) : Type 0 where
  pub answer : A
  pub state : S
  pub seen : Seen
  pub is : m s ≡ done answer state seen
  pub first : Goes counted (m s)
  pub rest : Goes (counted + length seen) (k answer state)

pub then-goes : {S A B : Type 0} {counted : ℕ} (m : M S A) (k : A → M S B) (s : S) → Goes counted ((m >>= k) s)
    → Begun counted m k s
unfolding ◌>>=◌ next
then-goes {S} {A} {B} {counted} m k s g = go (m s) refl g
  where
    go : (o : Out S A) → m s ≡ o → Goes counted (next o k) → Begun counted m k s
    go (done a t seen) e h =
        let rest : Goes (counted + length seen) (k a t) = more-goes seen (k a t) h in
        let w = gone rest in
        record {
          answer = a;
          state = t;
          seen = seen;
          is = e;
          first = rw e (goes {seen = seen} (omega (arith, w.steps)));
          rest = rest;
        }
    go stuck e h = not_stuck h
    go full e h = not_full h

-- the rest goes on from where the first is known to come to
pub rest_from : {S A B : Type 0} {counted : ℕ} (m : M S A) (k : A → M S B) (s : S) (a : A) (t : S) (seen : Seen)
    → m s ≡ done a t seen → Begun counted m k s → Goes (counted + length seen) (k a t)
rest_from m k s a t seen e b =
    let q : m s ≡ done b.answer b.state b.seen = b.is in
    let answer : a ≡ b.answer = cc in
    let state : t ≡ b.state = cc in
    let saw : seen ≡ b.seen = cc in
    rw (answer, state, saw) b.rest

-- parts that ask
pub record Known {A : Type 0} (o : Option A) : Type 0 where
  pub member : A
  pub is : o ≡ some member

pub some-goes : {S A : Type 0} {counted : ℕ} (o : Option A) (s : S) → Goes counted (or_stuck o s) → Known o
unfolding or_stuck
some-goes none s g = not_stuck g
some-goes (some a) s g = record { member = a; is = refl }

-- where such a part comes first: what it found, and the rest from the same state
pub record Found {S A B : Type 0} (counted : ℕ) (o : Option A) (k : A → M S B) (s : S) : Type 0 where
  pub member : A
  pub is : o ≡ some member
  pub rest : Goes counted (k member s)

pub some-then-goes : {S A B : Type 0} {counted : ℕ} (o : Option A) (k : A → M S B) (s : S)
    → Goes counted ((or_stuck o >>= k) s) → Found counted o k s
unfolding ◌>>=◌ next or_stuck
some-then-goes {counted = counted} none k s g = not_stuck g
some-then-goes {counted = counted} (some a) k s g =
    let e : counted + 0 ≡ counted = omega arith in
    record { member = a; is = refl; rest = rw e at (more-goes [] (k a s) g) }

pub must-then-goes : {S B : Type 0} {counted : ℕ} (b : Bool) (k : Unit {0} → M S B) (s : S)
    → Goes counted ((must b >>= k) s) → (b ≡ true) × Goes counted (k tt s)
unfolding ◌>>=◌ next must
must-then-goes {counted = counted} true k s g =
    let e : counted + 0 ≡ counted = omega arith in (refl, rw e at (more-goes [] (k tt s) g))
must-then-goes false k s g = not_stuck g

-- what they come to
pub then_is : {S A B : Type 0} (m : M S A) (k : A → M S B) (s : S) {a : A} {t : S} {seen : Seen}
    → m s ≡ done a t seen → (m >>= k) s ≡ more seen (k a t)
unfolding ◌>>=◌ next
then_is m k s e = rw e refl

pub more-none : {S A : Type 0} (o : Out S A) → more [] o ≡ o
unfolding more
more-none (done a s seen) = refl
more-none stuck = refl
more-none full = refl

-- in whatever way they are put together
pub more-more : {S A : Type 0} (seen later : Seen) (o : Out S A) → more seen (more later o) ≡ more (seen ++ later) o
unfolding more
more-more seen later (done a s last) = ap (λ x. done a s x) (sym (append_assoc seen later last))
more-more seen later stuck = refl
more-more seen later full = refl

more-next : {S A B : Type 0} (seen : Seen) (o : Out S A) (k : A → M S B) → next (more seen o) k ≡ more seen (next o k)
unfolding more next
more-next seen (done a s later) k = sym (more-more seen later (k a s))
more-next seen stuck k = refl
more-next seen full k = refl

pub then-assoc : {S A B C : Type 0} (m : M S A) (k : A → M S B) (j : B → M S C) (s : S)
    → (m >>= λ a. k a >>= j) s ≡ ((m >>= k) >>= j) s
unfolding ◌>>=◌
then-assoc {S} {A} m k j s = go (m s)
  where
    go : (o : Out S A) → next o (λ a t. next (k a t) j) ≡ next (next o k) j
    go (done a t seen) = unfold next in sym (more-next seen (k a t) j)
    go stuck = unfold next in refl
    go full = unfold next in refl

pub some-then-is : {S A B : Type 0} (o : Option A) (k : A → M S B) (s : S) {a : A} → o ≡ some a
    → (or_stuck o >>= k) s ≡ k a s
unfolding ◌>>=◌ next or_stuck
some-then-is o k s {a} e = rw e (more-none (k a s))

pub must-then-is : {S B : Type 0} (b : Bool) (k : Unit {0} → M S B) (s : S) → b ≡ true → (must b >>= k) s ≡ k tt s
unfolding ◌>>=◌ next must
must-then-is b k s e = rw e (more-none (k tt s))

pub gets-then-is : {S A B : Type 0} (f : S → Option A) (k : A → M S B) (s : S) {a : A} → f s ≡ some a
    → (gets f >>= k) s ≡ k a s
unfolding ◌>>=◌ gets
gets-then-is f k s e = some-then-is (f s) k s e

pub some_is : {S A : Type 0} (o : Option A) (s : S) {a : A} → o ≡ some a → or_stuck o s ≡ done a s []
unfolding or_stuck
some_is o s e = rw e refl

-- the counter
pub counter-ticked : (slots : List ℕ) → length slots ≡ store_slots → counter_of (ticked slots) ≡ counter_of slots + 1
counter-ticked slots n = get_or-set_same slots counter_slot (counter_of slots + 1) 0 (omega (arith, n))

-- and stand in the slots
module _ {nums directory ends : List ℕ} {scope : coded.Scope} {Γ : Scope} where
  pub ran-here : {A : Type 0} {Answers : A → Type 0} {slots frame : List ℕ} (s : State) (a : A) {o : Out State A}
      → Scene nums directory ends scope slots frame Γ s → o ≡ done a s [] → Answers a
      → Ran nums directory ends scope slots slots frame frame Γ o Answers
  ran-here s a h e r = record {
    answer = a;
    state = s;
    seen = [];
    is = e;
    scene = h;
    counted = omega arith;
    same = refl;
    answers = r;
  }

  pub ran-map : {A : Type 0} {Answers Others : A → Type 0} {slots slots' frame frame' : List ℕ} {o : Out State A}
      → Ran nums directory ends scope slots slots' frame frame' Γ o Answers
      → ((a : A) → Answers a → Others a)
      → Ran nums directory ends scope slots slots' frame frame' Γ o Others
  ran-map h f = record {
    answer = h.answer;
    state = h.state;
    seen = h.seen;
    is = h.is;
    scene = h.scene;
    counted = h.counted;
    same = h.same;
    answers = f h.answer h.answers;
  }

  pub ran_then : {A B : Type 0} {Answers : A → Type 0} {Others : B → Type 0}
      {slots slots₁ slots₂ frame frame₁ frame₂ : List ℕ} (m : M State A) (k : A → M State B) (s : State)
      → (h : Ran nums directory ends scope slots slots₁ frame frame₁ Γ (m s) Answers)
      → Ran nums directory ends scope slots₁ slots₂ frame₁ frame₂ Γ (k h.answer h.state) Others
      → Ran nums directory ends scope slots slots₂ frame frame₂ Γ ((m >>= k) s) Others
  unfolding more
  ran_then m k s h g = record {
    answer = g.answer;
    state = g.state;
    seen = h.seen ++ g.seen;
    is = then_is m k s h.is ∙ rw g.is refl;
    scene = g.scene;
    counted = omega (arith, h.counted, g.counted, length-append h.seen g.seen);
    same = omega (arith, h.same, g.same);
    answers = g.answers;
  }

  pub ran-tick : {A : Type 0} {Answers : A → Type 0} {slots slots' frame frame' : List ℕ} (m : M State A) (s : State)
      → length slots ≡ store_slots
      → Ran nums directory ends scope (ticked slots) slots' frame frame' Γ (m s) Answers
      → Ran nums directory ends scope slots slots' frame frame' Γ (tick m s) Answers
  unfolding tick more
  ran-tick {slots = slots} m s n h =
      let one : counter_of (ticked slots) ≡ counter_of slots + 1 = counter-ticked slots n in
      record {
        answer = h.answer;
        state = h.state;
        seen = s.store ∷ h.seen;
        is = rw h.is refl;
        scene = h.scene;
        counted = omega (arith, h.counted, one);
        same = h.same;
        answers = h.answers;
      }

  pub ran-becomes : {slots slots' frame frame' : List ℕ} (f : State → Option State) (s : State)
      → Becomes nums directory ends scope slots slots' frame frame' Γ s (f s)
      → Ran nums directory ends scope slots slots' frame frame' Γ (puts f s) (λ _. Unit {0})
  unfolding puts set_to
  ran-becomes f s b = record {
    answer = tt;
    state = b.state;
    seen = [];
    is = rw b.is refl;
    scene = b.scene;
    counted = omega (arith, b.counter);
    same = b.keeps.same;
    answers = tt;
  }
