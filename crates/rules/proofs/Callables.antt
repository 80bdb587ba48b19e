-- The callables by their number: if all are well formed, a call of one below n runs within its ceiling, for every n.
use mathlib.Core.Path.{◌≡◌, refl, ap, ◌∙◌}
use mathlib.Core.Bool.{Bool, true, false}
use mathlib.Core.Option.{Option, none, some}
use Prim.Native.Nat.{ℕ, zero, suc, ◌+◌, ◌<◌}
use native.Mathlib.Omega.{arith}
use native.Mathlib.Nat.{add-zero, zero-add, add-suc, suc-add}
use native.Mathlib.Numerals.{add-one}
use mathlib.Core.List.{List, [], ◌∷◌}
use lib.Dec.{ltb, eqb}
use lib.ListN.{get_elem?, length, length-append, get_or-append}
use lib.Seq.{get_or_at}
use borrow.Author.Tests.{eqb-true, eqb-false, ltb-true, ltb-false, lt-ltb, le-ltb}
use Rattle.rules.specs.Syntax.{Callable, Program}
use Rattle.rules.specs.Form.{ok, only_if, callable_below, judge_callable, judge_callables}
use Rattle.rules.specs.Ceiling.{callee_in, ceiling_at, ceilings_below}
use Rattle.rules.specs.Running.{run_number, calls_below}
use Rattle.rules.proofs.Predicates.{IfOk, is_ok, IfSome, if_none, if_some, ok-then, ok-map, ok-self, from-ok, if-map}
use Rattle.rules.proofs.Sound.{CallOk, CallsOk, callable-ok}

-- every callable of the list is well formed, at its own number
abbrev pub AllJudged : Program → ℕ → List Callable → Type 0
AllJudged P n cs = (i : ℕ) (c : Callable) → get_elem? cs i ≡ some c → judge_callable P (n + i) c ≡ ok tt

none-some : {A : Type 0} {a : A} → none ≡ some a → ⊥
none-some e = let z : ◌≡◌ {A = ℕ} 0 1 = cc in omega arith

pub some_same : {A : Type 0} {a b : A} → some a ≡ some b → a ≡ b
some_same e = cc

judged-nil : (P : Program) (n : ℕ) → AllJudged P n []
judged-nil P n i c e = absurd (none-some e)

judged-cons : (P : Program) (n : ℕ) (c : Callable) (cs : List Callable) → judge_callable P n c ≡ ok tt
    → AllJudged P (suc n) cs → AllJudged P n (c ∷ cs)
judged-cons P n c cs h hs zero d e = rw (add-zero n, ← some_same e) h
judged-cons P n c cs h hs (suc i) d e = rw (add-suc n i, ← suc-add n i) (hs i d e)

pub judged-all : (P : Program) (n : ℕ) (cs : List Callable) → IfOk (λ _. AllJudged P n cs) (judge_callables P n cs)
unfolding judge_callables
judged-all P n [] = is_ok (judged-nil P n)
judged-all P n (c ∷ cs) = ok-then (ok-self (judge_callable P n c)) λ _ h. ok-map (judged-all P (suc n) cs) λ _ hs.
    judged-cons P n c cs h hs

-- what is below n + 1: number n, and what is below n
below-same : (P : Program) (n f : ℕ) → eqb f n ≡ true → callable_below P (suc n) f ≡ get_elem? P.callables n
unfolding callable_below only_if
below-same P n f e = rw (eqb-true f n e, lt-ltb n (suc n) (omega arith))

below-zero : (P : Program) (f : ℕ) → callable_below P 0 f ≡ none
unfolding callable_below only_if
below-zero P f = rw (le-ltb f 0 (omega arith))

below_less : (P : Program) (n f : ℕ) → eqb f n ≡ false → callable_below P (suc n) f ≡ callable_below P n f
unfolding callable_below
below_less P n f e = ap (λ b. only_if b (get_elem? P.callables f)) (less (ltb f n) refl)
  where
    less : (b : Bool) → ltb f n ≡ b → ltb f (suc n) ≡ ltb f n
    less true q = rw q (lt-ltb f (suc n) (omega (arith, ltb-true f n q)))
    less false q = rw q (le-ltb f (suc n) (let ne : ¬ (f ≡ n) = eqb-false f n e in omega (arith, ltb-false f n q)))

below_out : (P : Program) (n f : ℕ) → ltb f n ≡ false → callable_below P n f ≡ none
unfolding callable_below only_if
below_out P n f e = rw e

-- as many ceilings as callables below a number
pub ceilings-length : (P : Program) (n : ℕ) → length (ceilings_below P n) ≡ n
unfolding ceilings_below
ceilings-length P zero = refl
ceilings-length P (suc n) = length-append (ceilings_below P n) _ ∙ (add-one (length (ceilings_below P n)) ∙ ap suc
    (ceilings-length P n))

callee_same : (P : Program) (n f : ℕ) → eqb f n ≡ true
    → callee_in (ceilings_below P (suc n)) f ≡ ceiling_at (ceilings_below P n) (get_elem? P.callables n)
unfolding callee_in ceilings_below
callee_same P n f e = rw (eqb-true f n e) (get_or_at (ceilings_below P n) (ceiling_at (ceilings_below P n) (get_elem?
    P.callables n)) [] 0 n (ceilings-length P n))

callee-less : (P : Program) (n f : ℕ) → f < n → callee_in (ceilings_below P (suc n)) f ≡ callee_in (ceilings_below P n) f
unfolding callee_in ceilings_below
callee-less P n f h = get_or-append (ceilings_below P n) _ 0 f (rw (ceilings-length P n) h)

module _ (capacity : ℕ) (P : Program) (judged : AllJudged P 0 P.callables) where
  number_ok : (n : ℕ) → CallsOk P n (calls_below capacity P n) (callee_in (ceilings_below P n))
      → IfSome (λ c. CallOk P (λ used f ns. run_number capacity P n (calls_below capacity P n) (get_elem?
      P.callables n) used ns) n (ceiling_at (ceilings_below P n) (get_elem? P.callables n)) c) (get_elem?
      P.callables n)
  unfolding run_number ceiling_at
  number_ok n h = go (get_elem? P.callables n) refl
    where
      go : (o : Option Callable) → get_elem? P.callables n ≡ o
          → IfSome (λ c. CallOk P (λ used f ns. run_number capacity P n (calls_below capacity P n) o used ns) n
          (ceiling_at (ceilings_below P n) o) c) o
      go none e = if_none
      go (some c) e = if_some (from-ok (rw (rw (zero-add n) at (judged n c e)) at (callable-ok capacity P n c
          (calls_below capacity P n) (callee_in (ceilings_below P n)) h)))

  pub calls-below : (n : ℕ) → CallsOk P n (calls_below capacity P n) (callee_in (ceilings_below P n))
  unfolding calls_below
  calls-below zero f = rw (below-zero P f) if_none
  calls-below (suc n) f = go (eqb f n) refl (calls-below n)
    where
      inner : (b : Bool) → ltb f n ≡ b → eqb f n ≡ false
          → CallsOk P n (calls_below capacity P n) (callee_in (ceilings_below P n))
          → IfSome (CallOk P (calls_below capacity P n) f (callee_in (ceilings_below P (suc n)) f)) (callable_below P n f)
      inner true q e h = rw (callee-less P n f (ltb-true f n q)) (h f)
      inner false q e h = rw (below_out P n f q) if_none

      go : (b : Bool) → eqb f n ≡ b → CallsOk P n (calls_below capacity P n) (callee_in (ceilings_below P n))
          → IfSome (CallOk P (calls_below capacity P (suc n)) f (callee_in (ceilings_below P (suc n)) f)) (callable_below P
          (suc n) f)
      go true q h = rw (below-same P n f q, callee_same P n f q) (if-map (number_ok n h) λ c k used ns hns.
          rw (q, calls_below) (k used ns hns))
      go false q h = rw (below_less P n f q) (if-map (inner (ltb f n) refl q h) λ c k used ns hns.
          rw (q, calls_below) (k used ns hns))
