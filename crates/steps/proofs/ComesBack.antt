-- What comes back from all arguments of a call, from left to right, and how a call statement then goes on.
use Rattle.program.specs.declared.Scope as coded
use mathlib.Core.Bool.{Bool, true, false}
use mathlib.Core.Path.{◌≡◌, refl, ◌∙◌, sym}
use mathlib.Core.List.{List, [], ◌∷◌}
use Prim.Native.Nat.{ℕ, suc, ◌+◌, ◌-◌, ◌<◌, ◌^◌}
use native.Mathlib.Omega.{arith}
use lib.ListN.{length, get_or}
use Rattle.rules.specs.Syntax.{Expr, Args, no_args, arg, Parameter}
use Rattle.rules.specs.Form.{comes_back, Scope}
use Rattle.rules.specs.Running.{State, Ending, onward, returned, returned_value, Out, done, M, next, ◌>>=◌, pure, in_turn, come_back, after_body, after_call}
use Rattle.rules.proofs.Predicates.{All2, cons}
use Rattle.rules.proofs.Fits.{FitParameter}
use Rattle.program.specs.Codes.{arg_count}
use Rattle.program.specs.Stands.{StandsExpr, StandsArgs, on-arg, StandsParameters}
use Rattle.program.proofs.Views.{expr-begins, no-args}
use Rattle.steps.specs.declared.Ended.{Ended}
use Rattle.steps.specs.declared.Ended.TheVariants.{Onward, Returned, ReturnedValue}
use Rattle.steps.specs.Outcomes.{Goes, Ran, Ends, ends-onward, ends-returned, ends-value, ends-exited, ends-rejected, EndsRun, by-exit, by-reject}
use Rattle.steps.specs.Calls.{own_of, AsksOwn, Owns, one_back, LeftOne, AsksOneBack, RanBack, BacksOne, Left, AsksBack, Backs, TellsBack, AsksFinish, Finishes, AfterCall}
use Rattle.steps.proofs.Backs.{none_is}
use Rattle.steps.proofs.Going.{Begun, not-nowhere, then-goes, rest_from, more-none, ran-here, ran_then}

-- arguments, parameters and numbers come together
pub record Together (xs : Args) (ps : List Parameter) (ns : List ℕ) : Type 0 where
  pub expr : Expr
  pub others : Args
  pub parameter : Parameter
  pub parameters : List Parameter
  pub number : ℕ
  pub numbers : List ℕ
  pub args : xs ≡ arg expr others
  pub list : ps ≡ parameter ∷ parameters
  pub lefts : ns ≡ number ∷ numbers

together : (Γ : Scope) (s : State) (xs : Args) (ps : List Parameter) (ns : List ℕ) (counted count : ℕ)
    → Goes counted (come_back Γ xs ps ns s) → count ≡ arg_count xs → (count ≡ 0 → ⊥) → Together xs ps ns
unfolding come_back arg_count
together Γ s no_args ps ns counted count g e x = absurd (x e)
together Γ s (arg a xs) [] ns counted count g e x = not-nowhere s g
together Γ s (arg a xs) (p ∷ ps) [] counted count g e x = not-nowhere s g
together Γ s (arg a xs) (p ∷ ps) (n ∷ ns) counted count g e x = record {
  expr = a;
  others = xs;
  parameter = p;
  parameters = ps;
  number = n;
  numbers = ns;
  args = refl;
  list = refl;
  lefts = refl;
}

-- one, then the others
nothing_then : (o : Out State (Unit {0})) (m : M State (Unit {0})) (s : State) → o ≡ done tt s []
    → next o (λ _. m) ≡ m s
unfolding next
nothing_then o m s e = rw e (more-none (m s))

back-splits : (Γ : Scope) (s : State) (e : Expr) (xs : Args) (p : Parameter) (ps : List Parameter) (n : ℕ) (ns : List ℕ)
    → come_back Γ (arg e xs) (p ∷ ps) (n ∷ ns) s ≡ (one_back Γ p e n >>= λ _. come_back Γ xs ps ns) s
unfolding come_back one_back ◌>>=◌ in_turn
back-splits Γ s e xs p ps n ns = go (comes_back p.direction) refl
  where
    go : (b : Bool) → comes_back p.direction ≡ b
        → come_back Γ (arg e xs) (p ∷ ps) (n ∷ ns) s ≡ next (one_back Γ p e n s) (λ _. come_back Γ xs ps ns)
    go true d = rw (d, come_back, one_back) refl
    go false d =
        let all : come_back Γ (arg e xs) (p ∷ ps) (n ∷ ns) s ≡ come_back Γ xs ps ns s = rw (d, come_back) refl in
        all ∙ sym (nothing_then (one_back Γ p e n s) (come_back Γ xs ps ns) s (none_is Γ p e n s d))

no-back : (Γ : Scope) (s : State) (xs : Args) (ps : List Parameter) (ns : List ℕ) (counted : ℕ) → xs ≡ no_args
    → Goes counted (come_back Γ xs ps ns s) → come_back Γ xs ps ns s ≡ done tt s []
no-back Γ s xs ps ns counted e g = rw e (go ps ns (rw e at g))
  where
    go : (ps : List Parameter) (ns : List ℕ) → Goes counted (come_back Γ no_args ps ns s)
        → come_back Γ no_args ps ns s ≡ done tt s []
    go [] [] h = unfold come_back pure in refl
    go [] (n ∷ ns) h = unfold come_back in not-nowhere s h
    go (p ∷ ps) ns h = unfold come_back in not-nowhere s h

-- what stands where
arg-first : {nums ends : List ℕ} {depth at : ℕ} {e : Expr} {xs : Args} → StandsArgs nums ends depth at (arg e xs)
    → StandsExpr nums ends depth at e × StandsArgs nums ends depth (get_or ends at 0) xs
arg-first (on-arg a s) = (a, s)

fit-first : {p : Parameter} {ps : List Parameter} {n : ℕ} {ns : List ℕ} → All2 FitParameter (p ∷ ps) (n ∷ ns)
    → FitParameter p n × All2 FitParameter ps ns
fit-first (cons f fs) = (f, fs)

module _ {nums directory ends : List ℕ} {scope : coded.Scope} {slots frame : List ℕ} {at parameters count slot : ℕ} {Γ : Scope}
    {s : State} {e : Expr} {xs : Args} {p : Parameter} {ps : List Parameter} {n : ℕ} {ns : List ℕ}
    (l : Left nums directory ends scope slots frame at parameters count slot Γ s (arg e xs) (p ∷ ps) (n ∷ ns))
  where
    one_left : LeftOne nums directory ends scope slots frame at parameters slot Γ s e p n
    unfolding StandsParameters arg_count
    one_left =
        let z : slot + 0 ≡ slot = omega arith in
        record {
          depth = l.depth;
          scene = l.scene;
          stands = (arg-first l.stand).0;
          direction = l.parameters_stand.0;
          own = l.own;
          inside = omega (arith, l.room, l.counts);
          is = rw z at (l.laid.is 0 (omega arith));
          fit = (fit-first l.fit).0;
        }

    rest-left : (slots₁ frame₁ : List ℕ) {o : Out State (Unit {0})}
        → (h : RanBack nums directory ends scope slots slots₁ frame frame₁ Γ o)
        → Left nums directory ends scope slots₁ frame₁ (get_or ends at 0) (parameters + 2) (count - 1) (slot + 1) Γ
        h.ran.state xs ps ns
    unfolding StandsParameters arg_count
    rest-left slots₁ frame₁ h = record {
      depth = l.depth;
      scene = h.ran.scene;
      stand = (arg-first l.stand).1;
      parameters_stand = l.parameters_stand.1.1;
      counts = omega (arith, l.counts);
      own = omega (arith, l.own);
      room = omega (arith, l.room, l.counts, h.keeps.same);
      fit = (fit-first l.fit).1;
      laid = record {
        is = λ i k.
            let further : slot + suc i ≡ slot + 1 + i = omega arith in
            h.keeps.free (slot + 1 + i) (omega (arith, l.own))
            ∙ rw further at (l.laid.is (suc i) (omega arith));
      };
    }

module _ (nums directory ends : List ℕ) (scope : coded.Scope) (slots frame : List ℕ) (at parameters count slot : ℕ) where
  -- what is left of a call, with its first argument apart
  record Apart (Γ : Scope) (s : State) (xs : Args) (ps : List Parameter) (ns : List ℕ)
      (counted : ℕ) : Type 0 where
    pub parts : Together xs ps ns
    pub left : Left nums directory ends scope slots frame at parameters count slot Γ s
        (arg parts.expr parts.others) (parts.parameter ∷ parts.parameters) (parts.number ∷ parts.numbers)
    pub same : come_back Γ xs ps ns s
        ≡ (one_back Γ parts.parameter parts.expr parts.number
        >>= λ _. come_back Γ parts.others parts.parameters parts.numbers) s
    pub going : Begun counted (one_back Γ parts.parameter parts.expr parts.number)
        (λ _. come_back Γ parts.others parts.parameters parts.numbers) s

  apart : (Γ : Scope) (s : State) (xs : Args) (ps : List Parameter) (ns : List ℕ) (counted : ℕ)
      → Left nums directory ends scope slots frame at parameters count slot Γ s xs ps ns
      → Goes counted (come_back Γ xs ps ns s) → (count ≡ 0 → ⊥) → Apart Γ s xs ps ns counted
  apart Γ s xs ps ns counted l g x =
      go (together Γ s xs ps ns counted count g l.counts x)
    where
      go : Together xs ps ns → Apart Γ s xs ps ns counted
      go t =
          let same : come_back Γ xs ps ns s
          ≡ (one_back Γ t.parameter t.expr t.number >>= λ _. come_back Γ t.others t.parameters t.numbers) s
          = rw (t.args, t.list, t.lefts) (back-splits Γ s t.expr t.others t.parameter t.parameters
          t.number t.numbers) in
          record {
            parts = t;
            left = rw (t.args, t.list, t.lefts) at l;
            same = same;
            going = then-goes _ _ s (rw same at g);
          }

  module _ (a : AsksBack nums directory ends scope slots frame at parameters count slot) (x : count ≡ 0 → ⊥) where
    this : Apart a.scope_of a.state a.args a.list a.numbers a.counted
    this = apart a.scope_of a.state a.args a.list a.numbers a.counted a.left
        a.going x

    pub first-asks : AsksOneBack nums directory scope slots frame at parameters slot
    first-asks = record {
      ends = ends;
      scope_of = a.scope_of;
      state = a.state;
      expr = this.parts.expr;
      parameter = this.parts.parameter;
      number = this.parts.number;
      left = one_left this.left;
      counted = a.counted;
      going = this.going.first;
    }

    pub next-inside : at < length ends
    next-inside =
        omega (arith, (expr-begins (arg-first this.left.stand).0).inside, a.left.scene.scopes.program.room)

    pub list-low : parameters + 2 < 2 ^ 64
    list-low = omega (arith, (one_left this.left).direction.inside, a.left.scene.scopes.program.numbers)

    pub slot-low : slot < length frame
    slot-low = (one_left this.left).inside

    pub rest-asks : (slots₁ frame₁ : List ℕ)
        → BacksOne nums directory scope slots slots₁ frame frame₁ at parameters slot
        → AsksBack nums directory ends scope slots₁ frame₁ (get_or ends at 0) (parameters + 2) (count - 1) (slot + 1)
    rest-asks slots₁ frame₁ b =
        let p = this.parts in
        let h = b.backs ends a.scope_of a.state p.expr p.parameter p.number a.counted
        (one_left this.left) this.going.first in
        record {
          scope_of = a.scope_of;
          state = h.ran.state;
          args = p.others;
          list = p.parameters;
          numbers = p.numbers;
          left = rest-left this.left slots₁ frame₁ h;
          counted = a.counted + length h.ran.seen;
          going = rest_from _ _ _ _ _ _ h.ran.is this.going;
        }

  back-ran : (slots₁ slots₂ frame₁ frame₂ : List ℕ) (Γ : Scope) (s : State) (xs : Args)
      (ps : List Parameter) (ns : List ℕ) (counted : ℕ) → (x : count ≡ 0 → ⊥)
      → BacksOne nums directory scope slots slots₁ frame frame₁ at parameters slot
      → Backs nums directory ends scope slots₁ slots₂ frame₁ frame₂ (get_or ends at 0) (parameters + 2) (count - 1) (slot + 1)
      → Apart Γ s xs ps ns counted
      → Ran nums directory ends scope slots slots₂ frame frame₂ Γ (come_back Γ xs ps ns s) (λ _. Unit {0})
  back-ran slots₁ slots₂ frame₁ frame₂ Γ s xs ps ns counted x b c t =
      let p = t.parts in
      let h = b.backs ends Γ s p.expr p.parameter p.number counted (one_left t.left)
      t.going.first in
      let r = c.backs Γ h.ran.state p.others p.parameters p.numbers
      (counted + length h.ran.seen) (rest-left t.left slots₁ frame₁ h)
      (rest_from _ _ _ _ _ _ h.ran.is t.going) in
      rw t.same (ran_then _ _ s h.ran r)

  pub backs-all : (slots₁ slots₂ frame₁ frame₂ : List ℕ) → (count ≡ 0 → ⊥)
      → BacksOne nums directory scope slots slots₁ frame frame₁ at parameters slot
      → Backs nums directory ends scope slots₁ slots₂ frame₁ frame₂ (get_or ends at 0) (parameters + 2) (count - 1) (slot + 1)
      → Backs nums directory ends scope slots slots₂ frame frame₂ at parameters count slot
  backs-all slots₁ slots₂ frame₁ frame₂ x b c = record {
    backs = λ Γ s xs ps ns counted l g. back-ran slots₁ slots₂ frame₁ frame₂ Γ s xs ps ns counted x b
        c (apart Γ s xs ps ns counted l g x);
  }

  pub backs-none : count ≡ 0 → Backs nums directory ends scope slots slots frame frame at parameters count slot
  backs-none e = record {
    backs = λ Γ s xs ps ns counted l g. ran-here s (tt {0}) l.scene
        (no-back Γ s xs ps ns counted (no-args xs (omega (arith, l.counts))) g) (tt {0});
  }

pub ruleset coming = (first-asks, next-inside, list-low, slot-low, rest-asks, backs-all, backs-none)

-- behind the callee's body: the endings that do not end the run
pub data Stays : Ended → Type 0 where
  stays-onward : Stays Onward
  stays-returned : Stays Returned
  stays-value : {ty number : ℕ} → Stays (ReturnedValue ty number)

stays_on : (ended r : Ended) → ended ≡ r → Stays r → EndsRun ended → ⊥
stays_on ended r e stays-onward by-exit = let z : ◌≡◌ {A = ℕ} 0 1 = cc in omega arith
stays_on ended r e stays-returned by-exit = let z : ◌≡◌ {A = ℕ} 0 1 = cc in omega arith
stays_on ended r e stays-value by-exit = let z : ◌≡◌ {A = ℕ} 0 1 = cc in omega arith
stays_on ended r e stays-onward by-reject = let z : ◌≡◌ {A = ℕ} 0 1 = cc in omega arith
stays_on ended r e stays-returned by-reject = let z : ◌≡◌ {A = ℕ} 0 1 = cc in omega arith
stays_on ended r e stays-value by-reject = let z : ◌≡◌ {A = ℕ} 0 1 = cc in omega arith

module _ (nums directory ends : List ℕ) (scope : coded.Scope) (slots frame : List ℕ) (at parameters count : ℕ) where
  after-goes : (Γ : Scope) (s : State) (ended : Ended) (ending : Ending) (m : M State (Unit {0})) (counted : ℕ)
      → Ends ended ending → (EndsRun ended → ⊥) → Goes counted (after_body ending m s) → Goes counted (m s)
  unfolding after_body
  after-goes Γ s ended ending m counted ends-onward x g = (then-goes m _ s g).first
  after-goes Γ s ended ending m counted ends-returned x g = (then-goes m _ s g).first
  after-goes Γ s ended ending m counted (ends-value v) x g = (then-goes m _ s g).first
  after-goes Γ s ended ending m counted ends-exited x g = absurd (x by-exit)
  after-goes Γ s ended ending m counted ends-rejected x g = absurd (x by-reject)

  module _ (ended : Ended) (a : AsksFinish nums directory ends scope slots frame at parameters count ended) where
    pub finish-low : at + 3 < 2 ^ 64
    finish-low = omega (arith, a.inside, a.left.scene.scopes.program.numbers)

    pub finish-own : AsksOwn scope
    finish-own = record {
      nums = nums;
      directory = directory;
      ends = ends;
      scope_of = a.scope_of;
      stands = a.left.scene.scopes;
      few = a.few;
    }

    pub finish-asks : (b : Bool) (own : ℕ) → TellsBack ended b → b ≡ true → Owns scope own
        → AsksBack nums directory ends scope slots frame (at + 3) parameters count own
    finish-asks b own t e o =
        let is : own ≡ own_of a.scope_of = o.is nums directory ends a.scope_of a.left.scene.scopes in
        rw is (record {
          scope_of = a.scope_of;
          state = a.state;
          args = a.args;
          list = a.list;
          numbers = a.numbers;
          left = a.left;
          counted = a.counted;
          going = after-goes a.scope_of a.state ended a.ending
              (come_back a.scope_of a.args a.list a.numbers) a.counted a.told (t.back e) a.going;
        })

  after-ran : (slots' frame' : List ℕ) (Γ : Scope) (s : State) (ended : Ended) (ending : Ending)
      (m : M State (Unit {0})) → Ends ended ending → (EndsRun ended → ⊥)
      → Ran nums directory ends scope slots slots' frame frame' Γ (m s) (λ _. Unit {0})
      → Ran nums directory ends scope slots slots' frame frame' Γ (after_body ending m s) (Ends ended)
  unfolding after_body pure
  after-ran slots' frame' Γ s ended ending m ends-onward x r =
      ran_then m _ s r (ran-here r.state onward r.scene refl ends-onward)
  after-ran slots' frame' Γ s ended ending m ends-returned x r =
      ran_then m _ s r (ran-here r.state returned r.scene refl ends-returned)
  after-ran slots' frame' Γ s ended ending m (ends-value v) x r =
      ran_then m _ s r (ran-here r.state (returned_value _) r.scene refl (ends-value v))
  after-ran slots' frame' Γ s ended ending m ends-exited x r = absurd (x by-exit)
  after-ran slots' frame' Γ s ended ending m ends-rejected x r = absurd (x by-reject)

  pub finish-done : (slots' frame' : List ℕ) (ended : Ended) (b : Bool) (own : ℕ) → TellsBack ended b → b ≡ true
      → Owns scope own → Backs nums directory ends scope slots slots' frame frame' (at + 3) parameters count own
      → Finishes nums directory ends scope slots slots' frame frame' at parameters count ended
  finish-done slots' frame' ended b own t e o k = record {
    finishes = λ Γ s xs ps ns ending counted l q g.
        let is : own ≡ own_of Γ = o.is nums directory ends Γ l.scene.scopes in
        let there : Backs nums directory ends scope slots slots' frame frame' (at + 3) parameters count (own_of Γ)
        = rw is at k in
        after-ran slots' frame' Γ s ended ending (come_back Γ xs ps ns) q (t.back e)
        (there.backs Γ s xs ps ns counted l
        (after-goes Γ s ended ending (come_back Γ xs ps ns) counted q (t.back e) g));
  }

  over-is : (Γ : Scope) (s : State) (ended r : Ended) (ending : Ending) (m : M State (Unit {0})) → Ends ended ending
      → ended ≡ r → EndsRun r → after_body ending m s ≡ done ending s []
  unfolding after_body pure
  over-is Γ s ended r ending m ends-onward e by-exit = let z : ◌≡◌ {A = ℕ} 0 1 = cc in absurd (omega arith)
  over-is Γ s ended r ending m ends-returned e by-exit = let z : ◌≡◌ {A = ℕ} 0 1 = cc in absurd (omega arith)
  over-is Γ s ended r ending m (ends-value v) e by-exit = let z : ◌≡◌ {A = ℕ} 0 1 = cc in absurd (omega arith)
  over-is Γ s ended r ending m ends-onward e by-reject = let z : ◌≡◌ {A = ℕ} 0 1 = cc in absurd (omega arith)
  over-is Γ s ended r ending m ends-returned e by-reject = let z : ◌≡◌ {A = ℕ} 0 1 = cc in absurd (omega arith)
  over-is Γ s ended r ending m (ends-value v) e by-reject = let z : ◌≡◌ {A = ℕ} 0 1 = cc in absurd (omega arith)
  over-is Γ s ended r ending m ends-exited e w = refl
  over-is Γ s ended r ending m ends-rejected e w = refl

  pub finish-over : (ended : Ended) (b : Bool) → TellsBack ended b → b ≡ false
      → Finishes nums directory ends scope slots slots frame frame at parameters count ended
  finish-over ended b t e = record {
    finishes = λ Γ s xs ps ns ending counted l q g. ran-here s ending l.scene
        (over-is Γ s ended ended ending (come_back Γ xs ps ns) q refl (t.none e)) q;
  }

pub ruleset finishing = (finish-low, finish-own, finish-asks, finish-done, finish-over)

pub back-told : (ended r : Ended) → ended ≡ r → Stays r → TellsBack ended true
back-told ended r e w = record {
  back = λ _. stays_on ended r e w;
  none = λ q. let z : ◌≡◌ {A = ℕ} 0 1 = cc in absurd (omega arith);
}

pub over-told : (ended r : Ended) → ended ≡ r → EndsRun r → TellsBack ended false
over-told ended r e w = record {
  back = λ q. let z : ◌≡◌ {A = ℕ} 0 1 = cc in absurd (omega arith);
  none = λ _. rw e w;
}

pub ruleset back_told = (back-told, over-told, stays-onward, stays-returned, stays-value, by-exit, by-reject)

-- a statement that calls
over-after : (ended r : Ended) (ending : Ending) → Ends ended ending → ended ≡ r → EndsRun r → Ends r (after_call ending)
unfolding after_call
over-after ended r ending ends-onward e by-exit = let z : ◌≡◌ {A = ℕ} 0 1 = cc in absurd (omega arith)
over-after ended r ending ends-returned e by-exit = let z : ◌≡◌ {A = ℕ} 0 1 = cc in absurd (omega arith)
over-after ended r ending (ends-value v) e by-exit = let z : ◌≡◌ {A = ℕ} 0 1 = cc in absurd (omega arith)
over-after ended r ending ends-onward e by-reject = let z : ◌≡◌ {A = ℕ} 0 1 = cc in absurd (omega arith)
over-after ended r ending ends-returned e by-reject = let z : ◌≡◌ {A = ℕ} 0 1 = cc in absurd (omega arith)
over-after ended r ending (ends-value v) e by-reject = let z : ◌≡◌ {A = ℕ} 0 1 = cc in absurd (omega arith)
over-after ended r ending ends-exited e w = rw (← e) ends-exited
over-after ended r ending ends-rejected e w = rw (← e) ends-rejected

goes-told : (ended : Ended) (ending : Ending) → Ends ended ending → (EndsRun ended → ⊥) → Ends Onward (after_call ending)
unfolding after_call
goes-told ended ending ends-onward x = ends-onward
goes-told ended ending ends-returned x = ends-onward
goes-told ended ending (ends-value v) x = ends-onward
goes-told ended ending ends-exited x = absurd (x by-exit)
goes-told ended ending ends-rejected x = absurd (x by-reject)

pub call-over : (ended r : Ended) → ended ≡ r → EndsRun r → AfterCall ended r
call-over ended r e w = record { goes_on = λ ending t. over-after ended r ending t e w }

pub call-goes : (ended r : Ended) → ended ≡ r → Stays r → AfterCall ended Onward
call-goes ended r e w = record { goes_on = λ ending t. goes-told ended ending t (stays_on ended r e w) }

pub ruleset after_calls = (call-over, call-goes, stays-onward, stays-returned, stays-value, by-exit, by-reject)
