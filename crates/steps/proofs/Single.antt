-- Statements that run no other construct, by their tags.
use Rattle.program.specs.declared.Scope as coded
use mathlib.Core.Bool.{Bool, true, false}
use mathlib.Core.Option.{Option, some}
use mathlib.Core.Path.{◌≡◌, refl, ◌∙◌}
use mathlib.Core.List.{List, []}
use Prim.Native.Nat.{ℕ, ◌+◌, ◌<◌, ◌^◌}
use native.Mathlib.Omega.{arith}
use lib.ListN.{length, get_or}
use Rattle.rules.specs.Syntax.{Stmt, empty, return, exit, set_valid, set_invalid, extract}
use Rattle.rules.specs.Form.{and_look, Body, is_state, Scope}
use Rattle.rules.specs.Lists.{Cell}
use Rattle.rules.specs.Running.{State, Ending, onward, returned, exited, done, ◌>>=◌, pure, must, puts, short_packet, header_only, shape_for, change_store, make_valid, make_invalid, whole_header, extract_into, extract_at, change_header, leave_by}
use Rattle.program.specs.Stands.{Holds, StandsStmt, on-empty, on-assign, on-if, on-block, on-call-stmt, on-apply, on-return-value, on_return, on-exit, on-set-valid, on-set-invalid, on-extract, on-verify}
use Rattle.program.proofs.Views.{stmt-begins}
use Rattle.store.specs.Mirrors.{Scene}
use Rattle.store.specs.Changes.{AsksHeader, ChangesHeader}
use Rattle.store.specs.Packets.{AsksExtract, extract_ends, Extracts}
use Rattle.steps.specs.declared.Ended.{Ended}
use Rattle.steps.specs.declared.Ended.TheVariants.{Onward, Returned, Exited, Rejected}
use Rattle.steps.specs.Outcomes.{Goes, Ran, Ends, ends-onward, ends-returned, ends-exited, ends-rejected}
use Rattle.steps.specs.Singles.{single_in, AsksSingle, RunsSingle}
use Rattle.steps.proofs.Going.{Known, Begun, not-nowhere, then-goes, some-then-goes, must-then-goes, must-then-is, some-then-is, ran-here, ran_then, ran-becomes}

-- the statement at a tag
pub data SingleOf (nums : List ℕ) (at : ℕ) : ℕ → Stmt → Type 0 where
  is-empty : SingleOf nums at 0 (empty at)
  is-return : SingleOf nums at 7 (return at)
  is-exit : SingleOf nums at 8 (exit at)
  is-valid : {g : ℕ} → Holds nums (at + 1) g → SingleOf nums at 9 (set_valid at g)
  is-invalid : {g : ℕ} → Holds nums (at + 1) g → SingleOf nums at 10 (set_invalid at g)
  is-extract : {g : ℕ} → Holds nums (at + 1) g → SingleOf nums at 11 (extract at g)

single_of : {nums ends : List ℕ} {depth at : ℕ} {st : Stmt} (Γ : Scope) (s : State) (counted : ℕ)
    → StandsStmt nums ends depth at st → Goes counted (single_in Γ st s) → SingleOf nums at (get_or nums at 0) st
unfolding single_in
single_of Γ s counted (on-empty t) g = rw t.holds.is is-empty
single_of Γ s counted (on-assign t p w e) g = not-nowhere s g
single_of Γ s counted (on-if t c a b) g = not-nowhere s g
single_of Γ s counted (on-block t n ss) g = not-nowhere s g
single_of Γ s counted (on-call-stmt t f n xs) g = not-nowhere s g
single_of Γ s counted (on-apply t n) g = not-nowhere s g
single_of Γ s counted (on-return-value t e) g = not-nowhere s g
single_of Γ s counted (on_return t) g = rw t.holds.is is-return
single_of Γ s counted (on-exit t) g = rw t.holds.is is-exit
single_of Γ s counted (on-set-valid t n) g = rw t.holds.is (is-valid n)
single_of Γ s counted (on-set-invalid t n) g = rw t.holds.is (is-invalid n)
single_of Γ s counted (on-extract t n) g = rw t.holds.is (is-extract n)
single_of Γ s counted (on-verify t c e) g = not-nowhere s g

-- its cases
module _ (nums : List ℕ) (at : ℕ) where
  empty-is : {tag : ℕ} {st : Stmt} → SingleOf nums at tag st → tag ≡ 0 → st ≡ empty at
  empty-is is-empty q = refl
  empty-is is-return q = absurd (omega (arith, q))
  empty-is is-exit q = absurd (omega (arith, q))
  empty-is (is-valid h) q = absurd (omega (arith, q))
  empty-is (is-invalid h) q = absurd (omega (arith, q))
  empty-is (is-extract h) q = absurd (omega (arith, q))

  return-is : {tag : ℕ} {st : Stmt} → SingleOf nums at tag st → tag ≡ 7 → st ≡ return at
  return-is is-empty q = absurd (omega (arith, q))
  return-is is-return q = refl
  return-is is-exit q = absurd (omega (arith, q))
  return-is (is-valid h) q = absurd (omega (arith, q))
  return-is (is-invalid h) q = absurd (omega (arith, q))
  return-is (is-extract h) q = absurd (omega (arith, q))

  exit-is : {tag : ℕ} {st : Stmt} → SingleOf nums at tag st → tag ≡ 8 → st ≡ exit at
  exit-is is-empty q = absurd (omega (arith, q))
  exit-is is-return q = absurd (omega (arith, q))
  exit-is is-exit q = refl
  exit-is (is-valid h) q = absurd (omega (arith, q))
  exit-is (is-invalid h) q = absurd (omega (arith, q))
  exit-is (is-extract h) q = absurd (omega (arith, q))

  pub record HeaderOf (make : ℕ → Stmt) (st : Stmt) : Type 0 where
    pub inside : at + 1 < length nums
    pub is : st ≡ make (get_or nums (at + 1) 0)

  valid-is : {tag : ℕ} {st : Stmt} → SingleOf nums at tag st → tag ≡ 9 → HeaderOf (set_valid at) st
  valid-is is-empty q = absurd (omega (arith, q))
  valid-is is-return q = absurd (omega (arith, q))
  valid-is is-exit q = absurd (omega (arith, q))
  valid-is (is-valid h) q = record { inside = h.inside; is = rw h.is refl }
  valid-is (is-invalid h) q = absurd (omega (arith, q))
  valid-is (is-extract h) q = absurd (omega (arith, q))

  invalid-is : {tag : ℕ} {st : Stmt} → SingleOf nums at tag st → tag ≡ 10 → HeaderOf (set_invalid at) st
  invalid-is is-empty q = absurd (omega (arith, q))
  invalid-is is-return q = absurd (omega (arith, q))
  invalid-is is-exit q = absurd (omega (arith, q))
  invalid-is (is-valid h) q = absurd (omega (arith, q))
  invalid-is (is-invalid h) q = record { inside = h.inside; is = rw h.is refl }
  invalid-is (is-extract h) q = absurd (omega (arith, q))

  extract-is : {tag : ℕ} {st : Stmt} → SingleOf nums at tag st → (tag ≡ 0 → ⊥) → (tag ≡ 7 → ⊥) → (tag ≡ 8 → ⊥)
      → (tag ≡ 9 → ⊥) → (tag ≡ 10 → ⊥) → HeaderOf (extract at) st
  extract-is is-empty a b c d e = absurd (a refl)
  extract-is is-return a b c d e = absurd (b refl)
  extract-is is-exit a b c d e = absurd (c refl)
  extract-is (is-valid h) a b c d e = absurd (d refl)
  extract-is (is-invalid h) a b c d e = absurd (e refl)
  extract-is (is-extract h) a b c d e = record { inside = h.inside; is = rw h.is refl }

-- what the rules come to
changes-known : (Γ : Scope) (g counted : ℕ) (f : Cell → Option Cell) (s : State)
    → Goes counted ((change_header Γ g f >>= λ _. pure onward) s) → Known (and_look (shape_for Γ g) header_only)
unfolding change_header
changes-known Γ g counted f s h =
    let b : Begun counted (change_header Γ g f) (λ _. pure onward) s = then-goes _ _ s h in
    let w = some-then-goes (and_look (shape_for Γ g) header_only) (λ _. puts (change_store f g)) s b.first in
    record { member = w.member; is = w.is }

outside : (b : Body) (ending : Ending) (counted : ℕ) (s : State) → Goes counted (leave_by b ending s)
    → leave_by b ending s ≡ done ending s []
unfolding leave_by pure
outside b ending counted s g =
    let w = must-then-goes _ _ s g in
    must-then-is _ _ s w.0

-- a header that is filled: it is one of whole bytes, in a state
record Extracting (Γ : Scope) (g counted : ℕ) (s : State) : Type 0 where
  widths : List ℕ
  parsing : is_state Γ.body ≡ true
  whole : and_look (shape_for Γ g) whole_header ≡ some widths
  is : (must (is_state Γ.body) >>= λ _. extract_at Γ g) s ≡ extract_into g widths s

extracting : (Γ : Scope) (g counted : ℕ) (s : State)
    → Goes counted ((must (is_state Γ.body) >>= λ _. extract_at Γ g) s) → Extracting Γ g counted s
unfolding extract_at
extracting Γ g counted s h =
    let b = must-then-goes (is_state Γ.body) (λ _. extract_at Γ g) s h in
    let w = some-then-goes (and_look (shape_for Γ g) whole_header) (λ widths. extract_into g widths) s b.1 in
    record {
      widths = w.member;
      parsing = b.0;
      whole = w.is;
      is = must-then-is (is_state Γ.body) (λ _. extract_at Γ g) s b.0
          ∙ some-then-is (and_look (shape_for Γ g) whole_header) (λ widths. extract_into g widths) s w.is;
    }

module _ {nums directory ends : List ℕ} {scope : coded.Scope} {slots frame : List ℕ} {Γ : Scope} where
  changes-ran : (g counted : ℕ) (f : Cell → Option Cell) (s : State) (slots' : List ℕ)
      → Scene nums directory ends scope slots frame Γ s → ChangesHeader f directory slots slots' g
      → Goes counted ((change_header Γ g f >>= λ _. pure onward) s)
      → Ran nums directory ends scope slots slots' frame frame Γ ((change_header Γ g f >>= λ _. pure onward) s)
      (Ends Onward)
  unfolding change_header pure
  changes-ran g counted f s slots' h c going =
      let k = changes-known Γ g counted f s going in
      let ran : Ran nums directory ends scope slots slots' frame frame Γ (puts (change_store f g) s) (λ _. Unit {0})
      = ran-becomes (change_store f g) s (c.changes nums ends scope frame Γ s k.member h k.is) in
      let made : Ran nums directory ends scope slots slots' frame frame Γ (change_header Γ g f s) (λ _. Unit {0})
      = rw (some-then-is (and_look (shape_for Γ g) header_only) (λ _. puts (change_store f g)) s k.is) ran in
      ran_then (change_header Γ g f) (λ _. pure onward) s made (ran-here made.state onward made.scene refl
      ends-onward)

module _ (nums directory ends slots : List ℕ) (at : ℕ) where
  module _ (a : AsksSingle nums directory ends slots at) where
    this : SingleOf nums at (get_or nums at 0) a.stmt
    this = single_of a.scope_of a.state a.counted a.stands a.going

    pub single-inside : at < length nums
    single-inside = (stmt-begins a.stands).inside

    pub single-next : at + 1 < 2 ^ 64
    single-next = omega (arith, single-inside, a.scene.scopes.program.numbers)

    asks-header : (make : ℕ → Stmt) (f : Cell → Option Cell)
        → ((g : ℕ) → single_in a.scope_of (make g) ≡ (change_header a.scope_of g f >>= λ _. pure onward))
        → HeaderOf nums at make a.stmt → AsksHeader directory slots (get_or nums (at + 1) 0)
    asks-header make f e h =
        let going : Goes a.counted (single_in a.scope_of (make (get_or nums (at + 1) 0)) a.state)
        = rw h.is at a.going in
        let k = changes-known a.scope_of (get_or nums (at + 1) 0) a.counted f a.state
        (rw (e (get_or nums (at + 1) 0)) at going) in
        record {
          nums = nums;
          ends = ends;
          scope = a.scope;
          frame = a.frame;
          scope_of = a.scope_of;
          state = a.state;
          widths = k.member;
          scene = a.scene;
          is = k.is;
        }

    pub valid-inside : get_or nums at 0 ≡ 9 → at + 1 < length nums
    valid-inside q = (valid-is nums at this q).inside

    pub valid-asks : get_or nums at 0 ≡ 9 → AsksHeader directory slots (get_or nums (at + 1) 0)
    unfolding single_in
    valid-asks q = asks-header (set_valid at) make_valid (λ g. refl) (valid-is nums at this q)

    pub invalid-inside : get_or nums at 0 ≡ 10 → at + 1 < length nums
    invalid-inside q = (invalid-is nums at this q).inside

    pub invalid-asks : get_or nums at 0 ≡ 10 → AsksHeader directory slots (get_or nums (at + 1) 0)
    unfolding single_in
    invalid-asks q = asks-header (set_invalid at) make_invalid (λ g. refl) (invalid-is nums at this q)

    module _ (v : get_or nums at 0 ≡ 0 → ⊥) (w : get_or nums at 0 ≡ 7 → ⊥) (x : get_or nums at 0 ≡ 8 → ⊥)
        (y : get_or nums at 0 ≡ 9 → ⊥) (z : get_or nums at 0 ≡ 10 → ⊥) where
      pub extract-inside : at + 1 < length nums
      extract-inside = (extract-is nums at this v w x y z).inside

      pub extract-asks : AsksExtract nums directory ends slots (get_or nums (at + 1) 0)
      unfolding single_in
      extract-asks =
          let going : Goes a.counted (single_in a.scope_of (extract at (get_or nums (at + 1) 0)) a.state)
          = rw (extract-is nums at this v w x y z).is at a.going in
          let k = extracting a.scope_of (get_or nums (at + 1) 0) a.counted a.state going in
          record {
            scope = a.scope;
            frame = a.frame;
            scope_of = a.scope_of;
            state = a.state;
            widths = k.widths;
            scene = a.scene;
            parsing = k.parsing;
            is = k.whole;
          }

  empty-ran : (Γ : Scope) (s : State) (st : Stmt) → st ≡ empty at → single_in Γ st s ≡ done onward s []
  unfolding single_in pure
  empty-ran Γ s st e = rw e refl

  return-ran : (Γ : Scope) (s : State) (st : Stmt) (counted : ℕ) → st ≡ return at → Goes counted (single_in Γ st s)
      → single_in Γ st s ≡ done returned s []
  unfolding single_in
  return-ran Γ s st counted e g = rw e (outside Γ.body returned counted s (rw e at g))

  exit-ran : (Γ : Scope) (s : State) (st : Stmt) (counted : ℕ) → st ≡ exit at → Goes counted (single_in Γ st s)
      → single_in Γ st s ≡ done exited s []
  unfolding single_in
  exit-ran Γ s st counted e g = rw e (outside Γ.body exited counted s (rw e at g))

  header-ran : (scope : coded.Scope) (frame : List ℕ) (Γ : Scope) (s : State) (st : Stmt) (g counted : ℕ)
      (make : ℕ → Stmt) (f : Cell → Option Cell) (slots' : List ℕ)
      → single_in Γ (make g) ≡ (change_header Γ g f >>= λ _. pure onward) → st ≡ make g
      → Scene nums directory ends scope slots frame Γ s → ChangesHeader f directory slots slots' g
      → Goes counted (single_in Γ st s)
      → Ran nums directory ends scope slots slots' frame frame Γ (single_in Γ st s) (Ends Onward)
  header-ran scope frame Γ s st g counted make f slots' e same h c going =
      let there : Goes counted (single_in Γ (make g) s) = rw same at going in
      rw (same, e) (changes-ran g counted f s slots' h c (rw e at there))

  pub empty_runs : get_or nums at 0 ≡ 0 → RunsSingle nums directory ends slots slots at Onward
  empty_runs q = record {
    runs = λ scope frame Γ s st depth counted h w g. ran-here s onward h
        (empty-ran Γ s st (empty-is nums at (single_of Γ s counted w g) q)) ends-onward;
  }

  pub return-runs : get_or nums at 0 ≡ 7 → RunsSingle nums directory ends slots slots at Returned
  return-runs q = record {
    runs = λ scope frame Γ s st depth counted h w g. ran-here s returned h
        (return-ran Γ s st counted (return-is nums at (single_of Γ s counted w g) q) g) ends-returned;
  }

  pub exit-runs : get_or nums at 0 ≡ 8 → RunsSingle nums directory ends slots slots at Exited
  exit-runs q = record {
    runs = λ scope frame Γ s st depth counted h w g. ran-here s exited h
        (exit-ran Γ s st counted (exit-is nums at (single_of Γ s counted w g) q) g) ends-exited;
  }

  pub valid-runs : (slots' : List ℕ) → get_or nums at 0 ≡ 9
      → ChangesHeader make_valid directory slots slots' (get_or nums (at + 1) 0)
      → RunsSingle nums directory ends slots slots' at Onward
  unfolding single_in
  valid-runs slots' q c = record {
    runs = λ scope frame Γ s st depth counted h w g. header-ran scope frame Γ s st
        (get_or nums (at + 1) 0) counted (set_valid at) make_valid slots' refl
        (valid-is nums at (single_of Γ s counted w g) q).is h c g;
  }

  pub invalid-runs : (slots' : List ℕ) → get_or nums at 0 ≡ 10
      → ChangesHeader make_invalid directory slots slots' (get_or nums (at + 1) 0)
      → RunsSingle nums directory ends slots slots' at Onward
  unfolding single_in
  invalid-runs slots' q c = record {
    runs = λ scope frame Γ s st depth counted h w g. header-ran scope frame Γ s st
        (get_or nums (at + 1) 0) counted (set_invalid at) make_invalid slots' refl
        (invalid-is nums at (single_of Γ s counted w g) q).is h c g;
  }

  extract-ran : (scope : coded.Scope) (frame : List ℕ) (Γ : Scope) (s : State) (st : Stmt) (counted : ℕ) (slots' : List ℕ) (r : Bool)
      (ended : Ended) → Ends ended (extract_ends r) → st ≡ extract at (get_or nums (at + 1) 0)
      → Scene nums directory ends scope slots frame Γ s
      → Extracts nums directory ends slots slots' (get_or nums (at + 1) 0) r → Goes counted (single_in Γ st s)
      → Ran nums directory ends scope slots slots' frame frame Γ (single_in Γ st s) (Ends ended)
  unfolding single_in
  extract-ran scope frame Γ s st counted slots' r ended t e h x g =
      let there : Goes counted (single_in Γ (extract at (get_or nums (at + 1) 0)) s) = rw e at g in
      let k = extracting Γ (get_or nums (at + 1) 0) counted s there in
      let m = x.extracts scope frame Γ s k.widths h k.parsing k.whole in
      rw e (record {
        answer = extract_ends r;
        state = m.state;
        seen = [];
        is = k.is ∙ m.is;
        scene = m.scene;
        counted = omega (arith, m.counter);
        same = refl;
        answers = t;
      })

  module _ (slots' : List ℕ) (r : Bool) (t : get_or nums at 0 ≡ 0 → ⊥) (v : get_or nums at 0 ≡ 7 → ⊥)
      (x : get_or nums at 0 ≡ 8 → ⊥) (y : get_or nums at 0 ≡ 9 → ⊥) (z : get_or nums at 0 ≡ 10 → ⊥)
      (m : Extracts nums directory ends slots slots' (get_or nums (at + 1) 0) r) where
    pub extract-runs : r ≡ true → RunsSingle nums directory ends slots slots' at Onward
    unfolding extract_ends
    extract-runs q = record {
      runs = λ scope frame Γ s st depth counted h w g. extract-ran scope frame Γ s st counted slots' true Onward
          ends-onward (extract-is nums at (single_of Γ s counted w g) t v x y z).is h (rw q at m) g;
    }

    pub short-runs : r ≡ false → RunsSingle nums directory ends slots slots' at (Rejected short_packet)
    unfolding extract_ends
    short-runs q = record {
      runs = λ scope frame Γ s st depth counted h w g. extract-ran scope frame Γ s st counted slots' false
          (Rejected short_packet) ends-rejected (extract-is nums at (single_of Γ s counted w g) t v x y z).is h
          (rw q at m) g;
    }

pub ruleset single = (
  single-next,
  single-inside,
  valid-inside,
  valid-asks,
  invalid-inside,
  invalid-asks,
  empty_runs,
  return-runs,
  exit-runs,
  valid-runs,
  invalid-runs,
  extract-inside,
  extract-asks,
  extract-runs,
  short-runs,
)
