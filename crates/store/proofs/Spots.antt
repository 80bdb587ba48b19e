-- What a place names, where it stands, and what is read there: its type and the number that it holds.
use Rattle.program.specs.declared.Scope as coded
use mathlib.Core.Option.{Option, some}
use mathlib.Core.Path.{◌≡◌, sym, ap, ◌∙◌}
use mathlib.Core.List.{List}
use Prim.Native.Nat.{ℕ, ◌+◌, ◌≤◌, ◌<◌}
use native.Mathlib.Omega.{arith}
use lib.ListN.{length, get_or}
use Rattle.rules.specs.Numbers.{most_bytes}
use Rattle.rules.specs.Words.{widest}
use Rattle.rules.specs.Syntax.{Ty, Place, local, parameter, global, field}
use Rattle.rules.specs.Form.{Scope}
use Rattle.rules.specs.Running.{State, declared, held}
use Rattle.rules.proofs.Predicates.{SomeOf, is_some, from_some}
use Rattle.rules.proofs.Fits.{Fit, StateFits, held_at}
use Rattle.program.specs.Codes.{ty_of, place_tag}
use Rattle.program.specs.Stands.{StandsPlace}
use Rattle.store.specs.Mirrors.{Scene}
use Rattle.store.specs.Places.{field_tag, local_tag, parameter_tag, variable_tag, NamesPlace, AsksPlace, HeldAs, ReadsPlace}

-- what a place of a tag is, by the numbers behind the tag, the last of which stands at an index
pub record Named (nums : List ℕ) (last : ℕ) (p q : Place) : Type 0 where
  pub is : p ≡ q
  pub inside : last < length nums

module _ (nums : List ℕ) (at : ℕ) where
  abbrev pub first_number : ℕ
  first_number = get_or nums (at + 1) 0

  abbrev pub second_number : ℕ
  second_number = get_or nums (at + 2) 0

  abbrev pub Names : ℕ → ℕ → Place → Type 0
  Names tag last q = (p : Place) → NamesPlace nums at p → get_or nums at 0 ≡ tag → Named nums last p q

  pub named-local : Names local_tag (at + 1) (local first_number)
  unfolding place_tag StandsPlace
  named-local (local i) n e = record { is = ap local (sym n.stands.is); inside = n.stands.inside }
  named-local (parameter i) n e = absurd (omega (arith, n.tag.is))
  named-local (global g) n e = absurd (omega (arith, n.tag.is))
  named-local (field g f) n e = absurd (omega (arith, n.tag.is))

  pub named-parameter : Names parameter_tag (at + 1) (parameter first_number)
  unfolding place_tag StandsPlace
  named-parameter (local i) n e = absurd (omega (arith, n.tag.is))
  named-parameter (parameter i) n e = record { is = ap parameter (sym n.stands.is); inside = n.stands.inside }
  named-parameter (global g) n e = absurd (omega (arith, n.tag.is))
  named-parameter (field g f) n e = absurd (omega (arith, n.tag.is))

  pub named-global : Names variable_tag (at + 1) (global first_number)
  unfolding place_tag StandsPlace
  named-global (local i) n e = absurd (omega (arith, n.tag.is))
  named-global (parameter i) n e = absurd (omega (arith, n.tag.is))
  named-global (global g) n e = record { is = ap global (sym n.stands.is); inside = n.stands.inside }
  named-global (field g f) n e = absurd (omega (arith, n.tag.is))

  pub named-field : Names field_tag (at + 2) (field first_number second_number)
  unfolding place_tag StandsPlace
  named-field (local i) n e = absurd (omega (arith, n.tag.is))
  named-field (parameter i) n e = absurd (omega (arith, n.tag.is))
  named-field (global g) n e = absurd (omega (arith, n.tag.is))
  named-field (field g f) n e =
      let x : get_or nums (at + 1) 0 ≡ g = n.stands.0.is in
      let y : get_or nums (at + 2) 0 ≡ f = n.stands.1.is in
      record { is = rw (x, y); inside = n.stands.1.inside }

-- what a place of a type holds, in a slot, and its type's number
pub record Spot (slots : List ℕ) (p : Place) (s : State) (t : Ty) (ty slot : ℕ) : Type 0 where
  pub most : ty ≤ widest
  pub typed : ty_of ty ≡ t
  pub inside : slot < length slots
  pub holds : held p s ≡ some (get_or slots slot 0)

fit_of : (t : Ty) {o : Option ℕ} (n : ℕ) → o ≡ some n → SomeOf (Fit t) o → Fit t n
fit_of t n e (is_some {a = m} h) =
    let same : m ≡ n = cc in
    rw (← same) h

spot-read : (slots : List ℕ) (Γ : Scope) (p : Place) (s : State) (t : Ty) (ty slot : ℕ) → StateFits Γ s
    → declared Γ p ≡ some t → Spot slots p s t ty slot → HeldAs Γ p s ty (get_or slots slot 0)
spot-read slots Γ p s t ty slot f d h = record {
  declares = d ∙ ap some (sym h.typed);
  holds = h.holds;
  most = h.most;
  fit = rw h.typed (fit_of t (get_or slots slot 0) h.holds (from_some (rw d at (held_at Γ p s f))));
}

-- a place of a tag, of which something is known in whatever state there is
module _ (nums directory ends : List ℕ) (scope : coded.Scope) (slots frame : List ℕ) (at tag last : ℕ) (q : Place)
    (names : Names nums at tag last q) (is : get_or nums at 0 ≡ tag) where
  pub record Asked : Type 0 where
    pub ty : Ty
    pub scope_of : Scope
    pub state : State
    pub scene : Scene nums directory ends scope slots frame scope_of state
    pub declares : declared scope_of q ≡ some ty
    pub few : length nums ≤ most_bytes
    pub behind : last < length nums

  pub asked : AsksPlace nums directory ends scope slots frame at → Asked
  asked asks =
      let n : Named nums last asks.place q = names asks.place asks.names is in
      record {
        ty = asks.ty;
        scope_of = asks.scope_of;
        state = asks.state;
        scene = asks.scene;
        declares = rw n.is at asks.declares;
        few = asks.scene.scopes.program.numbers;
        behind = n.inside;
      }

  pub spot-reads : (held : List ℕ) (ty slot : ℕ)
      → ((Γ : Scope) (s : State) (t : Ty) → Scene nums directory ends scope slots frame Γ s
      → declared Γ q ≡ some t
      → Spot held q s t ty slot)
      → ReadsPlace nums directory ends scope slots frame at (record { ty = ty; number = get_or held slot 0 })
  spot-reads held ty slot spot = record {
    reads = λ Γ s p t h k d.
        let n : Named nums last p q = names p k is in
        let c : declared Γ q ≡ some t = rw n.is at d in
        rw n.is (spot-read held Γ q s t ty slot h.fits c (spot Γ s t h c));
  }
