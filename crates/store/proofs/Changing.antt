-- What a change of one cell makes of a state, and of the slots that mirror it.
use Rattle.program.specs.declared.Scope as coded
use mathlib.Core.Option.{Option, some}
use mathlib.Core.Path.{◌≡◌, refl, sym, ◌∙◌}
use mathlib.Core.List.{List}
use Prim.Native.Nat.{ℕ, ◌+◌, ◌≤◌, ◌<◌}
use native.Mathlib.Omega.{arith}
use lib.ListN.{length, get_or, set, length-set}
use lib.Seq.{get_or-set_same, get_or-set_other}
use Rattle.rules.specs.Syntax.{Ty, Place}
use Rattle.rules.specs.Form.{and_look, Shape, Scope}
use Rattle.rules.specs.Lists.{Cell, slots_of_cell}
use Rattle.rules.specs.Running.{State, change, declared, with_store, change_store, put}
use Rattle.rules.proofs.Predicates.{SomeOf, is_some, from_some}
use Rattle.rules.proofs.Fits.{Fit, StateFits, put-at}
use Rattle.store.specs.Mirrors.{counter_slot, position_slot, MirrorsPacket, Scene}
use Rattle.store.specs.Changes.{KeepsFree, Becomes, WritesPlace}
use Rattle.store.proofs.Flat.{change-is, Order, under, beyond, order}
use Rattle.store.proofs.Spots.{Names, Named}
use Rattle.store.proofs.Cells.{start_of, cell-inside, Replaced, cell-changed}
use Rattle.store.proofs.Stored.{CellOf}

-- one of some numbers is set
module _ (slots ns : List ℕ) (start j v : ℕ) (room : start + length ns ≤ length slots) (inside : j < length ns)
    (is : (i : ℕ) → i < length ns → get_or slots (start + i) 0 ≡ get_or ns i 0) where
  set-inside : (i : ℕ) → i < length ns → Order i j → Order j i
      → get_or (set slots (start + j) v) (start + i) 0 ≡ get_or (set ns j v) i 0
  set-inside i h (under o) q =
      get_or-set_other slots (start + j) (start + i) v 0 (λ e. absurd (omega (arith, e)))
      ∙ (is i h ∙ sym (get_or-set_other ns j i v 0 (λ e. absurd (omega (arith, e)))))
  set-inside i h (beyond o) (under q) =
      get_or-set_other slots (start + j) (start + i) v 0 (λ e. absurd (omega (arith, e)))
      ∙ (is i h ∙ sym (get_or-set_other ns j i v 0 (λ e. absurd (omega (arith, e)))))
  set-inside i h (beyond o) (beyond q) =
      let e : i ≡ j = omega arith in
      rw e (get_or-set_same slots (start + j) v 0 (omega arith) ∙ sym (get_or-set_same ns j v 0 inside))

  pub set-replaced : Replaced slots (set slots (start + j) v) start (set ns j v)
  set-replaced = record {
    same = length-set slots (start + j) v;
    inside = λ i h.
        let k : i < length ns = omega (arith, length-set ns j v) in
        set-inside i k (order i j) (order j i);
    before = λ k h. get_or-set_other slots (start + j) k v 0 (λ e. absurd (omega (arith, e)));
    behind = λ k h. get_or-set_other slots (start + j) k v 0 (λ e. absurd (omega (arith, e, length-set ns j v)));
  }

-- the state that there is
pub the-some : {A : Type 0} {P : A → Type 0} {o : Option A} {a : A} → o ≡ some a → SomeOf P o → P a
the-some {P = P} {a = a} e (is_some {a = b} h) =
    let same : b ≡ a = cc in
    rw (← same) h

pub same-frame : (frame : List ℕ) (own : ℕ) → KeepsFree frame frame own
same-frame frame own = record { same = refl; free = λ i h. refl }

-- the unread bytes stay where their index does
pub packet-stays : (nums slots slots' packet : List ℕ) → get_or slots' position_slot 0 ≡ get_or slots position_slot 0
    → MirrorsPacket nums slots packet → MirrorsPacket nums slots' packet
packet-stays nums slots slots' packet e p = rw e p

-- a changed cell, as the rules make it, with the slots of its numbers
pub record Made (f : Cell → Option Cell) (slots slots' : List ℕ) (start : ℕ) (c : Cell) : Type 0 where
  pub cell : Cell
  pub is : f c ≡ some cell
  pub size : length (slots_of_cell cell) ≡ length (slots_of_cell c)
  pub replaced : Replaced slots slots' start (slots_of_cell cell)

module _ (nums directory ends : List ℕ) (scope : coded.Scope) (slots frame : List ℕ) (Γ : Scope) (s : State)
    (h : Scene nums directory ends scope slots frame Γ s) (g : ℕ) (shape : Shape)
    (c : CellOf directory s.store g shape) where
  pub store-becomes : (f : Cell → Option Cell) (slots' : List ℕ) → Made f slots slots' (start_of s.store g) c.cell
      → SomeOf (StateFits Γ) (change_store f g s)
      → Becomes nums directory ends scope slots slots' frame frame Γ s (change_store f g s)
  unfolding change_store and_look with_store
  store-becomes f slots' m k =
      let e : change f s.store g ≡ some (set s.store g m.cell)
      = change-is f s.store g c.cell m.cell c.found m.is in
      let made : change_store f g s ≡ some (with_store s (set s.store g m.cell)) = rw e in
      record {
        state = with_store s (set s.store g m.cell);
        is = made;
        scene = record {
          scopes = h.scopes;
          offset = h.offset;
          fits = the-some made k;
          store = cell-changed slots s.store g c.cell c.found h.store slots' m.cell m.size
              m.replaced;
          frames = h.frames;
          packet = λ p. packet-stays nums slots slots' s.packet (m.replaced.behind position_slot
              (omega (arith, m.size, cell-inside slots s.store g c.cell c.found h.store))) (h.packet p);
        };
        counter = m.replaced.behind counter_slot
            (omega (arith, m.size, cell-inside slots s.store g c.cell c.found h.store));
        keeps = same-frame frame (length s.parameters + length s.locals);
      }

pub put-fits : (Γ : Scope) (p : Place) (s : State) (t : Ty) (n : ℕ) → StateFits Γ s → declared Γ p ≡ some t → Fit t n
    → SomeOf (StateFits Γ) (put p n s)
put-fits Γ p s t n f d h = from_some (rw d at (put-at Γ p s f)) n h

-- a place of a tag is written
pub spot-writes : (nums directory ends : List ℕ) (scope : coded.Scope) (slots slots' frame frame' : List ℕ) (at number tag last : ℕ)
    (q : Place)
    → Names nums at tag last q → get_or nums at 0 ≡ tag
    → ((Γ : Scope) (s : State) (t : Ty) → Scene nums directory ends scope slots frame Γ s
    → declared Γ q ≡ some t
    → Fit t number → Becomes nums directory ends scope slots slots' frame frame' Γ s (put q number s))
    → WritesPlace nums directory ends scope slots slots' frame frame' at number
spot-writes nums directory ends scope slots slots' frame frame' at number tag last q names is becomes = record {
  writes = λ Γ s p t h k d fit.
      let n : Named nums last p q = names p k is in
      rw n.is (becomes Γ s t h (rw n.is at d) fit);
}
