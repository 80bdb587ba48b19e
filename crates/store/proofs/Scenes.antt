-- Scenes around what the places do: a run begins, the counter is set, a call begins, a call has ended, the apply body
-- follows a state.
use Rattle.program.specs.declared.Scope as coded
use mathlib.Core.Bool.{Bool, true, false, false≢true}
use mathlib.Core.Option.{Option, none, some}
use mathlib.Core.Path.{◌≡◌, refl, sym, ◌∙◌}
use mathlib.Core.List.{List, [], ◌∷◌}
use Prim.Native.Nat.{ℕ, ◌+◌, ◌≤◌, ◌<◌}
use native.Mathlib.Omega.{arith}
use lib.ListN.{length, get_or, set, length-set}
use lib.Seq.{get_or-set_same, get_or-set_other}
use Rattle.rules.specs.Syntax.{Ty, Callable, Program}
use Rattle.rules.specs.Form.{body_of, is_state, Scope, scope_of, apply_scope, state_scope}
use Rattle.rules.specs.Lists.{Cell, slots_of}
use Rattle.rules.specs.Running.{State, with_store, with_packet, fresh, started}
use Rattle.rules.proofs.Predicates.{All2, nil, cons}
use Rattle.rules.proofs.Fits.{Fit, FitParameter, StoreFits, zero-fits, with-store, with-packet}
use Rattle.shape.specs.Directory.{offsets_slot}
use Rattle.program.specs.Stands.{StandsProgram}
use Rattle.program.specs.Scopes.{StandsScope}
use Rattle.lists.specs.Stands.{HoldsAll}
use Rattle.store.specs.Mirrors.{counter_slot, position_slot, store_slots, MirrorsStore, Unread, MirrorsPacket, OffsetsOf, Scene}
use Rattle.store.specs.Fills.{Clears, AsksCopy, Copies}
use Rattle.store.proofs.Changing.{packet-stays}
use Rattle.store.proofs.Filling.{copy-asks, copied_is}
use Rattle.store.proofs.Sizes.{store-most, noughts, fresh-frame}

pub counter-mirrors : (slots : List ℕ) (cells : List Cell) (n : ℕ) → MirrorsStore slots cells
    → MirrorsStore (set slots counter_slot n) cells
counter-mirrors slots cells n m = record {
  count = length-set slots counter_slot n ∙ m.count;
  most = m.most;
  is = λ i h. get_or-set_other slots counter_slot i n 0 (λ e. absurd (omega (arith, e, m.most))) ∙ m.is i h;
}

pub position-mirrors : (slots : List ℕ) (cells : List Cell) (at : ℕ) → MirrorsStore slots cells
    → MirrorsStore (set slots position_slot at) cells
position-mirrors slots cells at m = record {
  count = length-set slots position_slot at ∙ m.count;
  most = m.most;
  is = λ i h. get_or-set_other slots position_slot i at 0 (λ e. absurd (omega (arith, e, m.most))) ∙ m.is i h;
}

pub packet-set : (nums slots : List ℕ) (at : ℕ) (packet : List ℕ) → length slots ≡ store_slots → Unread nums at packet
    → MirrorsPacket nums (set slots position_slot at) packet
packet-set nums slots at packet n u = rw (get_or-set_same slots position_slot at 0 (omega (arith, n))) u

-- the counter is no part of a state
pub scene-counted : (nums directory ends : List ℕ) (scope : coded.Scope) (slots frame : List ℕ) (Γ : Scope) (s : State) (n : ℕ)
    → Scene nums directory ends scope slots frame Γ s
    → Scene nums directory ends scope (set slots counter_slot n) frame Γ s
scene-counted nums directory ends scope slots frame Γ s n h = record {
  scopes = h.scopes;
  offset = h.offset;
  fits = h.fits;
  store = counter-mirrors slots s.store n h.store;
  frames = h.frames;
  packet = λ p. packet-stays nums slots (set slots counter_slot n) s.packet
      (get_or-set_other slots counter_slot position_slot n 0 (λ e. absurd (omega (arith, e)))) (h.packet p);
}

not-state : {A : Type 0} {b : Bool} → b ≡ false → b ≡ true → A
not-state e p = absurd (false≢true (sym e ∙ p))

-- a call has ended, which was made in no state: the store has changed, and of the frame only what was free
pub scene-entered : (nums directory ends : List ℕ) (scope : coded.Scope) (slots slots' frame frame' : List ℕ) (Γ : Scope) (s : State)
    (cells : List Cell)
    → Scene nums directory ends scope slots frame Γ s → is_state Γ.body ≡ false → StoreFits Γ.program cells
    → MirrorsStore slots' cells
    → length frame' ≡ length frame
    → ((i : ℕ) → i < length s.parameters + length s.locals → get_or frame' i 0 ≡ get_or frame i 0)
    → Scene nums directory ends scope slots' frame' Γ (with_store s cells)
unfolding with_store
scene-entered nums directory ends scope slots slots' frame frame' Γ s cells h outside f m same own = record {
  scopes = h.scopes;
  offset = h.offset;
  fits = with-store Γ h.fits f;
  store = m;
  frames = record {
    room = omega (arith, h.frames.room);
    parameter = λ i l. own i (omega arith) ∙ h.frames.parameter i l;
    local = λ i l. own (length s.parameters + i) (omega arith) ∙ h.frames.local i l;
  };
  packet = not-state outside;
}

-- a call begins: its numbers are in the first slots of its frame, and its locals are cleared
noughts-fit : (ts : List Ty) → All2 Fit ts (noughts ts)
noughts-fit [] = nil
noughts-fit (t ∷ ts) = cons {a = t} {b = 0} (zero-fits t) (noughts-fit ts)

callee-outside : (returns : Option Ty) → is_state (body_of returns) ≡ false
unfolding body_of is_state
callee-outside none = refl
callee-outside (some t) = refl

pub scene-fresh : (nums directory ends : List ℕ) (scope : coded.Scope) (slots frame frame' : List ℕ) (P : Program) (n : ℕ) (c : Callable)
    (ns : List ℕ) (cells : List Cell)
    → StandsScope nums directory ends scope (scope_of P n c) → OffsetsOf P directory offsets_slot → StoreFits P cells
    → All2 FitParameter c.parameters ns → MirrorsStore slots cells → length ns + length c.locals ≤ length frame
    → ((i : ℕ) → i < length ns → get_or frame i 0 ≡ get_or ns i 0)
    → Clears frame frame' (length ns) (length ns + length c.locals)
    → Scene nums directory ends scope slots frame' (scope_of P n c) (fresh c ns cells)
unfolding scope_of fresh
scene-fresh nums directory ends scope slots frame frame' P n c ns cells s o f k m room args z = record {
  scopes = s;
  offset = o;
  fits = record { store-fits = f; parameters-fit = k; locals-fit = noughts-fit c.locals };
  store = m;
  frames = fresh-frame frame frame' c ns cells room args z;
  packet = not-state (callee-outside c.returns);
}

-- a run begins, with the store's numbers copied and the counter set
module _ (nums directory ends : List ℕ) (P : Program) (end store size : ℕ) (cells : List Cell) (packet : List ℕ)
    (s : StandsProgram nums directory ends P end) (h : HoldsAll nums store (slots_of cells))
    (e : size ≡ length (slots_of cells)) (f : StoreFits P cells) where
  pub start-copies : (slots : List ℕ) → length slots ≡ store_slots → AsksCopy nums slots store size
  start-copies slots n = copy-asks nums slots store size (slots_of cells) s.numbers h e
      (omega (arith, n, e, store-most nums directory ends P end s cells f))

  pub scene-start : (scope : coded.Scope) (slots slots' frame : List ℕ) (n : ℕ) → StandsScope nums directory ends scope (apply_scope P)
      → OffsetsOf P directory offsets_slot → length slots ≡ store_slots → Copies nums slots slots' store size
      → Scene nums directory ends scope (set slots' counter_slot n) frame (apply_scope P) (started cells packet)
  unfolding apply_scope started is_state
  scene-start scope slots slots' frame n k o m c = record {
    scopes = k;
    offset = o;
    fits = record { store-fits = f; parameters-fit = nil; locals-fit = nil };
    store = counter-mirrors slots' cells n (record {
      count = c.same ∙ m;
      most = store-most nums directory ends P end s cells f;
      is = copied_is nums slots slots' store size (slots_of cells) c h e;
    });
    frames = record {
      room = omega arith;
      parameter = λ i q. absurd (omega arith);
      local = λ i q. absurd (omega arith);
    };
    packet = not-state refl;
  }

-- the packet is read on
pub scene-moved : (nums directory ends : List ℕ) (scope : coded.Scope) (slots frame : List ℕ) (Γ : Scope) (s : State) (at : ℕ) (packet : List ℕ)
    → Scene nums directory ends scope slots frame Γ s → Unread nums at packet
    → Scene nums directory ends scope (set slots position_slot at) frame Γ (with_packet s packet)
unfolding with_packet
scene-moved nums directory ends scope slots frame Γ s at packet h u = record {
  scopes = h.scopes;
  offset = h.offset;
  fits = with-packet Γ packet h.fits;
  store = position-mirrors slots s.store at h.store;
  frames = h.frames;
  packet = λ _. packet-set nums slots at packet h.store.count u;
}

-- the apply body and the states see the same, but for the packet, whose index is set for them
pub scene-state : (nums directory ends : List ℕ) (scope scope' : coded.Scope) (slots frame : List ℕ) (P : Program) (s : State) (at : ℕ)
    → Scene nums directory ends scope slots frame (apply_scope P) s
    → StandsScope nums directory ends scope' (state_scope P) → Unread nums at s.packet
    → Scene nums directory ends scope' (set slots position_slot at) frame (state_scope P) s
unfolding apply_scope state_scope
scene-state nums directory ends scope scope' slots frame P s at h k u = record {
  scopes = k;
  offset = h.offset;
  fits = record {
    store-fits = h.fits.store-fits;
    parameters-fit = h.fits.parameters-fit;
    locals-fit = h.fits.locals-fit;
  };
  store = position-mirrors slots s.store at h.store;
  frames = h.frames;
  packet = λ _. packet-set nums slots at s.packet h.store.count u;
}

pub scene-apply : (nums directory ends : List ℕ) (scope scope' : coded.Scope) (slots frame : List ℕ) (P : Program) (s : State)
    → Scene nums directory ends scope' slots frame (state_scope P) s
    → StandsScope nums directory ends scope (apply_scope P)
    → Scene nums directory ends scope slots frame (apply_scope P) s
unfolding apply_scope state_scope is_state
scene-apply nums directory ends scope scope' slots frame P s h k = record {
  scopes = k;
  offset = h.offset;
  fits = record {
    store-fits = h.fits.store-fits;
    parameters-fit = h.fits.parameters-fit;
    locals-fit = h.fits.locals-fit;
  };
  store = h.store;
  frames = h.frames;
  packet = not-state refl;
}
