-- How a state of the rules stands in slots: the store's numbers in file order, one a slot; a body's parameters and then
-- its locals in the first slots of its frame; in a parser's state the index of the packet's unread bytes.
use Rattle.program.specs.declared.Scope as coded
use Rattle.std.specs.Prelude.{true, ◌≡◌, List, ℕ, ◌+◌, ◌*◌, ◌≤◌, ◌<◌, length, get_or, drop}
use Rattle.rules.specs.Syntax.{Program}
use Rattle.rules.specs.Reading.{most_globals, most_fields}
use Rattle.rules.specs.Form.{is_state, Scope}
use Rattle.rules.specs.Lists.{Cell, slots_of}
use Rattle.rules.specs.Running.{State}
use Rattle.rules.proofs.Fits.{StateFits}
use Rattle.shape.specs.Directory.{offsets_slot}
use Rattle.program.specs.Scopes.{StandsScope}
use Rattle.lists.specs.Listing.{offsets_from}

-- how many numbers a store may have; the slot behind them counts steps, and a state says nothing of it; the last slot
-- holds the index of the packet's next unread byte
abbrev pub most_stored : ℕ
most_stored = most_globals * (1 + most_fields)

abbrev pub counter_slot : ℕ
counter_slot = most_stored

abbrev pub position_slot : ℕ
position_slot = counter_slot + 1

abbrev pub store_slots : ℕ
store_slots = position_slot + 1

pub record MirrorsStore (slots : List ℕ) (cells : List Cell) : Type 0 where
  pub count : length slots ≡ store_slots
  pub most : length (slots_of cells) ≤ most_stored
  pub is : (i : ℕ) → i < length (slots_of cells) → get_or slots i 0 ≡ get_or (slots_of cells) i 0

-- what is behind a frame's locals is free
pub record MirrorsFrame (frame ps ls : List ℕ) : Type 0 where
  pub room : length ps + length ls ≤ length frame
  pub parameter : (i : ℕ) → i < length ps → get_or frame i 0 ≡ get_or ps i 0
  pub local : (i : ℕ) → i < length ls → get_or frame (length ps + i) 0 ≡ get_or ls i 0

-- the packet is the last of the lists: its unread bytes are all numbers from an index on
pub record Unread (nums : List ℕ) (at : ℕ) (packet : List ℕ) : Type 0 where
  pub inside : at ≤ length nums
  pub is : packet ≡ drop at nums

abbrev pub MirrorsPacket : List ℕ → List ℕ → List ℕ → Type 0
MirrorsPacket nums slots packet = Unread nums (get_or slots position_slot 0) packet

-- how many numbers of the store stand before each global, and in all: in slots one after the other
pub record OffsetsOf (P : Program) (slots : List ℕ) (first : ℕ) : Type 0 where
  pub is : (g : ℕ) → g ≤ length P.globals → get_or slots (first + g) 0 ≡ get_or (offsets_from P 0 P.globals) g 0

-- a body's scope and a state that fits it; only a parser's state looks at the packet
pub record Scene (nums directory ends : List ℕ) (scope : coded.Scope) (slots frame : List ℕ) (Γ : Scope) (s : State) : Type 0 where
  pub scopes : StandsScope nums directory ends scope Γ
  pub offset : OffsetsOf Γ.program directory offsets_slot
  pub fits : StateFits Γ s
  pub store : MirrorsStore slots s.store
  pub frames : MirrorsFrame frame s.parameters s.locals
  pub packet : is_state Γ.body ≡ true → MirrorsPacket nums slots s.packet
