-- What is asked and promised where a header is filled from the packet: its fields take the next unread bits, highest
-- first.
use Rattle.program.specs.declared.Scope as coded
use Rattle.std.specs.Prelude.{Bool, true, false, ◌≡◌, List, [], ℕ, ◌+◌, ◌*◌, ◌≤◌, ◌<◌, length, get_or, take, drop}
use Rattle.std.proofs.Math.Option.{some}
use Rattle.rules.specs.Numbers.{most_bytes}
use Rattle.rules.specs.Words.{widest}
use Rattle.rules.specs.Reading.{most_fields}
use Rattle.rules.specs.Form.{and_look, bits_in, is_state, Scope}
use Rattle.rules.specs.Running.{State, Ending, onward, rejected, done, shape_for, bits_of_bytes, number_of_bits, fields_from, whole_header, short_packet, extract_into}
use Rattle.store.specs.Mirrors.{counter_slot, store_slots, Scene}

-- the number of so many bits, from a bit of the bytes on
unfoldable pub bits_from : List ℕ → ℕ → List ℕ
bits_from nums from = bits_of_bytes (drop from nums)

pub record AsksBits (nums : List ℕ) (from first width : ℕ) : Type 0 where
  pub few : length nums ≤ most_bytes
  pub wide : width ≤ widest
  pub inside : from * 8 + (first + width) ≤ length nums * 8

pub record ReadsBits (nums : List ℕ) (from first width r : ℕ) : Type 0 where
  pub is : r ≡ number_of_bits 0 (take width (drop first (bits_from nums from)))

-- so many widths that stand one after the other, and the bits that they are in all
unfoldable pub widths_at : List ℕ → ℕ → ℕ → List ℕ
widths_at nums at count = take count (drop at nums)

pub record AsksWidths (nums : List ℕ) (at count : ℕ) : Type 0 where
  pub few : length nums ≤ most_bytes
  pub inside : at + count ≤ length nums
  pub most : count ≤ most_fields
  pub wide : (i : ℕ) → i < count → get_or nums (at + i) 0 ≤ widest

pub record CountsBits (nums : List ℕ) (at count r : ℕ) : Type 0 where
  pub is : r ≡ bits_in (widths_at nums at count)

-- fields of these widths, in slots one after the other
pub record AsksFields (nums slots : List ℕ) (at count from slot : ℕ) : Type 0 where
  pub widths : AsksWidths nums at count
  pub size : length slots ≡ store_slots
  pub room : slot + count ≤ store_slots
  pub inside : from * 8 + bits_in (widths_at nums at count) ≤ length nums * 8

pub record FillsFields (nums slots slots' : List ℕ) (at count from slot : ℕ) : Type 0 where
  pub same : length slots' ≡ length slots
  pub filled : (j : ℕ) → j < count
      → get_or slots' (slot + j) 0 ≡ get_or (fields_from (widths_at nums at count) (bits_from nums from)) j 0
  pub before : (k : ℕ) → k < slot → get_or slots' k 0 ≡ get_or slots k 0
  pub behind : (k : ℕ) → slot + count ≤ k → get_or slots' k 0 ≡ get_or slots k 0

-- a header of whole bytes, in a state: it is filled, or the packet is too short
pub record AsksExtract (nums directory ends slots : List ℕ) (g : ℕ) : Type 0 where
  pub scope : coded.Scope
  pub frame : List ℕ
  pub scope_of : Scope
  pub state : State
  pub widths : List ℕ
  pub scene : Scene nums directory ends scope slots frame scope_of state
  pub parsing : is_state scope_of.body ≡ true
  pub is : and_look (shape_for scope_of g) whole_header ≡ some widths

unfoldable pub extract_ends : Bool → Ending
extract_ends true = onward
extract_ends false = rejected short_packet

pub record Extracted (nums directory ends : List ℕ) (scope : coded.Scope) (slots slots' frame : List ℕ) (g : ℕ) (Γ : Scope) (s : State)
    (widths : List ℕ) (r : Bool) : Type 0 where
  pub state : State
  pub is : extract_into g widths s ≡ done (extract_ends r) state []
  pub scene : Scene nums directory ends scope slots' frame Γ state
  pub counter : get_or slots' counter_slot 0 ≡ get_or slots counter_slot 0

pub record Extracts (nums directory ends slots slots' : List ℕ) (g : ℕ) (r : Bool) : Type 0 where
  pub extracts : (scope : coded.Scope) (frame : List ℕ) (Γ : Scope) (s : State) (widths : List ℕ)
      → Scene nums directory ends scope slots frame Γ s → is_state Γ.body ≡ true
      → and_look (shape_for Γ g) whole_header ≡ some widths
      → Extracted nums directory ends scope slots slots' frame g Γ s widths r
