-- What is put behind the parts of the directory before a run: where the globals stand in the store, where the entries
-- begin, the widths of the tables' keys.
use Rattle.std.specs.Prelude.{◌≡◌, List, ℕ, suc, ◌+◌, ◌*◌, ◌≤◌, ◌<◌, length, get_or}
use Rattle.rules.specs.Numbers.{most_bytes}
use Rattle.rules.specs.Reading.{most_globals, most_tables, most_keys}
use Rattle.rules.specs.Lists.{most_entries}
use Rattle.shape.specs.Directory.{offsets_slot, entries_slot, widths_slot, slot_count}

-- so many numbers, into slots from one on
pub record AsksLay (numbers directory : List ℕ) (count slot : ℕ) : Type 0 where
  pub few : length numbers ≤ most_bytes
  pub inside : count ≤ length numbers
  pub slots : length directory ≡ slot_count
  pub room : slot + count ≤ slot_count

pub record Lays (numbers directory directory' : List ℕ) (count slot : ℕ) : Type 0 where
  pub same : length directory' ≡ length directory
  pub laid : (i : ℕ) → i < count → get_or directory' (slot + i) 0 ≡ get_or numbers i 0
  pub before : (i : ℕ) → i < slot → get_or directory' i 0 ≡ get_or directory i 0
  pub behind : (i : ℕ) → slot + count ≤ i → i < slot_count → get_or directory' i 0 ≡ get_or directory i 0

-- all of it
pub record AsksPrepare (offsets entries widths directory : List ℕ) : Type 0 where
  pub globals : length offsets ≡ suc most_globals
  pub entry : length entries ≡ suc most_entries
  pub keys : length widths ≡ most_keys * most_tables
  pub slots : length directory ≡ slot_count

pub record Prepares (offsets entries widths directory directory' : List ℕ) : Type 0 where
  pub same : length directory' ≡ length directory
  pub parts : (i : ℕ) → i < offsets_slot → get_or directory' i 0 ≡ get_or directory i 0
  pub offset : (i : ℕ) → i ≤ most_globals → get_or directory' (offsets_slot + i) 0 ≡ get_or offsets i 0
  pub entry : (i : ℕ) → i ≤ most_entries → get_or directory' (entries_slot + i) 0 ≡ get_or entries i 0
  pub width : (i : ℕ) → i < most_keys * most_tables → get_or directory' (widths_slot + i) 0 ≡ get_or widths i 0
