-- Where the lists that are read stand in the numbers: an entry's numbers from its index on, a global's from its offset
-- in the store on, the packet's behind the store. The runner looks at entries, store and packet through this.
use Rattle.std.specs.Prelude.{true, false, ◌≡◌, List, [], ◌∷◌, ℕ, suc, ◌+◌, ◌≤◌, length, get_or, drop}
use Rattle.std.proofs.Math.Option.{some}
use Rattle.std.proofs.Math.ListN.{get_elem?}
use Rattle.rules.specs.Syntax.{KeyKind, exact, lpm, ternary, Key, Callable, Table, Program}
use Rattle.rules.specs.Reading.{got, has_parser}
use Rattle.rules.specs.Lists.{Pattern, exactly, prefixed, masked, Entry, Cell, most_entries, most_packet, action_at, slots_of_cell, slots_of}
use Rattle.program.specs.Stands.{Holds}
use Rattle.lists.specs.Listing.{listing, pattern_size, patterns_size, behind_entries, offsets_from}

-- numbers one after the other
unfoldable pub HoldsAll : List ℕ → ℕ → List ℕ → Type 0
HoldsAll nums at [] = Unit
HoldsAll nums at (n ∷ ns) = Holds nums at n × HoldsAll nums (at + 1) ns

-- what an entry asks of a key of a kind
pub data StandsPattern (nums : List ℕ) : ℕ → KeyKind → Pattern → Type 0 where
  on-exact : {at v : ℕ} → Holds nums at v → StandsPattern nums at exact (exactly v)
  on-lpm : {at v prefix : ℕ} → Holds nums at v → Holds nums (at + 1) prefix
      → StandsPattern nums at lpm (prefixed v prefix)
  on-ternary : {at v mask : ℕ} → Holds nums at v → Holds nums (at + 1) mask
      → StandsPattern nums at ternary (masked v mask)

-- one for each key of a table
pub data StandsPatterns (nums : List ℕ) : ℕ → List Key → List Pattern → Type 0 where
  on_none : {at : ℕ} → StandsPatterns nums at [] []
  on-pattern : {at : ℕ} {k : Key} {ks : List Key} {p : Pattern} {ps : List Pattern}
      → StandsPattern nums at k.kind p → StandsPatterns nums (at + pattern_size p) ks ps
      → StandsPatterns nums at (k ∷ ks) (p ∷ ps)

-- an entry of a table of the program, with an action that the table lists
pub record StandsEntry (P : Program) (nums : List ℕ) (at : ℕ) (e : Entry) : Type 0 where
  pub table : Table
  pub table_is : get_elem? P.tables e.table ≡ some table
  pub action : Callable
  pub action_is : action_at P table e.position ≡ some action
  pub number : Holds nums at e.table
  pub patterns : StandsPatterns nums (at + 1) table.keys e.patterns
  pub position : Holds nums (at + 1 + patterns_size e.patterns) e.position
  pub arguments : HoldsAll nums (at + 2 + patterns_size e.patterns) e.arguments
  pub count : length e.arguments ≡ length action.parameters

-- a global of the store: its number, or its valid mark and its fields
unfoldable pub StandsCell : List ℕ → ℕ → Cell → Type 0
StandsCell nums at c = HoldsAll nums at (slots_of_cell c)

-- the packet of a file that has a parser: its count, and its bytes, which are all that is left
pub record StandsPacket (nums : List ℕ) (at : ℕ) (packet : List ℕ) : Type 0 where
  pub count : Holds nums at (length packet)
  pub few : length packet ≤ most_packet
  pub rest : packet ≡ drop (at + 1) nums

-- the lists behind a program that ends before an index, where they are fine: what is read, and that it stands where the
-- slots tell
pub record ListsStand (P : Program) (end : ℕ) (nums entries offsets : List ℕ) (store size : ℕ) : Type 0 where
  pub entry_list : List Entry
  pub cells : List Cell
  pub packet : List ℕ
  pub left : List ℕ
  pub next : ℕ
  pub read : listing P (drop end nums) end
      ≡ got (record { entries = entry_list; cells = cells; packet = packet }) left next
  pub few : length entry_list ≤ most_entries
  pub count : get_or entries 0 0 ≡ length entry_list
  pub entry : (i : ℕ) (e : Entry) → get_elem? entry_list i ≡ some e → StandsEntry P nums (get_or entries (suc i) 0) e
  pub store_is : store ≡ behind_entries (suc end) entry_list
  pub size_is : size ≡ length (slots_of cells)
  pub stands : HoldsAll nums store (slots_of cells)
  pub offset : (g : ℕ) → g ≤ length P.globals → get_or offsets g 0 ≡ get_or (offsets_from P 0 P.globals) g 0
  pub cell : (g : ℕ) (c : Cell) → get_elem? cells g ≡ some c → StandsCell nums (store + get_or offsets g 0) c
  pub last : get_or offsets (length P.globals) 0 ≡ size
  pub packet_stands : has_parser P.version ≡ true → StandsPacket nums (store + size) packet
  pub no_packet : has_parser P.version ≡ false → packet ≡ []
