-- What the functions below the judge of lists promise one another: each answers what the rules read at an index, with
-- what is read forgotten, for whatever part of a program stands where the function looks.
use Rattle.std.specs.Prelude.{true, false, ◌≡◌, List, [], ◌∷◌, ℕ, suc, ◌+◌, ◌-◌, ◌*◌, ◌≤◌, ◌<◌, eqb, length, get_or, drop, Result, Ok, Err}
use Rattle.rules.specs.declared.Fault as rules
use Rattle.rules.specs.Answers.{number_of}
use Rattle.std.proofs.Math.Option.{Option, none, some}
use Rattle.std.proofs.Math.ListN.{get_elem?}
use Rattle.std.proofs.lemmas.List.Edits.{sets}
use Rattle.rules.specs.Numbers.{most_bytes}
use Rattle.rules.specs.Words.{widest, prefix_fits, mask_fits}
use Rattle.rules.specs.Syntax.{header, KeyKind, exact, lpm, ternary, Global, Parameter, Callable, Key, Table, Program}
use Rattle.rules.specs.Reading.{Reader, ◌>>=◌, pure, looked_up, repeat, most_tables, most_keys, most_actions}
use Rattle.rules.specs.Form.{shape_in}
use Rattle.rules.specs.Lists.{Pattern, exactly, prefixed, masked, Entry, Cell, passing, key_width, action_at, numbered, read_pattern, read_patterns, read_arguments, read_entry, read_entries, read_fields, read_cell, read_cells, read_packet}
use Rattle.shape.specs.Scans.{Scan, Fault}
use Rattle.shape.specs.Scans.{scan_of}
use Rattle.shape.specs.Walks.{Lays}
use Rattle.program.specs.Codes.{key_kind_number}
use Rattle.program.specs.Stands.{Holds, HoldsWithin, StandsWidths, StandsParameters, StandsNumerals, StandsKeys, StandsProgram}
use Rattle.program.specs.Keys.{WidthsOf}
use Rattle.lists.specs.Listing.{read_last, starts_from, offsets_from}

-- the number at an index, or the fault where it is missing: its number and its index
pub record Lacks (nums : List ℕ) (number at n i : ℕ) : Type 0 where
  pub beyond : length nums ≤ at
  pub number_is : n ≡ number
  pub index_is : i ≡ at

abbrev pub NumberAt : List ℕ → ℕ → ℕ → Result ℕ rules.Fault → Type 0
NumberAt nums number at (Ok n) = Holds nums at n
NumberAt nums number at (Err f) = Lacks nums number at (number_of f.reason) f.index

-- what stands behind a pattern's value: nothing; a prefix length; a mask
unfoldable pub read_limit : KeyKind → ℕ → ℕ → Reader Pattern
read_limit exact width v = pure (exactly v)
read_limit lpm width v = passing 10 (prefix_fits width v) >>= λ prefix. pure (prefixed v prefix)
read_limit ternary width v = passing 10 (mask_fits width v) >>= λ mask. pure (masked v mask)

pub record JudgesLimit (nums : List ℕ) (kind width value at : ℕ) (r : Scan) : Type 0 where
  pub judged : (k : KeyKind) → kind ≡ key_kind_number k → r ≡ scan_of (read_limit k width value) nums at

pub record JudgesPattern (nums : List ℕ) (kind width at : ℕ) (r : Scan) : Type 0 where
  pub judged : (P : Program) (k : KeyKind) → kind ≡ key_kind_number k → r ≡ scan_of (read_pattern true P k width) nums at

-- the patterns of keys, whose widths stand from a slot on
unfoldable pub WidthsFrom : Program → List ℕ → ℕ → List Key → Type 0
WidthsFrom P widths slot [] = Unit
WidthsFrom P widths slot (k ∷ ks) =
    (get_or widths slot 0 ≡ key_width P k) × ((get_or widths slot 0 ≤ widest) × WidthsFrom P widths (slot + 1) ks)

pub record Keyed (P : Program) (nums ends widths : List ℕ) (key count slot : ℕ) (ks : List Key) : Type 0 where
  pub stands : StandsKeys nums ends key ks
  pub counted : count ≡ length ks
  pub known : WidthsFrom P widths slot ks

pub record AsksPatterns (nums ends widths : List ℕ) (key count slot : ℕ) : Type 0 where
  pub program : Program
  pub keys : List Key
  pub keyed : Keyed program nums ends widths key count slot keys
  pub numbers : length nums ≤ most_bytes
  pub room : length nums ≤ length ends
  pub slots : slot + count ≤ most_keys * most_tables

pub record JudgesPatterns (nums ends widths : List ℕ) (key count slot at : ℕ) (r : Scan) : Type 0 where
  pub judged : (P : Program) (ks : List Key) → Keyed P nums ends widths key count slot ks
      → r ≡ scan_of (read_patterns true P ks) nums at

-- the arguments for parameters
pub record Typed (nums : List ℕ) (parameter count : ℕ) (ps : List Parameter) : Type 0 where
  pub stands : StandsParameters nums parameter ps
  pub counted : count ≡ length ps

pub record AsksArguments (nums : List ℕ) (parameter count : ℕ) : Type 0 where
  pub parameters : List Parameter
  pub typed : Typed nums parameter count parameters
  pub numbers : length nums ≤ most_bytes

pub record JudgesArguments (nums : List ℕ) (parameter count at : ℕ) (r : Scan) : Type 0 where
  pub judged : (P : Program) (ps : List Parameter) → Typed nums parameter count ps
      → r ≡ scan_of (read_arguments true P ps) nums at

-- the arguments of the callable that a position names, or of none: the position's index is at fault
unfoldable pub arguments_of : Program → List ℕ → ℕ → Option Callable → Scan
arguments_of P nums at none = Fault 10 at
arguments_of P nums at (some c) = scan_of (read_arguments true P c.parameters) nums (at + 1)

pub record AsksProgram (nums directory ends : List ℕ) : Type 0 where
  pub program : Program
  pub end : ℕ
  pub stands : StandsProgram nums directory ends program end

pub record AsksCalled (nums directory ends : List ℕ) (at : ℕ) : Type 0 where
  pub asks : AsksProgram nums directory ends
  pub inside : at < length nums

pub record JudgesCalled (nums directory ends : List ℕ) (f at : ℕ) (r : Scan) : Type 0 where
  pub judged : (P : Program) (end : ℕ) → StandsProgram nums directory ends P end
      → r ≡ arguments_of P nums at (get_elem? P.callables f)

-- an action of a table's list: its position, then its arguments
unfoldable pub read_action : Program → Table → Reader (List ℕ)
read_action P T = looked_up 10 (numbered (action_at P T)) >>= λ action. read_arguments true P action.1.parameters

pub record ListsActions (nums : List ℕ) (actions : ℕ) (T : Table) : Type 0 where
  pub count : HoldsWithin 1 most_actions nums actions (length T.actions)
  pub stand : StandsNumerals nums (actions + 1) T.actions

pub record AsksAction (nums directory ends : List ℕ) (actions : ℕ) : Type 0 where
  pub asks : AsksProgram nums directory ends
  pub table : Table
  pub lists : ListsActions nums actions table

pub record JudgesAction (nums directory ends : List ℕ) (actions at : ℕ) (r : Scan) : Type 0 where
  pub judged : (P : Program) (end : ℕ) (T : Table) → StandsProgram nums directory ends P end
      → ListsActions nums actions T → r ≡ scan_of (read_action P T) nums at

-- an entry behind the number of its table, and an entry
unfoldable pub read_of_table : Program → Table → Reader (List ℕ)
read_of_table P T = read_patterns true P T.keys >>= λ patterns. read_action P T

pub record AsksTable (nums directory ends widths : List ℕ) (t : ℕ) : Type 0 where
  pub program : Program
  pub end : ℕ
  pub stands : StandsProgram nums directory ends program end
  pub known : WidthsOf program widths
  pub inside : t < length program.tables

pub record JudgesOfTable (nums directory ends widths : List ℕ) (t at : ℕ) (r : Scan) : Type 0 where
  pub judged : (P : Program) (end : ℕ) (T : Table) → StandsProgram nums directory ends P end → WidthsOf P widths
      → get_elem? P.tables t ≡ some T → r ≡ scan_of (read_of_table P T) nums at

pub record JudgesEntry (nums directory ends widths : List ℕ) (at : ℕ) (r : Scan) : Type 0 where
  pub judged : (P : Program) (end : ℕ) → StandsProgram nums directory ends P end → WidthsOf P widths
      → r ≡ scan_of (read_entry true P) nums at

-- so many entries, and where each begins, in the slots from one on
unfoldable pub lay_starts : ℕ → ℕ → List Entry → ℕ → List ℕ → List ℕ
lay_starts slot at es next slots = sets slots slot (starts_from at es)

pub record JudgesEntries (nums directory ends widths : List ℕ) (count at slot : ℕ) (found filled : List ℕ) (r : Scan)
    : Type 0 where
  pub judged : (P : Program) (end : ℕ) → StandsProgram nums directory ends P end → WidthsOf P widths
      → Lays (repeat count (read_entry true P)) (lay_starts slot at) nums at found filled r

-- the list of entries, its count first
unfoldable pub lay_entries : ℕ → List Entry → ℕ → List ℕ → List ℕ
lay_entries at es next slots = sets slots 0 (length es ∷ starts_from (suc at) es)

pub record JudgesEntryList (nums directory ends widths : List ℕ) (at : ℕ) (found filled : List ℕ) (r : Scan)
    : Type 0 where
  pub judged : (P : Program) (end : ℕ) → StandsProgram nums directory ends P end → WidthsOf P widths
      → Lays (read_entries true P) (lay_entries at) nums at found filled r

-- the width that a field of a header with a valid mark may fill: 0 is all that fits no bits
unfoldable pub width_under : ℕ → ℕ → ℕ
width_under mark width = elim (eqb mark 1) [ true ↦ width | false ↦ 0 ]

-- the fields of a header with a valid mark, whose widths stand from an index on
pub record Fielded (nums : List ℕ) (width count : ℕ) (ws : List ℕ) : Type 0 where
  pub stands : StandsWidths nums width ws
  pub counted : count ≡ length ws

pub record AsksFields (nums : List ℕ) (width count : ℕ) : Type 0 where
  pub widths : List ℕ
  pub fielded : Fielded nums width count widths
  pub numbers : length nums ≤ most_bytes

pub record JudgesFields (nums : List ℕ) (width mark count at : ℕ) (r : Scan) : Type 0 where
  pub judged : (ws : List ℕ) → Fielded nums width count ws → r ≡ scan_of (read_fields (eqb mark 1) ws) nums at

-- a header of a type, and a global
pub record JudgesHeader (nums directory ends : List ℕ) (h at : ℕ) (r : Scan) : Type 0 where
  pub judged : (P : Program) (end : ℕ) → StandsProgram nums directory ends P end
      → r ≡ scan_of (read_cell (shape_in P (header h))) nums at

pub record JudgesCell (nums directory ends : List ℕ) (g at : ℕ) (r : Scan) : Type 0 where
  pub judged : (P : Program) (end : ℕ) (x : Global) → StandsProgram nums directory ends P end
      → get_elem? P.globals g ≡ some x → r ≡ scan_of (read_cell (shape_in P x.ty)) nums at

-- the globals from a number on, and their offsets in a store that begins at an index
pub record AsksCells (nums directory ends : List ℕ) (g count store at : ℕ) : Type 0 where
  pub program : Program
  pub end : ℕ
  pub stands : StandsProgram nums directory ends program end
  pub counted : g + count ≡ length program.globals
  pub later : store ≤ at

unfoldable pub lay_offsets : Program → ℕ → ℕ → List Cell → ℕ → List ℕ → List ℕ
lay_offsets P g offset cells next slots = sets slots g (offsets_from P offset (drop g P.globals))

pub record JudgesCells (nums directory ends : List ℕ) (g count store at : ℕ) (found filled : List ℕ) (r : Scan)
    : Type 0 where
  pub judged : (P : Program) (end : ℕ) → StandsProgram nums directory ends P end → g + count ≡ length P.globals
      → Lays (read_cells P (drop g P.globals)) (lay_offsets P g (at - store)) nums at found filled r

-- the packet of a program of the version that the first number tells, and what stands behind the store
pub record JudgesPacket (nums : List ℕ) (at : ℕ) (r : Scan) : Type 0 where
  pub judged : (P : Program) → Holds nums 0 P.version → r ≡ scan_of (read_packet P) nums at

pub record JudgesLast (nums : List ℕ) (at : ℕ) (r : Scan) : Type 0 where
  pub judged : (P : Program) → Holds nums 0 P.version → r ≡ scan_of (read_last P) nums at
