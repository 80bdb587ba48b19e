-- The lists behind a program, and what their judge answers and leaves in the slots lent to it (document 01, refusals
-- 10, 11 and 12; document 02, E2, refusal 16): the entries, the store, the packet, and nothing more, strictly in file
-- order, as the rules read them.
use Rattle.std.specs.Prelude.{true, ◌≡◌, List, [], ◌∷◌, ℕ, suc, ◌+◌, length, drop, Result, Ok, Err}
use Rattle.std.proofs.Math.Option.{Option, none, some}
use Rattle.std.proofs.lemmas.List.Edits.{sets}
use Rattle.rules.specs.Syntax.{Global, Program}
use Rattle.rules.specs.Reading.{Got, got, bad, Reader, ◌>>=◌, pure}
use Rattle.rules.specs.Form.{Shape, a_variable, a_header, shape_in}
use Rattle.rules.specs.Lists.{Pattern, exactly, prefixed, masked, Entry, Cell, read_entries, read_store, read_packet, nothing_left, slots_of}
use Rattle.program.specs.Keys.{WidthsOf}
use Rattle.program.specs.Stands.{StandsProgram}
use Rattle.rules.specs.declared.Fault as rules
use Rattle.rules.specs.Answers.{number_of}
use Rattle.lists.specs.declared.Lists as coded

pub record Lists : Type 0 where
  pub entries : List Entry
  pub cells : List Cell
  pub packet : List ℕ

-- what stands behind the store
unfoldable pub read_last : Program → Reader (List ℕ)
read_last P = read_packet P >>= λ packet. nothing_left >>= λ ended. pure packet

unfoldable pub listing : Program → Reader Lists
listing P = do
  entries ← read_entries true P
  cells ← read_store P
  packet ← read_last P
  pure (record { entries = entries; cells = cells; packet = packet })

-- how many numbers a pattern has, and an entry: its table, its patterns, its action's position, its arguments
unfoldable pub pattern_size : Pattern → ℕ
pattern_size (exactly v) = 1
pattern_size (prefixed v prefix) = 2
pattern_size (masked v mask) = 2

unfoldable pub patterns_size : List Pattern → ℕ
patterns_size [] = 0
patterns_size (p ∷ ps) = pattern_size p + patterns_size ps

unfoldable pub entry_size : Entry → ℕ
entry_size e = 2 + patterns_size e.patterns + length e.arguments

-- where entries begin that stand one after the other from an index on, and the index behind them
unfoldable pub starts_from : ℕ → List Entry → List ℕ
starts_from at [] = []
starts_from at (e ∷ es) = at ∷ starts_from (at + entry_size e) es

unfoldable pub behind_entries : ℕ → List Entry → ℕ
behind_entries at [] = at
behind_entries at (e ∷ es) = behind_entries (at + entry_size e) es

-- how many numbers a global has in the store: a variable one, a header its valid mark and its fields
unfoldable pub shape_size : Option Shape → ℕ
shape_size none = 0
shape_size (some (a_variable t)) = 1
shape_size (some (a_header widths)) = suc (length widths)

-- how many numbers of the store stand before each global, and before the store's end
unfoldable pub offsets_from : Program → ℕ → List Global → List ℕ
offsets_from P offset [] = offset ∷ []
offsets_from P offset (g ∷ gs) = offset ∷ offsets_from P (offset + shape_size (shape_in P g.ty)) gs

-- the cases of the answer: where the store begins and how many numbers it has; a fault with its number and its index
pub data Listed : Type 0 where
  Fine : ℕ → ℕ → Listed
  Fault : ℕ → ℕ → Listed

abbrev pub told_listed : Result coded.Lists rules.Fault → Listed
told_listed (Ok l) = Fine l.store l.length
told_listed (Err f) = Fault (number_of f.reason) f.index

unfoldable pub listed_of : ℕ → Got Lists → Listed
listed_of end (got lists left next) = Fine (behind_entries (suc end) lists.entries) (length (slots_of lists.cells))
listed_of end (bad number index) = Fault number index

-- what is left in the slots lent: the count of the entries and where each begins; the offsets of the globals and the
-- store's length. Slots beyond are as found, and after a fault all are
unfoldable pub entries_left : ℕ → Got Lists → List ℕ → List ℕ
entries_left end (got lists left next) slots =
    sets slots 0 (length lists.entries ∷ starts_from (suc end) lists.entries)
entries_left end (bad number index) slots = slots

unfoldable pub offsets_left : Program → Got Lists → List ℕ → List ℕ
offsets_left P (got lists left next) slots = sets slots 0 (offsets_from P 0 P.globals)
offsets_left P (bad number index) slots = slots

-- some program stands there, and its keys' widths are known
pub record AsksLists (nums directory ends widths : List ℕ) : Type 0 where
  pub program : Program
  pub end : ℕ
  pub stands : StandsProgram nums directory ends program end
  pub known : WidthsOf program widths

-- the answer for a program that ends before an index, and what is left
pub record ListsJudged (P : Program) (end : ℕ) (nums entries entries' offsets offsets' : List ℕ) (r : Listed)
    : Type 0 where
  pub answer : r ≡ listed_of end (listing P (drop end nums) end)
  pub entries_are : entries' ≡ entries_left end (listing P (drop end nums) end) entries
  pub offsets_are : offsets' ≡ offsets_left P (listing P (drop end nums) end) offsets

-- whatever program stands there
pub record JudgesLists (nums directory ends widths entries entries' offsets offsets' : List ℕ)
    (r : Result coded.Lists rules.Fault) : Type 0 where
  pub judged : (P : Program) (end : ℕ) → StandsProgram nums directory ends P end → WidthsOf P widths
      → ListsJudged P end nums entries entries' offsets offsets' (told_listed r)
