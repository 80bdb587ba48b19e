-- How the directory is filled: the parts of a program are scanned one after the other, and where each begins is laid
-- into the slots. What the functions below the public ones promise one another.
use Rattle.std.proofs.Common.{MutBor}
use Rattle.std.specs.Prelude.{◌≡◌, Result, List, [], ◌∷◌, ℕ, zero, suc, ◌-◌, drop}
use Rattle.std.proofs.lemmas.List.Edits.{sets}
use Rattle.rules.specs.Syntax.{HeaderTy, Global, Callable, Table, ParserState}
use Rattle.rules.specs.Syntax.{Stmt}
use Rattle.rules.specs.Reading.{Got, got, bad, Reader, ◌>>=◌, pure, list_of, deepest, most_headers, most_globals, most_callables, most_tables}
use Rattle.rules.specs.Reading.{read_stmt, read_header, read_global, read_callable, read_table, read_states}
use Rattle.rules.specs.declared.Fault as rules
use Rattle.shape.specs.Scans.{told, scan_of, Scan, Past, Fault}
use Rattle.shape.specs.Leads.{value_of, Value, Of, Unread}
use Rattle.shape.specs.Parts.{repeat_scan, list_scan}
use Rattle.shape.specs.Directory.{stmt_at, declared, defined, stated, body_slot}
use Rattle.shape.specs.Ends.{lay_stmt, first_at, lay_all, callable_at, lay_callable, table_at, lay_table, state_at, lay_state}

-- where so many members begin, one after the other, up to the first that does not read
unfoldable pub starts_after : Scan → (ℕ → List ℕ) → List ℕ
starts_after (Past next) k = k next
starts_after (Fault number index) k = []

unfoldable pub starts : (ℕ → Scan) → ℕ → ℕ → List ℕ
starts one zero at = []
starts one (suc count) at = at ∷ starts_after (one at) (starts one count)

-- so many members are scanned, and their beginnings laid into the slots from one on
pub record Walked (one : ℕ → Scan) (count at slot : ℕ) (found filled : List ℕ) (r : Scan) : Type 0 where
  pub scan : r ≡ repeat_scan one count at
  pub laid : filled ≡ sets found slot (starts one count at)

-- a list from a least to a most is scanned, and its count and beginnings laid
unfoldable pub laid_list : (ℕ → Scan) → ℕ → List ℕ → Value → List ℕ
laid_list one slot found (Of count next) = sets found slot (count ∷ starts one count next)
laid_list one slot found (Unread number index) = found

pub record WalkedList (one : ℕ → Scan) (least most : ℕ) (nums : List ℕ) (at slot : ℕ) (found filled : List ℕ)
    (r : Scan) : Type 0 where
  pub scan : r ≡ list_scan one least most nums at
  pub laid : filled ≡ laid_list one slot found (value_of least most nums at)

-- a reader's scan, with the slots that its tree fills where it reads
unfoldable pub Laid : {A : Type 0} → Got A → (A → ℕ → List ℕ → List ℕ) → List ℕ → List ℕ → Type 0
Laid (got a left next) lay found filled = filled ≡ lay a next found
Laid (bad number index) lay found filled = Unit

pub record Lays {A : Type 0} (read : Reader A) (lay : A → ℕ → List ℕ → List ℕ) (nums : List ℕ) (at : ℕ)
    (found filled : List ℕ) (r : Scan) : Type 0 where
  pub scan : r ≡ scan_of read nums at
  pub laid : Laid (read (drop at nums) at) lay found filled

-- the header types and globals; the callables and tables; the states and the apply body
unfoldable pub read_declared : ℕ → Reader (List HeaderTy × List Global)
read_declared version =
    list_of 0 most_headers (read_header version) >>= λ headers. list_of 0 most_globals (read_global version) >>= λ globals.
    pure (headers, globals)

unfoldable pub lay_declared : List HeaderTy × List Global → ℕ → List ℕ → List ℕ
lay_declared p next slots = declared p.0 p.1 slots

unfoldable pub read_defined : ℕ → Reader (List Callable × List Table)
read_defined version =
    list_of 0 most_callables (read_callable version) >>= λ callables.
    list_of 0 most_tables (read_table version) >>= λ tables.
    pure (callables, tables)

unfoldable pub lay_defined : List Callable × List Table → ℕ → List ℕ → List ℕ
lay_defined p next slots = defined p.0 p.1 slots

unfoldable pub lay_states : List ParserState → ℕ → List ℕ → List ℕ
lay_states states next slots = stated states slots

unfoldable pub lay_body : Stmt → ℕ → List ℕ → List ℕ
lay_body body end slots = sets slots body_slot (stmt_at body ∷ end ∷ [])

unfoldable pub read_blocks : ℕ → Reader (List ParserState × Stmt)
read_blocks version = read_states version >>= λ states. read_stmt version deepest >>= λ body. pure (states, body)

unfoldable pub lay_blocks : List ParserState × Stmt → ℕ → List ℕ → List ℕ
lay_blocks p end slots = lay_body p.1 end (lay_states p.0 (stmt_at p.1) slots)

-- header types and globals lay nothing into the ends
unfoldable pub no_ends : {A : Type 0} → A → ℕ → List ℕ → List ℕ
no_ends a end slots = slots

-- the slots that a reader's tree fills where it reads
unfoldable pub laid_got : {A : Type 0} → Got A → (A → ℕ → List ℕ → List ℕ) → List ℕ → List ℕ
laid_got (got a left next) lay slots = lay a next slots
laid_got (bad number index) lay slots = slots

unfoldable pub laid_by : {A : Type 0} → Reader A → (A → ℕ → List ℕ → List ℕ) → List ℕ → ℕ → List ℕ → List ℕ
laid_by read lay nums at slots = laid_got (read (drop at nums) at) lay slots

-- a part, with the ends that it lays where it reads
unfoldable pub ends_after : Scan → (ℕ → Type 0) → Type 0
ends_after (Past next) k = k next
ends_after (Fault number index) k = Unit

pub record LaysPart (one : ℕ → Scan) (lay : ℕ → List ℕ → List ℕ) (at : ℕ) (found filled : List ℕ) (r : Scan) : Type 0
  where
    pub scan : r ≡ one at
    pub laid : ends_after r (λ next. filled ≡ lay at found)

-- so many parts, one after the other, and a list of them: its count, then the parts
unfoldable pub parts_ends : (ℕ → Scan) → (ℕ → List ℕ → List ℕ) → ℕ → ℕ → List ℕ → List ℕ → Type 0
parts_ends one lay zero at found filled = filled ≡ found
parts_ends one lay (suc count) at found filled =
    ends_after (one at) (λ next. parts_ends one lay count next (lay at found) filled)

unfoldable pub list_ends : (ℕ → Scan) → (ℕ → List ℕ → List ℕ) → Value → List ℕ → List ℕ → Type 0
list_ends one lay (Of count next) found filled = parts_ends one lay count next found filled
list_ends one lay (Unread number index) found filled = Unit

-- what is called for each part tells what a scan finds and lays its ends: so many parts, and a list of them
abbrev pub Called : Type 1
Called = ℕ → MutBor (List ℕ) → Result ℕ rules.Fault → MutBor (List ℕ) → Type 0

pub record TellsPart (post : Called) (one : ℕ → Scan) (lay : ℕ → List ℕ → List ℕ) : Type 0 where
  pub tells : (at : ℕ) (ends ends' : MutBor (List ℕ)) (r : Result ℕ rules.Fault) → post at ends r ends'
      → LaysPart one lay at ends.now ends'.now (told r)

pub record Walks (post : Called) (count at slot : ℕ) (found filled ends ends' : List ℕ) (r : Scan) : Type 0 where
  pub walked : (one : ℕ → Scan) (lay : ℕ → List ℕ → List ℕ) → TellsPart post one lay
      → Walked one count at slot found filled r
  pub laid : (one : ℕ → Scan) (lay : ℕ → List ℕ → List ℕ) → TellsPart post one lay
      → parts_ends one lay count at ends ends'

pub record WalksList (post : Called) (least most : ℕ) (nums : List ℕ) (at slot : ℕ)
    (found filled ends ends' : List ℕ) (r : Scan) : Type 0 where
  pub walked : (one : ℕ → Scan) (lay : ℕ → List ℕ → List ℕ) → TellsPart post one lay
      → WalkedList one least most nums at slot found filled r
  pub laid : (one : ℕ → Scan) (lay : ℕ → List ℕ → List ℕ) → TellsPart post one lay
      → list_ends one lay (value_of least most nums at) ends ends'

-- the callables, which end at the count of the tables, and the tables
unfoldable pub ends_defined : List Callable × List Table → ℕ → List ℕ → List ℕ
ends_defined p end slots =
    lay_all table_at lay_table p.1 end
    (lay_all callable_at lay_callable p.0 (first_at table_at p.1 end - 1) slots)

-- the states, which end where the body begins, and the body
unfoldable pub ends_blocks : List ParserState × Stmt → ℕ → List ℕ → List ℕ
ends_blocks p end slots = lay_stmt p.1 end (lay_all state_at lay_state p.0 (stmt_at p.1) slots)
