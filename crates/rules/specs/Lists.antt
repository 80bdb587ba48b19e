-- Entries, store and packet (document 01, "What is well formed", last paragraph; refusals 10, 11 and 12; document 02,
-- E2; refusal 16): the numbers behind the program, strictly in file order. `strict` is true for the judge; where it is
-- false, entries are only cut out of the numbers, fit or not.
use Rattle.std.specs.Prelude.{Bool, true, false, not, ◌&&◌, ◌||◌, ℕ, List, [], ◌∷◌, ◌++◌, eqb, ltb}
use Rattle.std.proofs.Math.Option.{Option, none, some}
use Rattle.std.proofs.Math.ListN.{get_elem?}
use Rattle.rules.specs.Words.{fits_width, prefix_fits, mask_fits}
use Rattle.rules.specs.Syntax.{Ty, bool, bits, KeyKind, exact, lpm, ternary, Global, Parameter, Callable, Key, Table, Program}
use Rattle.rules.specs.Reading.{got, bad, Reader, ◌>>=◌, pure, looked_up, within, repeat, has_parser}
use Rattle.rules.specs.Form.{Res, ok, fault, and_look, only_if, fits, Shape, a_variable, a_header, shape_in, judge_expr, apply_scope}

-- what an entry asks of a key: a value; a value and a prefix length; a value and a mask
pub data Pattern : Type 0 where
  exactly : ℕ → Pattern
  prefixed : ℕ → ℕ → Pattern
  masked : ℕ → ℕ → Pattern

-- `position` is the action's in the table's list
pub record Entry : Type 0 where
  pub table : ℕ
  pub patterns : List Pattern
  pub position : ℕ
  pub arguments : List ℕ

-- a global in the store: a number; or a header's valid mark and its fields
pub data Cell : Type 0 where
  variable_cell : ℕ → Cell
  header_cell : Bool → List ℕ → Cell

abbrev pub most_entries : ℕ
most_entries = 64

-- the next number, if it passes a test
unfoldable pub passing : ℕ → (ℕ → Bool) → Reader ℕ
passing number test = looked_up number (λ n. only_if (test n) (some n))

-- the width of a key of a judged table
unfoldable pub width_of : Res Ty → ℕ
width_of (ok bool) = 0
width_of (ok (bits width)) = width
width_of (fault number at) = 0

unfoldable pub key_width : Program → Key → ℕ
key_width P k = width_of (judge_expr (apply_scope P) k.expr)

-- the action at a position of a table's list
unfoldable pub action_at : Program → Table → ℕ → Option Callable
action_at P T position = and_look (get_elem? T.actions position) λ a. get_elem? P.callables a.number

-- a number with what it names
unfoldable pub numbered : {A : Type 0} → (ℕ → Option A) → ℕ → Option (ℕ × A)
numbered what n = and_look (what n) λ a. some (n, a)

module _ (strict : Bool) (P : Program) where
  unfoldable pub asked : (ℕ → Bool) → ℕ → Bool
  asked test n = not strict || test n

  unfoldable pub read_pattern : KeyKind → ℕ → Reader Pattern
  read_pattern exact width = passing 10 (asked (fits_width width)) >>= λ v. pure (exactly v)
  read_pattern lpm width = do
    v ← passing 10 (asked (fits_width width))
    prefix ← passing 10 (asked (prefix_fits width v))
    pure (prefixed v prefix)
  read_pattern ternary width = do
    v ← passing 10 (asked (fits_width width))
    mask ← passing 10 (asked (mask_fits width v))
    pure (masked v mask)

  unfoldable pub read_patterns : List Key → Reader (List Pattern)
  read_patterns [] = pure []
  read_patterns (k ∷ ks) = read_pattern k.kind (key_width P k) >>= λ p. read_patterns ks >>= λ ps. pure (p ∷ ps)

  unfoldable pub read_arguments : List Parameter → Reader (List ℕ)
  read_arguments [] = pure []
  read_arguments (p ∷ ps) = passing 10 (asked (fits p.ty)) >>= λ n. read_arguments ps >>= λ ns. pure (n ∷ ns)

  unfoldable pub read_entry : Reader Entry
  read_entry = do
    table ← looked_up 10 (numbered (get_elem? P.tables))
    patterns ← read_patterns table.1.keys
    action ← looked_up 10 (numbered (action_at P table.1))
    arguments ← read_arguments action.1.parameters
    pure (record { table = table.0; patterns = patterns; position = action.0; arguments = arguments })

  unfoldable pub read_entries : Reader (List Entry)
  read_entries = looked_up 10 (within 0 most_entries) >>= λ n. repeat n read_entry

-- the store: an invalid header has zero fields
unfoldable pub read_fields : Bool → List ℕ → Reader (List ℕ)
read_fields valid [] = pure []
read_fields valid (width ∷ widths) = do
  n ← passing 11 (λ n. fits_width width n && (valid || eqb n 0))
  ns ← read_fields valid widths
  pure (n ∷ ns)

unfoldable pub read_shape : Shape → Reader Cell
read_shape (a_variable t) = passing 11 (fits t) >>= λ n. pure (variable_cell n)
read_shape (a_header widths) = do
  mark ← passing 11 (fits bool)
  ns ← read_fields (eqb mark 1) widths
  pure (header_cell (eqb mark 1) ns)

-- no judged program has a global of no shape
unfoldable pub read_cell : Option Shape → Reader Cell
read_cell none left at = bad 11 at
read_cell (some shape) left at = read_shape shape left at

unfoldable pub read_cells : Program → List Global → Reader (List Cell)
read_cells P [] = pure []
read_cells P (g ∷ gs) = read_cell (shape_in P g.ty) >>= λ c. read_cells P gs >>= λ cs. pure (c ∷ cs)

unfoldable pub read_store : Program → Reader (List Cell)
read_store P = read_cells P P.globals

-- the packet's bytes, which a file has that has a parser
abbrev pub most_packet : ℕ
most_packet = 512

unfoldable pub is_byte : ℕ → Bool
is_byte n = ltb n 256

unfoldable pub read_bytes : Reader (List ℕ)
read_bytes = looked_up 16 (within 0 most_packet) >>= λ n. repeat n (passing 16 is_byte)

unfoldable pub read_packet : Program → Reader (List ℕ)
read_packet P = elim (has_parser P.version) [ true ↦ read_bytes | false ↦ pure [] ]

-- 12
unfoldable pub nothing_left : Reader (Unit {0})
nothing_left [] at = got tt [] at
nothing_left (n ∷ left) at = bad 12 at

-- the store in file order, one number a slot
unfoldable pub mark_of : Bool → ℕ
mark_of true = 1
mark_of false = 0

unfoldable pub slots_of_cell : Cell → List ℕ
slots_of_cell (variable_cell n) = n ∷ []
slots_of_cell (header_cell valid ns) = mark_of valid ∷ ns

unfoldable pub slots_of : List Cell → List ℕ
slots_of [] = []
slots_of (c ∷ cs) = slots_of_cell c ++ slots_of cs
