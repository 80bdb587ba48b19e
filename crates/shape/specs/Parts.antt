-- The parts of a program: how each scans, and how a list of them does.
use Rattle.std.proofs.Math.Option.{Option}
use Rattle.std.specs.Prelude.{◌≡◌, Result, List, ℕ, zero, suc, ◌-◌}
use Rattle.std.proofs.Math.ListN.{get_elem?}
use Rattle.rules.specs.Syntax.{Ty, Parameter, Key, Numeral, Pair, Expr}
use Rattle.rules.specs.Reading.{most_parameters, most_locals, most_keys, most_actions, most_arguments, most_pairs, deepest}
use Rattle.rules.specs.Reading.{Reader, ◌>>=◌, pure, here, stands_for, list_of, callable_kinds, type_of}
use Rattle.rules.specs.Reading.{read_expr, read_parameter, read_returns, read_numeral, read_key, read_pair}
use Rattle.rules.specs.declared.Fault as rules
use Rattle.shape.specs.Scans.{told, Scan, Past}
use Rattle.shape.specs.Ends.{lay_expr, first_at, lay_all, key_at, lay_key, numeral_at, pair_at}
use Rattle.shape.specs.Leads.{on_scan, value_of, on_value}

-- so many of a kind, and a list of them
unfoldable pub repeat_scan : (ℕ → Scan) → ℕ → ℕ → Scan
repeat_scan one zero at = Past at
repeat_scan one (suc count) at = on_scan (one at) (repeat_scan one count)

unfoldable pub list_scan : (ℕ → Scan) → ℕ → ℕ → List ℕ → ℕ → Scan
list_scan one least most nums at = on_value (value_of least most nums at) (repeat_scan one)

-- what is called for each item tells what a scan finds: so many items, and a list of them
abbrev pub Tells : (ℕ → Result ℕ rules.Fault → Type 0) → (ℕ → Scan) → Type 0
Tells post one = (at : ℕ) (r : Result ℕ rules.Fault) → post at r → told r ≡ one at

pub record Repeats (post : ℕ → Result ℕ rules.Fault → Type 0) (count at : ℕ) (r : Scan) : Type 0 where
  pub scan : (one : ℕ → Scan) → Tells post one → r ≡ repeat_scan one count at

pub record Lists (post : ℕ → Result ℕ rules.Fault → Type 0) (least most : ℕ) (nums : List ℕ) (at : ℕ) (r : Scan) : Type 0
  where
    pub scan : (one : ℕ → Scan) → Tells post one → r ≡ list_scan one least most nums at

-- a callable up to its parameters: its kind and, of a function, its return type
unfoldable pub read_returning : ℕ → Reader (Option Ty)
read_returning version = stands_for (get_elem? (callable_kinds version)) >>= λ kind. read_returns version kind

-- its parameters and locals
unfoldable pub read_frame : ℕ → Reader (List Parameter × List Ty)
read_frame version =
    list_of 0 most_parameters (read_parameter version) >>= λ parameters.
    list_of 0 most_locals (stands_for (type_of version)) >>= λ locals.
    pure (parameters, locals)

-- a table's keys and actions; its default with its arguments
abbrev pub lay_keys : List Key → ℕ → List ℕ → List ℕ
lay_keys = lay_all key_at lay_key

unfoldable pub read_choices : ℕ → Reader (List Key × List Numeral)
read_choices version =
    list_of 1 most_keys (read_key version) >>= λ keys. list_of 1 most_actions (read_numeral version) >>= λ actions.
    pure (keys, actions)

unfoldable pub lay_choices : List Key × List Numeral → ℕ → List ℕ → List ℕ
lay_choices p end slots = lay_keys p.0 (first_at numeral_at p.1 end - 1) slots

unfoldable pub read_default : ℕ → Reader (Numeral × (ℕ × List Numeral))
read_default version =
    read_numeral version >>= λ position. here >>= λ count_at.
    list_of 0 most_arguments (read_numeral version) >>= λ arguments.
    pure (position, (count_at, arguments))

-- a select's expression and pairs
unfoldable pub read_select : ℕ → Reader (Expr × List Pair)
read_select version =
    read_expr version deepest >>= λ e. list_of 0 most_pairs (read_pair version) >>= λ ps. pure (e, ps)

unfoldable pub lay_select : Expr × List Pair → ℕ → List ℕ → List ℕ
lay_select p end slots = lay_expr p.0 (first_at pair_at p.1 end - 1) slots
