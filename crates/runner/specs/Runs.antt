-- A run of the rules beside the slots of the runner: what each construct of a body does by the rules, and what stands in
-- the slots while a body runs.
use Rattle.program.specs.declared.Scope as coded
use Rattle.std.specs.Prelude.{true, false, ◌≡◌, List, ℕ, ◌+◌, ◌*◌, ◌≤◌, length, get_or}
use Rattle.std.proofs.Math.Option.{some}
use Rattle.std.proofs.Math.ListN.{get_elem?}
use Rattle.rules.specs.Words.{widest}
use Rattle.rules.specs.Syntax.{Value, Expr, Args, Stmt, Stmts, Parameter, Callable, Key, Table, Program}
use Rattle.rules.specs.Reading.{most_keys}
use Rattle.rules.specs.Form.{ok, is_apply, Scope, apply_scope, judge_program}
use Rattle.rules.specs.Lists.{Entry, Cell, most_entries, key_width}
use Rattle.rules.specs.Running as rules
use Rattle.rules.specs.Running.{State, Ending, Seen, Out, done, M, nowhere, Calls, run_expr, run_args, run_call, run_stmt, run_stmts, run_body, calls_below, Worked, run_keys, run_action, run_table}
use Rattle.rules.specs.Answers.{working_slots}
use Rattle.rules.proofs.Predicates.{All2}
use Rattle.rules.proofs.Fits.{FitParameter, StoreFits}
use Rattle.shape.specs.Directory.{offsets_slot, entries_slot, widths_slot}
use Rattle.program.specs.Stands.{StandsProgram}
use Rattle.store.specs.Mirrors.{MirrorsStore, OffsetsOf, Scene}
use Rattle.lookup.specs.LookingUp.{StandsEntries}
use Rattle.steps.specs.declared.Ended.{Ended}
use Rattle.steps.specs.Outcomes.{counter_of, Ends, Laid}
use Rattle.steps.specs.Calls.{own_of, most_own}

-- what the callables that a body reaches do; what an apply does in it, which stands in the apply body alone
unfoldable pub calls_of : Scope → Calls
calls_of Γ = calls_below working_slots Γ.program Γ.reach

unfoldable pub applied_in : Scope → ℕ → List Entry → ℕ → M State Ending
applied_in Γ used es = elim (is_apply Γ.body) [
  | true ↦ run_table Γ.program used (calls_of Γ) es
  | false ↦ (λ t. nowhere)
]

-- expressions, arguments, a call whose callable is found, statements
unfoldable pub expr_in : Scope → ℕ → Expr → M State Value
expr_in Γ used e = run_expr Γ used (calls_of Γ) e

unfoldable pub args_in : Scope → ℕ → Args → List Parameter → M State (List ℕ)
args_in Γ used xs ps = run_args Γ used (calls_of Γ) xs ps

unfoldable pub call_in : Scope → ℕ → ℕ → Args → List Parameter → M State Ending
call_in Γ used f xs ps = rules.◌>>=◌ (args_in Γ used xs ps) λ ns. run_call Γ used (calls_of Γ) f xs ps ns

unfoldable pub stmt_in : Scope → ℕ → List Entry → Stmt → M State Ending
stmt_in Γ used es s = run_stmt Γ used (calls_of Γ) (applied_in Γ used es) s

unfoldable pub stmts_in : Scope → ℕ → List Entry → Stmts → M State Ending
stmts_in Γ used es ss = run_stmts Γ used (calls_of Γ) (applied_in Γ used es) ss

-- the body of callable f; in the apply body a table, its keys and its actions
unfoldable pub body_in : Program → ℕ → Callable → ℕ → List ℕ → M (List Cell) (Ending × List ℕ)
body_in P f c used ns = run_body working_slots P f (calls_below working_slots P f) c used ns

unfoldable pub table_in : Program → ℕ → List Entry → ℕ → M State Ending
table_in P used es t = run_table P used (calls_of (apply_scope P)) es t

unfoldable pub keys_in : Program → ℕ → List Key → M State (List Worked)
keys_in P used ks = run_keys P used (calls_of (apply_scope P)) ks

unfoldable pub action_in : Program → ℕ → Table → ℕ → List ℕ → M State Ending
action_in P used T position ns = run_action P used (calls_of (apply_scope P)) T position ns

-- what stays as it is during a run: a judged program's entries, and the widths of its tables' keys
abbrev pub width_slot : ℕ → ℕ → ℕ
width_slot t j = widths_slot + most_keys * t + j

pub record Tables (nums directory : List ℕ) (P : Program) (es : List Entry) : Type 0 where
  pub judged : judge_program P ≡ ok tt
  pub stand : StandsEntries P nums directory (entries_slot + 1) es
  pub count : get_or directory entries_slot 0 ≡ length es
  pub few : length es ≤ most_entries
  pub wide : (t j : ℕ) (T : Table) (k : Key) → get_elem? P.tables t ≡ some T → get_elem? T.keys j ≡ some k
      → (get_or directory (width_slot t j) 0 ≡ key_width P k) × (get_or directory (width_slot t j) 0 ≤ widest)

-- a body in its run: the working slots that the rules do not have in use are those behind its own
pub record Stage (nums directory ends : List ℕ) (scope : coded.Scope) (slots frame : List ℕ) (Γ : Scope) (used : ℕ)
    (es : List Entry) (s : State) : Type 0 where
  pub scene : Scene nums directory ends scope slots frame Γ s
  pub tables : Tables nums directory Γ.program es
  pub few : own_of Γ ≤ most_own
  pub room : used + length frame ≡ working_slots + own_of Γ
  pub apply : is_apply Γ.body ≡ true → Γ ≡ apply_scope Γ.program

-- a call of callable f: its numbers are in the first slots of its frame, and the rest of them is free
pub record Called (nums directory ends slots frame : List ℕ) (f : ℕ) (P : Program)
    (c : Callable) (used : ℕ) (es : List Entry) (ns : List ℕ) (cells : List Cell) : Type 0 where
  pub end : ℕ
  pub stands : StandsProgram nums directory ends P end
  pub offset : OffsetsOf P directory offsets_slot
  pub tables : Tables nums directory P es
  pub is : get_elem? P.callables f ≡ some c
  pub fits : StoreFits P cells
  pub store : MirrorsStore slots cells
  pub given : All2 FitParameter c.parameters ns
  pub laid : Laid frame 0 ns
  pub room : used + length frame ≡ working_slots

-- what its body comes to: the store, and the numbers of its parameters in its first slots
pub record RanBody (slots slots' frame frame' : List ℕ) (P : Program) (c : Callable)
    (o : Out (List Cell) (Ending × List ℕ)) (r : Ended) : Type 0 where
  pub ending : Ending
  pub parameters : List ℕ
  pub cells : List Cell
  pub seen : Seen
  pub is : o ≡ done (ending, parameters) cells seen
  pub ends : Ends r ending
  pub fits : StoreFits P cells
  pub store : MirrorsStore slots' cells
  pub given : All2 FitParameter c.parameters parameters
  pub laid : Laid frame' 0 parameters
  pub counted : counter_of slots' ≡ counter_of slots + length seen
  pub same : length frame' ≡ length frame
