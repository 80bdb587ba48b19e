-- The parser: what its states and their transitions do by the rules, and what the functions that run them ask and
-- promise.
use Rattle.program.specs.declared.Scope as coded
use Rattle.std.specs.Prelude.{Bool, true, false, ◌≡◌, List, [], ℕ, suc, ◌+◌, ◌*◌, ◌≤◌, ◌<◌, length, get_or, drop, Option, Some, None}
use Rattle.rules.specs.Numbers.{most_bytes}
use Rattle.rules.specs.Syntax.{Transition, Program}
use Rattle.rules.specs.Reading.{most_pairs}
use Rattle.rules.specs.Form.{apply_scope, state_scope}
use Rattle.rules.specs.Lists.{Entry}
use Rattle.rules.specs.Running.{State, Ending, M, run_transition, run_from, run_parser}
use Rattle.program.specs.Stands.{StandsTransition}
use Rattle.store.specs.Mirrors.{Unread}
use Rattle.steps.specs.declared.Ended.{Ended}
use Rattle.steps.specs.declared.Ended.TheVariants.{Onward}
use Rattle.steps.specs.Outcomes.{Goes, counter_of, Ran, Ends}
use Rattle.runner.specs.Runs.{calls_of, Stage}

-- a state by its number; one behind state n, where that leads; a transition of state n; the parser
unfoldable pub state_in : Program → ℕ → ℕ → M State Ending
state_in P used n = run_from P used (calls_of (state_scope P)) 0 P.states n

unfoldable pub later_in : Program → ℕ → ℕ → ℕ → M State Ending
later_in P used n m = run_from P used (calls_of (state_scope P)) (suc n) (drop (suc n) P.states) m

unfoldable pub transition_in : Program → ℕ → ℕ → Transition → M State Ending
transition_in P used n T = run_transition P used (calls_of (state_scope P)) (later_in P used n) T

unfoldable pub parser_in : Program → ℕ → M State Ending
parser_in P used = run_parser P used (calls_of (state_scope P)) P.states

-- whether what follows runs
pub record TellsOn (ended : Ended) (r : Bool) : Type 0 where
  pub on : r ≡ true → ended ≡ Onward
  pub over : r ≡ false → ended ≡ Onward → ⊥

-- a state
pub record AsksState (nums directory ends : List ℕ) (scope : coded.Scope) (slots frame : List ℕ) (n : ℕ) : Type 0 where
  pub program : Program
  pub used : ℕ
  pub entry_list : List Entry
  pub state : State
  pub stage : Stage nums directory ends scope slots frame (state_scope program) used entry_list state
  pub going : Goes (counter_of slots) (state_in program used n state)

pub record RunsState (nums directory ends : List ℕ) (scope : coded.Scope) (slots slots' frame frame' : List ℕ) (n : ℕ) (r : Ended) : Type 0 where
  pub runs : (P : Program) (used : ℕ) (es : List Entry) (s : State)
      → Stage nums directory ends scope slots frame (state_scope P) used es s
      → Goes (counter_of slots) (state_in P used n s)
      → Ran nums directory ends scope slots slots' frame frame' (state_scope P) (state_in P used n s) (Ends r)

-- a transition; a select
pub record AsksTransition (nums directory ends : List ℕ) (scope : coded.Scope) (slots frame : List ℕ) (at : ℕ) : Type 0 where
  pub program : Program
  pub used : ℕ
  pub entry_list : List Entry
  pub state : State
  pub from : ℕ
  pub transition : Transition
  pub stage : Stage nums directory ends scope slots frame (state_scope program) used entry_list state
  pub stands : StandsTransition nums ends at transition
  pub going : Goes (counter_of slots) (transition_in program used from transition state)

pub record RunsTransition (nums directory ends : List ℕ) (scope : coded.Scope) (slots slots' frame frame' : List ℕ) (at : ℕ) (r : Ended)
    : Type 0 where
  pub runs : (P : Program) (used : ℕ) (es : List Entry) (s : State) (n : ℕ) (T : Transition)
      → Stage nums directory ends scope slots frame (state_scope P) used es s → StandsTransition nums ends at T
      → Goes (counter_of slots) (transition_in P used n T s)
      → Ran nums directory ends scope slots slots' frame frame' (state_scope P) (transition_in P used n T s) (Ends r)

pub record AsksSelect (nums directory ends : List ℕ) (scope : coded.Scope) (slots frame : List ℕ) (at : ℕ) : Type 0 where
  pub asks : AsksTransition nums directory ends scope slots frame at
  pub none : get_or nums at 0 ≡ 0 → ⊥
  pub accept : get_or nums at 0 ≡ 1 → ⊥
  pub reject : get_or nums at 0 ≡ 2 → ⊥
  pub lead : get_or nums at 0 ≡ 3 → ⊥

-- so many pairs of a value and a state: the first whose value is a number, or their count
pub record AsksEqual (nums : List ℕ) (at count : ℕ) : Type 0 where
  pub few : length nums ≤ most_bytes
  pub most : count ≤ most_pairs
  pub inside : (i : ℕ) → i < count → at + 2 * i < length nums

pub record FirstEqual (nums : List ℕ) (at count number r : ℕ) : Type 0 where
  pub most : r ≤ count
  pub before : (i : ℕ) → i < r → number ≡ get_or nums (at + 2 * i) 0 → ⊥
  pub is : r < count → number ≡ get_or nums (at + 2 * r) 0

-- the cases of the answer
pub data TellsEqual (nums : List ℕ) (at count number : ℕ) : Option ℕ → Type 0 where
  equal_at : {i : ℕ} → i < count → FirstEqual nums at count number i → TellsEqual nums at count number (Some i)
  none_equal : FirstEqual nums at count number count → TellsEqual nums at count number None

-- the parser, from where the apply body would run: behind a store of so many numbers stand the packet's count and its
-- bytes
pub record AsksParser (nums directory ends slots frame : List ℕ) (store size : ℕ) : Type 0 where
  pub scope : coded.Scope
  pub program : Program
  pub used : ℕ
  pub entry_list : List Entry
  pub state : State
  pub stage : Stage nums directory ends scope slots frame (apply_scope program) used entry_list state
  pub unread : (program.states ≡ [] → ⊥) → Unread nums (store + size + 1) state.packet
  pub going : Goes (counter_of slots) (parser_in program used state)

pub record RunsParser (nums directory ends slots slots' frame frame' : List ℕ) (store size : ℕ) (r : Ended)
    : Type 0 where
  pub runs : (scope : coded.Scope) (P : Program) (used : ℕ) (es : List Entry) (s : State)
      → Stage nums directory ends scope slots frame (apply_scope P) used es s
      → ((P.states ≡ [] → ⊥) → Unread nums (store + size + 1) s.packet)
      → Goes (counter_of slots) (parser_in P used s)
      → Ran nums directory ends scope slots slots' frame frame' (apply_scope P) (parser_in P used s) (Ends r)
