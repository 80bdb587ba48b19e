-- What the functions that count the states ask and promise one another. The states are worked out from the last one to
-- the first, each from those behind it; a slot that is not filled holds 0, which is what a state that is not later adds.
use Rattle.std.specs.Prelude.{◌≡◌, List, map, ℕ, suc, ◌≤◌, ◌<◌, length, get_or, drop}
use Rattle.rules.specs.Numbers.{most_bytes}
use Rattle.rules.specs.Syntax.{Pair, Transition, Program}
use Rattle.rules.specs.Reading.{most_states}
use Rattle.rules.specs.Ceiling.{most_steps, no_table, largest_of, ceiling_transition, ceiling_from, ceiling_parser}
use Rattle.program.specs.Stands.{StandsPairs, StandsTransition}
use Rattle.ceiling.specs.Cut.{cut}
use Rattle.ceiling.specs.Claims.{callee_below, Kept, TablesKept, Setting, Counted}

-- the ceilings of the states that a transition may lead to, one a slot
pub record Later (later : ℕ → ℕ) (filled : List ℕ) : Type 0 where
  pub slots : length filled ≡ most_states
  pub slot : (m : ℕ) → m < most_states → get_or filled m 0 ≡ cut (later m)
  pub beyond : (m : ℕ) → most_states ≤ m → later m ≡ 0

pub record CountsLed (filled : List ℕ) (number r : ℕ) : Type 0 where
  pub counted : (later : ℕ → ℕ) → Later later filled → r ≡ cut (later number)

-- the pairs of a select
pub record AsksDearest (nums filled : List ℕ) (at count : ℕ) : Type 0 where
  pub later : ℕ → ℕ
  pub fills : Later later filled
  pub pairs : List Pair
  pub stand : StandsPairs nums at pairs
  pub counts : count ≡ length pairs
  pub numbers : length nums ≤ most_bytes

pub record CountsDearest (nums filled : List ℕ) (at count r : ℕ) : Type 0 where
  pub low : r ≤ suc most_steps
  pub counted : (later : ℕ → ℕ) (ps : List Pair) → Later later filled → StandsPairs nums at ps → count ≡ length ps
      → r ≡ cut (largest_of later (map (λ p. p.state) ps))

-- a transition
pub record AsksTransition (nums directory ends filled kept : List ℕ) (reach at : ℕ) : Type 0 where
  pub program : Program
  pub setting : Setting nums directory ends kept reach program
  pub later : ℕ → ℕ
  pub fills : Later later filled
  pub transition : Transition
  pub stands : StandsTransition nums ends at transition

pub record CountsTransition (nums directory ends filled kept kept' : List ℕ) (reach at r : ℕ) : Type 0 where
  pub low : r ≤ suc most_steps
  pub counted : (P : Program) (later : ℕ → ℕ) (t : Transition) → Setting nums directory ends kept reach P
      → Later later filled → StandsTransition nums ends at t
      → Counted P (ceiling_transition (callee_below P reach) later t) r kept'

-- the states from number n on
abbrev pub later_from : Program → ℕ → ℕ → ℕ → ℕ
later_from P reach n = ceiling_from (callee_below P reach) n (drop n P.states)

-- a state
pub record AsksState (nums directory ends tables filled kept : List ℕ) (reach s : ℕ) : Type 0 where
  pub program : Program
  pub setting : Setting nums directory ends kept reach program
  pub tabled : TablesKept program reach tables no_table
  pub fills : Later (later_from program reach (suc s)) filled
  pub inside : s < length program.states

pub record CountsState (nums directory ends tables filled kept kept' : List ℕ) (reach s r : ℕ) : Type 0 where
  pub low : r ≤ suc most_steps
  pub counted : (P : Program) → Setting nums directory ends kept reach P → TablesKept P reach tables no_table
      → Later (later_from P reach (suc s)) filled → s < length P.states
      → Counted P (later_from P reach s s) r kept'

-- the states below a number, where those from it on are worked out
pub record AsksStates (nums directory ends tables kept filled : List ℕ) (reach s : ℕ) : Type 0 where
  pub program : Program
  pub setting : Setting nums directory ends kept reach program
  pub tabled : TablesKept program reach tables no_table
  pub fills : Later (later_from program reach s) filled
  pub few : s ≤ length program.states

pub record Worked (P : Program) (reach : ℕ) (filled kept : List ℕ) : Type 0 where
  pub fills : Later (later_from P reach 0) filled
  pub keeps : Kept P kept

pub record CountsStates (nums directory ends tables kept kept' filled filled' : List ℕ) (reach s : ℕ) : Type 0 where
  pub counted : (P : Program) → Setting nums directory ends kept reach P → TablesKept P reach tables no_table
      → Later (later_from P reach s) filled → s ≤ length P.states → Worked P reach filled' kept'

-- the parser
pub record AsksParser (nums directory ends tables kept : List ℕ) (reach : ℕ) : Type 0 where
  pub program : Program
  pub setting : Setting nums directory ends kept reach program
  pub tabled : TablesKept program reach tables no_table

pub record CountsParser (nums directory ends tables kept kept' : List ℕ) (reach r : ℕ) : Type 0 where
  pub low : r ≤ suc most_steps
  pub counted : (P : Program) → Setting nums directory ends kept reach P → TablesKept P reach tables no_table
      → Counted P (ceiling_parser (callee_below P reach) P) r kept'
