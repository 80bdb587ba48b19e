-- The whole run of an accepted file: what stands before it, and what it leaves.
use Rattle.std.specs.Prelude.{◌≡◌, List, [], ℕ, ◌+◌, length}
use Rattle.rules.specs.declared.Signal.{Signal}
use Rattle.rules.specs.Syntax.{Program}
use Rattle.rules.specs.Lists.{Entry, Cell, slots_of}
use Rattle.rules.specs.Running.{Ending, Seen, Out, done, signal_of, run_program}
use Rattle.rules.specs.Answers.{working_slots}
use Rattle.rules.proofs.Fits.{StoreFits}
use Rattle.shape.specs.Directory.{offsets_slot}
use Rattle.program.specs.Stands.{StandsProgram}
use Rattle.lists.specs.Stands.{HoldsAll}
use Rattle.store.specs.Mirrors.{store_slots, MirrorsStore, Unread, OffsetsOf}
use Rattle.steps.specs.declared.Ended.{Ended}
use Rattle.steps.specs.Outcomes.{Goes, counter_of, Ends}
use Rattle.runner.specs.Runs.{Tables}

-- a judged program with its entries, its first store and its packet, which a program with states has, and working slots
-- behind the store's
pub record Ready (nums directory ends slots frame : List ℕ) (store size : ℕ) (P : Program)
    (es : List Entry) (cells : List Cell) (packet : List ℕ) : Type 0 where
  pub end : ℕ
  pub stands : StandsProgram nums directory ends P end
  pub offset : OffsetsOf P directory offsets_slot
  pub tables : Tables nums directory P es
  pub fits : StoreFits P cells
  pub numbers : HoldsAll nums store (slots_of cells)
  pub sized : size ≡ length (slots_of cells)
  pub count : length slots ≡ store_slots
  pub room : size + length frame ≡ working_slots
  pub unread : (P.states ≡ [] → ⊥) → Unread nums (store + size + 1) packet

abbrev pub program_run : Program → List Entry → List Cell → List ℕ → Out (List Cell) Signal
program_run P es cells packet = run_program working_slots P es cells packet

pub record AsksRun (nums directory ends slots frame : List ℕ) (store size : ℕ) : Type 0 where
  pub program : Program
  pub entry_list : List Entry
  pub cells : List Cell
  pub packet : List ℕ
  pub ready : Ready nums directory ends slots frame store size program entry_list cells packet
  pub going : Goes 0 (program_run program entry_list cells packet)

-- the rules' signal and final store; the steps are counted
pub record RanWhole (slots : List ℕ) (P : Program) (o : Out (List Cell) Signal) (r : Signal) : Type 0 where
  pub cells : List Cell
  pub seen : Seen
  pub is : o ≡ done r cells seen
  pub fits : StoreFits P cells
  pub store : MirrorsStore slots cells
  pub counted : counter_of slots ≡ length seen

pub record RunsWhole (nums directory ends slots slots' frame : List ℕ) (store size : ℕ) (r : Signal)
    : Type 0 where
  pub runs : (P : Program) (es : List Entry) (cells : List Cell) (packet : List ℕ)
      → Ready nums directory ends slots frame store size P es cells packet
      → Goes 0 (program_run P es cells packet) → RanWhole slots' P (program_run P es cells packet) r

-- the signal of an ending
pub record TellsSignal (ended : Ended) (r : Signal) : Type 0 where
  pub is : (ending : Ending) → Ends ended ending → r ≡ signal_of ending
