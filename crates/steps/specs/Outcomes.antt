-- A run of the rules beside the slots of the runner: that the rules go on from here to an end, and that the slots hold
-- what they come to.
use Rattle.program.specs.declared.Scope as coded
use Rattle.std.specs.Prelude.{◌≡◌, List, ℕ, ◌+◌, ◌≤◌, ◌<◌, length, get_or, set}
use Rattle.rules.specs.Syntax.{Value}
use Rattle.rules.specs.Form.{Scope}
use Rattle.rules.specs.Ceiling.{most_steps}
use Rattle.rules.specs.Running.{State, Ending, onward, returned, returned_value, exited, rejected, Seen, Out, done}
use Rattle.values.specs.Claims.{value_of, IsValue}
use Rattle.store.specs.Mirrors.{counter_slot, store_slots, Scene}
use Rattle.steps.specs.declared.Ended.{Ended}
use Rattle.steps.specs.declared.Ended.TheVariants.{Onward, Returned, ReturnedValue, Exited, Rejected}

-- so many steps are counted, and the rules go on from here to an end within the steps of a judged program
pub data Goes {S A : Type 0} (counted : ℕ) : Out S A → Type 0 where
  goes : {a : A} {s : S} {seen : Seen} → counted + length seen ≤ most_steps → Goes counted (done a s seen)

abbrev pub counter_of : List ℕ → ℕ
counter_of slots = get_or slots counter_slot 0

-- what the rules come to, as it stands in the slots afterwards; and what their answer is in the runner's terms
pub record Ran {A : Type 0} (nums directory ends : List ℕ) (scope : coded.Scope) (slots slots' frame frame' : List ℕ) (Γ : Scope)
    (o : Out State A) (Answers : A → Type 0) : Type 0 where
  pub answer : A
  pub state : State
  pub seen : Seen
  pub is : o ≡ done answer state seen
  pub scene : Scene nums directory ends scope slots' frame' Γ state
  pub counted : counter_of slots' ≡ counter_of slots + length seen
  pub same : length frame' ≡ length frame
  pub answers : Answers answer

-- a value as two numbers
pub record Gave (ty number : ℕ) (v : Value) : Type 0 where
  pub is : v ≡ value_of ty number
  pub is_value : IsValue ty number

-- how a statement ends
pub data Ends : Ended → Ending → Type 0 where
  ends-onward : Ends Onward onward
  ends-returned : Ends Returned returned
  ends-value : {ty number : ℕ} → IsValue ty number → Ends (ReturnedValue ty number) (returned_value (value_of ty number))
  ends-exited : Ends Exited exited
  ends-rejected : {error : ℕ} → Ends (Rejected error) (rejected error)

-- the endings that end the whole run
pub data EndsRun : Ended → Type 0 where
  by-exit : EndsRun Exited
  by-reject : {error : ℕ} → EndsRun (Rejected error)

-- numbers one after the other in slots
pub record Laid (slots : List ℕ) (from : ℕ) (ns : List ℕ) : Type 0 where
  pub is : (i : ℕ) → i < length ns → get_or slots (from + i) 0 ≡ get_or ns i 0

-- a step is counted
pub record AsksCount (slots : List ℕ) : Type 0 where
  pub count : length slots ≡ store_slots
  pub below : counter_of slots < most_steps

abbrev pub ticked : List ℕ → List ℕ
ticked slots = set slots counter_slot (counter_of slots + 1)

pub record Counts (slots slots' : List ℕ) : Type 0 where
  pub is : slots' ≡ ticked slots
