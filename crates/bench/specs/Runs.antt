-- What a run promises of a bench file: the answer, and what is left in the result and the working slots.
use Rattle.std.specs.Prelude.{◌≡◌, List, ℕ, ◌≤◌, length, Result}
use Rattle.rules.specs.declared.Fault.{Fault}
use Rattle.rules.specs.declared.Finished.{Finished}
use Rattle.rules.specs.declared.Refusal.{Refusal}
use Rattle.rules.specs.Numbers.{numbers, stream_of, place_of}
use Rattle.rules.specs.Answers.{of_run, working_slots, run_says, run_leaves_results, run_leaves_working}
use Rattle.judge.proofs.Left.{Leaves}
use Rattle.runner.specs.Prepares.{Prepares}

pub record RunsFile (bytes results results' working working' : List ℕ) (r : Result Finished Refusal) : Type 0 where
  pub says : of_run r ≡ run_says bytes (length results) (length working)
  pub results_are : results' ≡ run_leaves_results bytes results (length working)
  pub working_are : working' ≡ run_leaves_working bytes (length results) working

-- the refusal of a file at one of its numbers, by that number's index
abbrev pub refusal_at : List ℕ → Fault → Refusal
refusal_at bytes fault = record { reason = fault.reason; place = place_of bytes fault.index }

-- a file that the judge accepted, as numbers, and the directory prepared for its run with what the judge left
pub record Passed (bytes nums directory ends : List ℕ) (ceiling store size : ℕ) : Type 0 where
  pub reads : stream_of bytes ≡ numbers nums
  pub parts : List ℕ
  pub offsets : List ℕ
  pub entries : List ℕ
  pub widths : List ℕ
  pub leaves : Leaves nums parts ends widths entries offsets ceiling store size
  pub prepared : Prepares offsets entries widths parts directory

pub record AsksAccepted (nums directory ends : List ℕ) (ceiling store size : ℕ) : Type 0 where
  pub bytes : List ℕ
  pub passed : Passed bytes nums directory ends ceiling store size

pub record RunsAccepted (nums directory ends results results' working working' : List ℕ)
    (ceiling store size : ℕ) (r : Result Finished Refusal) : Type 0 where
  pub runs : (bytes : List ℕ) → Passed bytes nums directory ends ceiling store size
      → RunsFile bytes results results' working working' r

-- and that is lent the slots that it asks for
pub record AsksLent (nums directory ends results working : List ℕ) (ceiling store size : ℕ)
    : Type 0 where
  pub asks : AsksAccepted nums directory ends ceiling store size
  pub frames : working_slots ≤ length working
  pub room : size ≤ length results
