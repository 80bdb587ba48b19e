-- What is promised of the operations that users call, on one page. Demand 1: every operation answers, whatever it is given:
-- none asks anything, and what it answers and leaves is fixed. Demand 2: the answer is the rules'. Demand 3: an accepted
-- file, lent the slots that it asks for, is run to its end.
use Rattle.std.specs.Prelude.{Result}
use mathlib.Core.List.{List}
use mathlib.Core.Path.{◌≡◌, sym, ◌∙◌}
use Prim.Native.Nat.{ℕ, ◌≤◌}
use lib.ListN.{length}
use Rattle.rules.specs.declared.Refusal.{Refusal}
use Rattle.rules.specs.declared.Acceptance.{Acceptance}
use Rattle.rules.specs.declared.Finished.{Finished}
use Rattle.rules.specs.Lists.{slots_of}
use Rattle.rules.specs.Answers.{of_judge, judge_says, Bench, judged, accepted, working_slots, run_says, of_run}
use Rattle.rules.specs.Lines.{printed}
use Rattle.rules.proofs.Promises as rules
use Rattle.numbers.specs.Promises.{Reads, Writes}
use Rattle.numbers.proofs.Determined as numbers
use Rattle.lines.specs.Promises.{Prints}
use Rattle.lines.proofs.Determined as lines
use Rattle.bench.specs.Runs.{RunsFile}
use Rattle.bench.proofs.Ending.{EndsWell, ends-well}

-- two outcomes that a promise allows are equal
pub read-determined : (bytes slots : List ℕ) (a b : Result ℕ Refusal) (x y : List ℕ) → Reads bytes slots a x
    → Reads bytes slots b y → (a ≡ b) × (x ≡ y)
read-determined = numbers.read-determined

pub write-determined : (ns bytes : List ℕ) (a b : Result ℕ Refusal) (x y : List ℕ) → Writes ns bytes a x
    → Writes ns bytes b y → (a ≡ b) × (x ≡ y)
write-determined = numbers.write-determined

pub judge-determined : (bytes : List ℕ) (a b : Result Acceptance Refusal) → of_judge a ≡ judge_says bytes → of_judge b ≡ judge_says bytes
    → a ≡ b
judge-determined = rules.judge-determined

pub run-determined : (bytes results working : List ℕ) (a b : Result Finished Refusal) (results₁ results₂ working₁ working₂ : List ℕ)
    → RunsFile bytes results results₁ working working₁ a → RunsFile bytes results results₂ working working₂ b
    → (a ≡ b) × ((results₁ ≡ results₂) × (working₁ ≡ working₂))
run-determined bytes results working a b results₁ results₂ working₁ working₂ p q = (
  rules.run-determined bytes (length results) (length working) a b p.says q.says,
  (p.results_are ∙ sym q.results_are, p.working_are ∙ sym q.working_are),
)

pub lines-determined : (file bytes : List ℕ) (a b : Result ℕ Refusal) (x y : List ℕ) → Prints (printed file) bytes a x
    → Prints (printed file) bytes b y → (a ≡ b) × (x ≡ y)
lines-determined file = lines.prints-determined (printed file)

-- the run's answer, and what it leaves in both kinds of slots, are the rules'
pub run-says : (bytes results results' working working' : List ℕ) (r : Result Finished Refusal)
    → RunsFile bytes results results' working working' r → of_run r ≡ run_says bytes (length results) (length working)
run-says bytes results results' working working' r p = p.says

-- an accepted file that is lent the slots that it asks for ends with done or exit, within its ceiling, and leaves a store
-- that fits (`EndsWell` of Ending)
pub accepted-runs : (bytes results results' working working' : List ℕ) (r : Result Finished Refusal) (b : Bench)
    → judged bytes ≡ accepted b → length (slots_of b.store) ≤ length results → working_slots ≤ length working
    → RunsFile bytes results results' working working' r → EndsWell b results results' r
accepted-runs = ends-well
