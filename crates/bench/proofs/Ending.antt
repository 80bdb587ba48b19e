-- How the run of an accepted file ends that is lent the slots that it asks for.
use Rattle.std.specs.Prelude.{Result}
use mathlib.Core.Bool.{true}
use mathlib.Core.Path.{◌≡◌, refl, ◌∙◌}
use mathlib.Core.List.{List, [], ◌∷◌, ◌++◌}
use Prim.Native.Nat.{ℕ, ◌≤◌}
use lib.Dec.{leb}
use lib.ListN.{length}
use borrow.Author.Tests.{le-leb}
use Rattle.rules.specs.declared.Signal.{Signal}
use Rattle.rules.specs.declared.Refusal.{Refusal}
use Rattle.rules.specs.declared.Finished.{Finished}
use Rattle.rules.specs.Ceiling.{ceiling_of}
use Rattle.rules.specs.Lists.{Cell, slots_of}
use Rattle.rules.specs.Running.{Out, full, run_program}
use Rattle.rules.specs.Answers.{Bench, of_signal, of_run, filled, judged, accepted, ended, outcome_of, run_bench, working_slots, run_with, told_with, told_by_run, results_after, run_outcome, run_says, run_leaves_results}
use Rattle.rules.proofs.Fits.{StoreFits}
use Rattle.rules.proofs.Accepted as accepts
use Rattle.rules.proofs.Accepted.{Ends, accepted-ends}
use Rattle.rules.proofs.Room.{accepted-not-full}
use Rattle.bench.specs.Runs.{RunsFile}

-- done, exit or reject as by the rules, steps within the ceiling, and in the result slots a store that fits
pub record EndsWell (b : Bench) (results results' : List ℕ) (r : Result Finished Refusal) : Type 0 where
  pub signal : Signal
  pub steps : ℕ
  pub store : List Cell
  pub outcome : run_bench working_slots b ≡ ended signal steps (ceiling_of b.program) (slots_of store)
  pub answer : of_run r
      ≡ of_signal signal ++ steps ∷ ceiling_of b.program ∷ length (slots_of store) ∷ []
  pub within : steps ≤ ceiling_of b.program
  pub fits : StoreFits b.program store
  pub left : results' ≡ filled (slots_of store) results

module _ (bytes results results' working working' : List ℕ) (r : Result Finished Refusal) (b : Bench)
    (j : judged bytes ≡ accepted b) (room : length (slots_of b.store) ≤ length results)
    (frames : working_slots ≤ length working) (p : RunsFile bytes results results' working working' r) where
  outcome-is : run_outcome bytes (length results) (length working) ≡ run_bench working_slots b
  unfolding run_outcome run_with
  outcome-is =
      let one : leb working_slots (length working) ≡ true = le-leb working_slots (length working) frames in
      let two : leb (length (slots_of b.store)) (length results) ≡ true
      = le-leb (length (slots_of b.store)) (length results) room in
      rw (j, run_with, one, two) refl

  well : (o : Out (List Cell) Signal) → Ends b.program o
      → run_program working_slots b.program b.entries b.store b.packet ≡ o → (o ≡ full → ⊥) → EndsWell b results results' r
  unfolding run_says run_leaves_results run_bench outcome_of told_by_run told_with results_after
  well o (accepts.ends signal store seen q f) e n = record {
    signal = signal;
    steps = length seen;
    store = store;
    outcome = rw e refl;
    answer = p.says ∙ rw (outcome-is, e) refl;
    within = q;
    fits = f;
    left = p.results_are ∙ rw (outcome-is, e) refl;
  }
  well o accepts.fills e n = absurd (n refl)

  pub ends-well : EndsWell b results results' r
  ends-well = well (run_program working_slots b.program b.entries b.store b.packet) (accepted-ends working_slots bytes b j)
      refl (accepted-not-full bytes b j)
