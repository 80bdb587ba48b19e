-- Each case of an answer in five slots, and from what the face promises to what the calls do.
use Rattle.std.specs.Prelude.{Result, Ok, Err}
use mathlib.Core.List.{List, [], ◌∷◌}
use mathlib.Core.Path.{◌≡◌, ap, ◌∙◌}
use Prim.Native.Nat.{ℕ}
use Rattle.rules.specs.declared.Refusal.{Refusal}
use Rattle.rules.specs.declared.Acceptance.{Acceptance}
use Rattle.rules.specs.declared.Finished.{Finished}
use Rattle.rules.specs.declared.Signal.TheVariants.{Done, Exit, Reject}
use Rattle.rules.specs.Answers.{number_of, of_refusal, of_read, of_write, of_judge, of_signal, of_run, judge_says}
use Rattle.numbers.specs.Promises.{Reads, Writes}
use Rattle.bench.specs.Runs.{RunsFile}
use Rattle.calls.specs.Promises.{in_five, TellsRead, TellsWrite, TellsRun}

pub refusal-five : (refusal : Refusal) (number : ℕ) → number ≡ number_of refusal.reason →
    0 ∷ number ∷ refusal.place ∷ 0 ∷ 0 ∷ [] ≡ in_five (of_refusal refusal)
unfolding in_five of_refusal
refusal-five refusal number e = rw e

module _ (told : List ℕ) (refusal : Refusal) (five : told ≡ in_five (of_refusal refusal)) where
  pub unread-five : (a : Result ℕ Refusal) → a ≡ Err refusal → told ≡ in_five (of_read a)
  unfolding of_read
  unread-five a e = rw e five

  pub unwritten-five : (a : Result ℕ Refusal) → a ≡ Err refusal → told ≡ in_five (of_write a)
  unfolding of_write
  unwritten-five a e = rw e five

  pub refused-five : (a : Result Acceptance Refusal) → a ≡ Err refusal → told ≡ in_five (of_judge a)
  unfolding of_judge
  refused-five a e = rw e five

  pub unrun-five : (a : Result Finished Refusal) → a ≡ Err refusal → told ≡ in_five (of_run a)
  unfolding of_run
  unrun-five a e = rw e five

pub count-five : (a : Result ℕ Refusal) (count : ℕ) → a ≡ Ok count → 1 ∷ count ∷ 0 ∷ 0 ∷ 0 ∷ [] ≡ in_five (of_read a)
unfolding in_five of_read
count-five a count e = rw e

pub length-five : (a : Result ℕ Refusal) (size : ℕ) → a ≡ Ok size → 1 ∷ size ∷ 0 ∷ 0 ∷ 0 ∷ [] ≡ in_five (of_write a)
unfolding in_five of_write
length-five a size e = rw e

pub accepted-five : (a : Result Acceptance Refusal) (file : Acceptance) → a ≡ Ok file →
    1 ∷ file.ceiling ∷ file.length ∷ 0 ∷ 0 ∷ [] ≡ in_five (of_judge a)
unfolding in_five of_judge
accepted-five a file e = rw e

pub finished-five : (a : Result Finished Refusal) (run : Finished) (told : List ℕ) → a ≡ Ok run →
    told ≡ in_five (of_run (Ok run)) → told ≡ in_five (of_run a)
finished-five a run told e f = rw e f

module _ (run : Finished) where
  pub done-five : run.signal ≡ Done → 1 ∷ run.steps ∷ run.ceiling ∷ run.length ∷ 0 ∷ [] ≡ in_five (of_run (Ok run))
  unfolding in_five of_run of_signal
  done-five e = rw e

  pub exit-five : run.signal ≡ Exit → 2 ∷ run.steps ∷ run.ceiling ∷ run.length ∷ 0 ∷ [] ≡ in_five (of_run (Ok run))
  unfolding in_five of_run of_signal
  exit-five e = rw e

  pub reject-five : (error : ℕ) → run.signal ≡ Reject error →
      4 ∷ error ∷ run.steps ∷ run.ceiling ∷ run.length ∷ [] ≡ in_five (of_run (Ok run))
  unfolding in_five of_run of_signal
  reject-five error e = rw e

pub ruleset cases = (
  refusal-five,
  unread-five,
  unwritten-five,
  refused-five,
  unrun-five,
  count-five,
  length-five,
  accepted-five,
  finished-five,
  done-five,
  exit-five,
  reject-five,
)

module _ (told : List ℕ) where
  pub read-tells : (bytes slots left : List ℕ) (a : Result ℕ Refusal) → Reads bytes slots a left → told ≡ in_five (of_read a) →
      TellsRead bytes slots told left
  read-tells bytes slots left a p e = record { says = e ∙ ap in_five p.says; leaves = p.leaves }

  pub write-tells : (ns bytes left : List ℕ) (a : Result ℕ Refusal) → Writes ns bytes a left → told ≡ in_five (of_write a) →
      TellsWrite ns bytes told left
  write-tells ns bytes left a p e = record { says = e ∙ ap in_five p.says; leaves = p.leaves }

  pub judge-tells : (bytes : List ℕ) (a : Result Acceptance Refusal) → of_judge a ≡ judge_says bytes → told ≡ in_five (of_judge a) →
      told ≡ in_five (judge_says bytes)
  judge-tells bytes a p e = e ∙ ap in_five p

  pub run-tells : (bytes results left working still : List ℕ) (a : Result Finished Refusal) →
      RunsFile bytes results left working still a → told ≡ in_five (of_run a) →
      TellsRun bytes results working told left still
  run-tells bytes results left working still a p e =
      record { says = e ∙ ap in_five p.says; leaves_results = p.results_are; leaves_working = p.working_are }

pub ruleset calls = (read-tells, write-tells, judge-tells, run-tells)
