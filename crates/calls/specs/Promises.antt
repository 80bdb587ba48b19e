-- What the calls promise: the numbers of the answer, and what they leave in the slots or bytes lent to them.
use Rattle.std.specs.Prelude.{ℕ, List, ◌++◌, ◌≡◌, length, take, replicate}
use Rattle.rules.specs.Answers.{read_says, read_leaves, write_says, write_leaves, run_says, run_leaves_results, run_leaves_working}

-- an answer's numbers in five slots: those that are told, then zeros
unfoldable pub in_five : List ℕ → List ℕ
in_five told = take 5 (told ++ replicate 5 0)

-- reading bytes into slots fills `answer` and leaves the slots as `left`
pub record TellsRead (bytes slots answer left : List ℕ) : Type 0 where
  pub says : answer ≡ in_five (read_says bytes (length slots))
  pub leaves : left ≡ read_leaves bytes slots

-- writing numbers into bytes fills `answer` and leaves the bytes as `left`
pub record TellsWrite (ns bytes answer left : List ℕ) : Type 0 where
  pub says : answer ≡ in_five (write_says ns (length bytes))
  pub leaves : left ≡ write_leaves ns bytes

-- running a bench file fills `answer` and leaves the result slots as `left` and the working slots as `still`
pub record TellsRun (bytes results working answer left still : List ℕ) : Type 0 where
  pub says : answer ≡ in_five (run_says bytes (length results) (length working))
  pub leaves_results : left ≡ run_leaves_results bytes results (length working)
  pub leaves_working : still ≡ run_leaves_working bytes (length results) working
