-- What scanning a list of numbers answers: what the rules read there (Reading), with the tree forgotten.
use Rattle.std.specs.Prelude.{List, ℕ, drop, Result, Ok, Err}
use Rattle.rules.specs.Reading.{Got, got, bad, Reader, number}
use Rattle.rules.specs.declared.Fault as rules
use Rattle.rules.specs.Answers.{number_of}

-- the cases of the answer: the index after what was read; a fault with its number and its index
pub data Scan : Type 0 where
  Past : ℕ → Scan
  Fault : ℕ → ℕ → Scan

abbrev pub told : Result ℕ rules.Fault → Scan
told (Ok next) = Past next
told (Err f) = Fault (number_of f.reason) f.index

unfoldable pub forget : {A : Type 0} → Got A → Scan
forget (got a left next) = Past next
forget (bad number index) = Fault number index

-- what a reader makes of the numbers from an index on
unfoldable pub scan_of : {A : Type 0} → Reader A → List ℕ → ℕ → Scan
scan_of read nums at = forget (read (drop at nums) at)
