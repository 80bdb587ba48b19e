-- A fact about the numbers of a file, the directory of its program and the ends, said of the source that has them.
use Rattle.std.specs.Prelude.{List, ℕ}
use Rattle.program.specs.declared.Source.{Source}

abbrev pub In : {A : Type 1} → (List ℕ → List ℕ → List ℕ → A) → Source → A
In P source = P source.nums.now source.directory.now source.ends.now
