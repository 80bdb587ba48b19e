-- What the marking program puts into its bytes before it writes the first so many of them.
use Rattle.std.specs.Prelude.{◌≡◌, List, ℕ, ◌≤◌, length, take}
use Rattle.rules.specs.Lines.{printed}

-- bytes enough for the lines of every file
abbrev pub most_printed : ℕ
most_printed = 12288

-- the first `count` of them are what is printed of the file
pub record Marks (file : List ℕ) (count : ℕ) (bytes : List ℕ) : Type 0 where
  pub within : count ≤ length bytes
  pub are : take count bytes ≡ printed file
