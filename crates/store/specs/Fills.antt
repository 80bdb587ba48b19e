-- What is asked and promised where slots are filled.
use Rattle.std.specs.Prelude.{◌≡◌, List, ℕ, ◌+◌, ◌≤◌, ◌<◌, length, get_or}
use Rattle.rules.specs.Numbers.{most_bytes}

-- zeros from a slot on, up to another
pub record AsksClear (slots : List ℕ) (from to : ℕ) : Type 0 where
  pub up : from ≤ to
  pub most : to ≤ length slots

pub record Clears (slots slots' : List ℕ) (from to : ℕ) : Type 0 where
  pub same : length slots' ≡ length slots
  pub inside : (k : ℕ) → from ≤ k → k < to → get_or slots' k 0 ≡ 0
  pub before : (k : ℕ) → k < from → get_or slots' k 0 ≡ get_or slots k 0
  pub behind : (k : ℕ) → to ≤ k → get_or slots' k 0 ≡ get_or slots k 0

-- so many numbers from an index on, into the first slots
pub record AsksCopy (nums slots : List ℕ) (from count : ℕ) : Type 0 where
  pub numbers : length nums ≤ most_bytes
  pub inside : (i : ℕ) → i < count → from + i < length nums
  pub room : count ≤ length slots

pub record Copies (nums slots slots' : List ℕ) (from count : ℕ) : Type 0 where
  pub same : length slots' ≡ length slots
  pub copied : (i : ℕ) → i < count → get_or slots' i 0 ≡ get_or nums (from + i) 0
  pub behind : (i : ℕ) → count ≤ i → get_or slots' i 0 ≡ get_or slots i 0
