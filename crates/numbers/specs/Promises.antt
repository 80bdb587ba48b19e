-- What reading and writing promise: the answer, and what they leave in the slots or bytes lent to them.
use Rattle.std.specs.Prelude.{ℕ, List, ◌≡◌, length, Result}
use Rattle.rules.specs.declared.Refusal.{Refusal}
use Rattle.rules.specs.Answers.{of_read, read_says, read_leaves, of_write, write_says, write_leaves}

-- reading bytes into slots answers r and leaves the slots as `left`
pub record Reads (bytes slots : List ℕ) (r : Result ℕ Refusal) (left : List ℕ) : Type 0 where
  pub says : of_read r ≡ read_says bytes (length slots)
  pub leaves : left ≡ read_leaves bytes slots

-- writing numbers into bytes answers r and leaves the bytes as `left`
pub record Writes (ns bytes : List ℕ) (r : Result ℕ Refusal) (left : List ℕ) : Type 0 where
  pub says : of_write r ≡ write_says ns (length bytes)
  pub leaves : left ≡ write_leaves ns bytes
