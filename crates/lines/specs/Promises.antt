-- What putting a text into bytes promises: the answer, and what it leaves in the bytes lent to it.
use Rattle.std.specs.Prelude.{ℕ, List, [], ◌∷◌, ◌≡◌, length, Result}
use Rattle.rules.specs.declared.Refusal.{Refusal}
use Rattle.rules.specs.Answers.{with_room, filled, of_write}

-- putting a text into bytes answers r and leaves the bytes as `left`
pub record Prints (text bytes : List ℕ) (r : Result ℕ Refusal) (left : List ℕ) : Type 0 where
  pub says : of_write r ≡ with_room (length text) (length bytes) (1 ∷ length text ∷ [])
  pub leaves : left ≡ filled text bytes
