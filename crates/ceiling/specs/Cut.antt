-- The ceiling as it is counted: sums are cut just above the most that a judged program may take, so refusal 9 sees no
-- difference.
use Rattle.std.specs.Prelude.{ℕ, suc, min}
use Rattle.rules.specs.Ceiling.{most_steps}

unfoldable pub cut : ℕ → ℕ
cut n = min n (suc most_steps)
