-- What falls in the run: the callable number, then the level of the construct. Statements are above tables, tables above
-- expressions, and inside each the levels left decide.
use mathlib.Core.Path.{◌≡◌}
use Prim.Native.Nat.{ℕ, ◌+◌, ◌*◌, ◌<◌}
use native.Mathlib.Omega.{arith}

unfoldable pub rank : ℕ → ℕ → ℕ
rank reach level = 5000 * reach + level

pub rank-lower : (t reach level other : ℕ) → rank reach level ≡ t → other < level → rank reach other < t
unfolding rank
rank-lower t reach level other e h = omega (arith, e)

pub rank-callee : (t reach level f other : ℕ) → rank reach level ≡ t → f < reach → other < 5000 → rank f other < t
unfolding rank
rank-callee t reach level f other e h b = omega (arith, e)
