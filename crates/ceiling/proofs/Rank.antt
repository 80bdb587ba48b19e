-- What falls in the cycle: the callable number, then the levels left.
use mathlib.Core.Path.{◌≡◌}
use Prim.Native.Nat.{ℕ, ◌+◌, ◌*◌, ◌<◌}
use native.Mathlib.Omega.{arith}

-- more than any measure of the levels
unfoldable pub rank : ℕ → ℕ → ℕ
rank reach k = 200 * reach + k

pub rank-lower : (t reach k other : ℕ) → rank reach k ≡ t → other < k → rank reach other < t
unfolding rank
rank-lower t reach k other e h = omega (arith, e)

pub rank-callee : (t reach k f other : ℕ) → rank reach k ≡ t → f < reach → other < 200 → rank f other < t
unfolding rank
rank-callee t reach k f other e h b = omega (arith, e)
