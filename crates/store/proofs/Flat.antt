-- Lists by position: a member read, a member changed; what is behind a look.
use mathlib.Core.Bool.{Bool, true, false}
use mathlib.Core.Option.{Option, none, some}
use mathlib.Core.Path.{◌≡◌, refl}
use mathlib.Core.List.{List, [], ◌∷◌}
use Prim.Native.Nat.{ℕ, zero, suc, ◌≤◌, ◌<◌}
use native.Mathlib.Omega.{arith}
use lib.ListN.{length, get_or, get_elem?, set}
use Rattle.rules.specs.Form.{and_look, only_if}
use Rattle.rules.specs.Running.{change}

pub look_at : (xs : List ℕ) (i : ℕ) → i < length xs → get_elem? xs i ≡ some (get_or xs i 0)
look_at [] i h = absurd (omega arith)
look_at (x ∷ xs) zero h = refl
look_at (x ∷ xs) (suc i) h = look_at xs i (omega arith)

pub change-is : {A : Type 0} (f : A → Option A) (xs : List A) (i : ℕ) (x y : A) → get_elem? xs i ≡ some x → f x ≡ some y
    → change f xs i ≡ some (set xs i y)
unfolding change and_look
change-is f [] i x y e q = let z : ◌≡◌ {A = ℕ} 0 1 = cc in absurd (omega arith)
change-is f (w ∷ xs) zero x y e q =
    let same : w ≡ x = cc in
    rw (same, q)
change-is f (w ∷ xs) (suc i) x y e q = rw (change-is f xs i x y e q)

-- what is behind a look
pub record Behind {A B : Type 0} (o : Option A) (k : A → Option B) (b : B) : Type 0 where
  pub found : A
  pub is : o ≡ some found
  pub leads : k found ≡ some b

pub behind : {A B : Type 0} (o : Option A) (k : A → Option B) (b : B) → and_look o k ≡ some b → Behind o k b
unfolding and_look
behind none k b e = let z : ◌≡◌ {A = ℕ} 0 1 = cc in absurd (omega arith)
behind (some a) k b e = record { found = a; is = refl; leads = e }

pub only : {A : Type 0} (b : Bool) (o : Option A) (a : A) → only_if b o ≡ some a → o ≡ some a
unfolding only_if
only true o a e = e
only false o a e = let z : ◌≡◌ {A = ℕ} 0 1 = cc in absurd (omega arith)

-- a case by order
pub data Order (n m : ℕ) : Type 0 where
  under : n < m → Order n m
  beyond : m ≤ n → Order n m

pub order : (n m : ℕ) → Order n m
order zero zero = beyond (omega arith)
order zero (suc m) = under (omega arith)
order (suc n) zero = beyond (omega arith)
order (suc n) (suc m) = up (order n m)
  where
    up : Order n m → Order (suc n) (suc m)
    up (under h) = under (omega arith)
    up (beyond h) = beyond (omega arith)
