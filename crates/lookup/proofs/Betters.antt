-- The better of what was found and an entry behind it, and what an entry adds to a look-up.
use mathlib.Core.Bool.{Bool, true, false}
use mathlib.Core.Path.{◌≡◌, refl}
use mathlib.Core.List.{List}
use Prim.Native.Nat.{ℕ, ◌≤◌, ◌<◌}
use native.Mathlib.Omega.{arith}
use borrow.Author.Tests.{lt-ltb, le-ltb}
use Rattle.rules.specs.Lists as Lists
use Rattle.rules.specs.Running.{prefix_of, beats, better}
use Rattle.rules.specs.Running as rules
use Rattle.lookup.specs.LookingUp.{BestStands, entry, none, TellsBetter}
use Rattle.std.specs.Prelude.{Option, Some, None}
use Rattle.lookup.specs.declared.Best.{Best}

prefix-kept : {nums : List ℕ} {e : Lists.Entry} {b : Best} → BestStands nums (rules.found e) (Some b)
    → b.prefix ≡ prefix_of e.patterns
prefix-kept (entry p g q) = q

module _ (longest : Bool) (best : Option Best) (action prefix : ℕ) where
  abbrev later : Best
  later = record { action = action; prefix = prefix }

  pub better-first : best ≡ None → TellsBetter longest best action prefix later
  unfolding better
  better-first b = record { told = λ nums f e s u. go (rw b at s) u }
    where
      go : {nums : List ℕ} {f : rules.Found} {e : Lists.Entry} → BestStands nums f None
          → BestStands nums (rules.found e) (Some later) → BestStands nums (better longest f e) (Some later)
      go none u = u

  beats-longer : (e b : Lists.Entry) → longest ≡ true → prefix_of b.patterns < prefix_of e.patterns
      → beats longest e b ≡ true
  unfolding beats
  beats-longer e b l n = rw (l, lt-ltb (prefix_of b.patterns) (prefix_of e.patterns) n) refl

  beats-not : (e b : Lists.Entry) → longest ≡ true → prefix_of e.patterns ≤ prefix_of b.patterns
      → beats longest e b ≡ false
  unfolding beats
  beats-not e b l n = rw (l, le-ltb (prefix_of b.patterns) (prefix_of e.patterns) n) refl

  beats-never : (e b : Lists.Entry) → longest ≡ false → beats longest e b ≡ false
  unfolding beats
  beats-never e b l = rw l refl

  module _ (earlier : Best) (b : best ≡ Some earlier) where
    pub better-longer : longest ≡ true → earlier.prefix < prefix → TellsBetter longest best action prefix later
    unfolding better
    better-longer l n = record { told = λ nums f e s u. go e (rw b at s) u }
      where
        go : {nums : List ℕ} {f : rules.Found} (e : Lists.Entry) → BestStands nums f (Some earlier)
            → BestStands nums (rules.found e) (Some later) → BestStands nums (better longest f e) (Some later)
        go e (entry {e = first} h g q) u =
            rw (better, beats-longer e first l (omega (arith, n, q, prefix-kept u))) u

    pub better-shorter : longest ≡ true → prefix ≤ earlier.prefix → TellsBetter longest best action prefix earlier
    unfolding better
    better-shorter l n = record { told = λ nums f e s u. go e (rw b at s) u }
      where
        go : {nums : List ℕ} {f : rules.Found} (e : Lists.Entry) → BestStands nums f (Some earlier)
            → BestStands nums (rules.found e) (Some later) → BestStands nums (better longest f e) (Some earlier)
        go e (entry {e = first} h g q) u =
            rw (better, beats-not e first l (omega (arith, n, q, prefix-kept u))) (entry h g q)

    pub better-earlier : longest ≡ false → TellsBetter longest best action prefix earlier
    unfolding better
    better-earlier l = record { told = λ nums f e s u. go e (rw b at s) }
      where
        go : {nums : List ℕ} {f : rules.Found} (e : Lists.Entry) → BestStands nums f (Some earlier)
            → BestStands nums (better longest f e) (Some earlier)
        go e (entry {e = first} h g q) = rw (better, beats-never e first l) (entry h g q)

pub ruleset betters = (better-first, better-longer, better-shorter, better-earlier)
