-- The digits of a number: counted, and put from the last one on.
use mathlib.Core.List.{List, [], ◌∷◌, ◌++◌}
use mathlib.Core.Logic.{⊎_elim}
use mathlib.Core.Path.{◌≡◌, refl, sym, ap, ◌∙◌}
use Prim.Native.Nat.{ℕ, suc, ◌+◌, ◌-◌, ◌/◌, ◌%◌, ◌^◌, ◌<◌, ◌≤◌}
use native.Mathlib.Omega.{arith}
use lib.ListN.{length, set, length-set, length-append}
use lib.Seq.{sets, set_comm}
use mir.Syntax.{w64}
use mir.Val.{Fits}
use Rattle.rules.specs.Lines.{decimal}
use Rattle.rules.proofs.Codec.{below_or_not}
use Rattle.numbers.proofs.Storing.{sets-append}
use Rattle.lines.specs.Parts.{Stored}
use Rattle.lines.proofs.Decimals.{decimal-last, decimal-more, decimal-few}

module _ (n : ℕ) (h : 10 ≤ n) (fits : n < 2 ^ 64) where
  length_more : length (decimal n) ≡ length (decimal (n / 10)) + 1
  length_more =
      ap length (decimal-more n h fits) ∙ length-append (decimal (n / 10)) ((48 + n % 10) ∷ [])

-- of the digits of a number `count` are counted, and the last of these begins `rest`
pub record Counting (number rest count : ℕ) : Type 0 where
  pub fits : rest < 2 ^ 64
  pub leads : count + length (decimal rest) ≡ length (decimal number) + 1

pub counting-start : (number : ℕ) → number < 2 ^ 64 → Counting number number 1
counting-start number h = record { fits = h; leads = omega arith }

module _ (number rest count : ℕ) (g : Counting number rest count) where
  pub counting-fits : Fits w64 (count + 1)
  counting-fits = record { fits = omega (arith, decimal-few number) }

  pub counting_more : 10 ≤ rest → Counting number (rest / 10) (count + 1)
  counting_more h = record { fits = omega arith; leads = omega (arith, length_more rest h g.fits) }

  pub counting-done : rest < 10 → count ≡ length (decimal number)
  counting-done h = omega (arith, ap length (decimal-last rest h))

pub ruleset countings = (counting-start, counting-fits, counting_more, counting-done)

-- the last of some bytes may be put first
set_beyond : (us l : List ℕ) (i j v : ℕ) → i + length us ≤ j → set (sets l i us) j v ≡ sets (set l j v) i us
set_beyond [] l i j v h = refl
set_beyond (u ∷ us) l i j v h =
    set_beyond us (set l i u) (suc i) j v (omega arith)
    ∙ ap (λ (x : List ℕ). sets x (suc i) us) (set_comm l i j u v (λ e. omega arith))

sets_last : (us l : List ℕ) (i j v : ℕ) → j ≡ i + length us → sets l i (us ++ v ∷ []) ≡ sets (set l j v) i us
sets_last us l i j v e =
    sets-append us (v ∷ []) l i ∙ rw (sym e) (set_beyond us l i j v (omega arith))

-- of a number the digits of `rest` are still to be put, the last of them at `at`
pub record Putting (number place : ℕ) (bytes₀ bytes : List ℕ) (at rest : ℕ) : Type 0 where
  pub fits : rest < 2 ^ 64
  pub ends : at + 1 ≡ place + length (decimal rest)
  pub room : at < length bytes
  pub same : length bytes ≡ length bytes₀
  pub leads : sets bytes place (decimal rest) ≡ sets bytes₀ place (decimal number)

decimal-some : (n : ℕ) → n < 2 ^ 64 → 1 ≤ length (decimal n)
decimal-some n h =
    ⊎_elim (λ one. omega (arith, ap length (decimal-last n one))) (λ some. omega (arith, length_more n some h))
    (below_or_not n 10)

module _ (number place : ℕ) (bytes : List ℕ) (count : ℕ) (fits : number < 2 ^ 64)
    (e : count ≡ length (decimal number)) where
  pub putting-some : 1 ≤ place + count
  putting-some = omega (arith, decimal-some number fits)

  pub putting-start : place + length (decimal number) ≤ length bytes →
      Putting number place bytes bytes (place + count - 1) number
  putting-start h =
      record {
        fits = fits;
        ends = omega (arith, decimal-some number fits);
        room = omega (arith, decimal-some number fits);
        same = refl;
        leads = refl;
      }

module _ (number place : ℕ) (bytes₀ bytes : List ℕ) (at rest : ℕ) (p : Putting number place bytes₀ bytes at rest) where
  module _ (h : 10 ≤ rest) where
    pub putting-before : 1 ≤ at
    putting-before = omega (arith, p.ends, length_more rest h p.fits, decimal-some (rest / 10) (omega arith))

    pub putting-more : Putting number place bytes₀ (set bytes at (48 + rest % 10)) (at - 1) (rest / 10)
    putting-more =
        record {
          fits = omega arith;
          ends = omega (arith, p.ends, length_more rest h p.fits, putting-before);
          room = rw length-set (omega (arith, p.room));
          same = length-set bytes at (48 + rest % 10) ∙ p.same;
          leads =
              sym
              (sets_last (decimal (rest / 10)) bytes place at (48 + rest % 10)
              (omega (arith, p.ends, length_more rest h p.fits)))
              ∙ rw (decimal-more rest h p.fits) at p.leads;
        }

  pub putting-done : (count : ℕ) → count ≡ length (decimal number) → rest < 10 →
      Stored (decimal number) place bytes₀ (place + count) (set bytes at (48 + rest))
  putting-done count e h =
      let here : at ≡ place = omega (arith, p.ends, ap length (decimal-last rest h)) in
      record { behind = omega (arith, e); leaves = rw here (rw (decimal-last rest h) at p.leads) }

pub ruleset puttings = (putting-some, putting-start, putting-before, putting-more, putting-done)
