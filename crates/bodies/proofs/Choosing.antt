-- What an if answers, in the rules' words: `chosen_as` of what its branches answered, whatever type their faults have and
-- whatever number these say.
use mathlib.Core.Bool.{Bool}
use mathlib.Core.Path.{◌≡◌, refl, ap}
use Prim.Native.Nat.{ℕ}
use lib.Dec.{eqb}
use Rattle.std.specs.Prelude.{Result, Ok, Err}
use Rattle.rules.specs.declared.Fault.{Fault}
use Rattle.rules.specs.Answers.{number_of}
use Rattle.rules.specs.Form.{Res, ok, fault, ◌>>=◌}
use Rattle.bodies.specs.declared.Numbered.{Numbered}
use Rattle.bodies.specs.Numbers.{numbered}
use Rattle.bodies.specs.Claims.{Formed, told_stmt}
use Rattle.bodies.specs.Forms.{Forms, ruled, chosen_as, Makes, Chooses}
use Rattle.bodies.proofs.Forming.{chosen-fine, chosen-fault}

-- an answer in the rules' words, by the number and the index that a fault says
unfoldable pub told_by : {E : Type 0} → (E → ℕ) → (E → ℕ) → Result Bool E → Res Bool
told_by number index (Ok returns) = ok returns
told_by number index (Err wrong) = fault (number wrong) (index wrong)

module _ {E : Type 0} (gives : Fault → E → Type 0) (number index : E → ℕ)
    (says : (f : Fault) (wrong : E) → gives f wrong → (number wrong ≡ number_of f.reason) × (index wrong ≡ f.index)) where
  made-told : (is : Res Bool) (r : Result Bool E) → Makes gives is r → told_by number index r ≡ is
  unfolding Makes told_by told_stmt
  made-told is (Ok returns) m = m.judged
  made-told is (Err wrong) m = let s = says m.0 wrong m.2 in rw (s.0, s.1) m.1.judged

  pub chosen-told : (at t : ℕ) (branches r : Result Bool E) → Chooses gives at t branches r
      → told_by number index r ≡ chosen_as at t (told_by number index branches)
  unfolding chosen_as told_by ◌>>=◌
  chosen-told at t (Ok returns) r c = made-told (ruled 7 at (eqb t 0) returns) r (c.own returns refl)
  chosen-told at t (Err wrong) r c = ap (told_by number index) (c.handed wrong refl)

-- of our own faults
made-ours : (is : Res Bool) (r : Formed) → Makes (λ f wrong. wrong ≡ f) is r → Forms r is
unfolding Makes
made-ours is (Ok returns) m = m
made-ours is (Err wrong) m = rw m.2 m.1

pub chosen-forms : (at t : ℕ) (branches r : Formed) → Chooses (λ f wrong. wrong ≡ f) at t branches r
    → Forms r (chosen_as at t (told_stmt branches))
chosen-forms at t (Ok returns) r c =
    chosen-fine at t (Ok returns) returns refl r (made-ours (ruled 7 at (eqb t 0) returns) r (c.own returns refl))
chosen-forms at t (Err wrong) r c = rw (c.handed wrong refl) (chosen-fault at t (Err wrong) wrong refl)

-- of faults of any number
pub chosen-numbered : (at t : ℕ) (branches r : Result Bool Numbered) → Chooses (λ f wrong. wrong ≡ numbered f) at t branches r
    → told_by (λ n. n.number) (λ n. n.index) r ≡ chosen_as at t (told_by (λ n. n.number) (λ n. n.index) branches)
chosen-numbered at t branches r =
    chosen-told (λ f wrong. wrong ≡ numbered f) _ _ (λ f wrong e. (rw e refl, rw e refl)) at t branches r
