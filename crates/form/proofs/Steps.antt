-- What an answer says of the rules' judgement: it goes on, or it stops with a fault.
use mathlib.Core.Bool.{Bool, true, false}
use mathlib.Core.Path.{◌≡◌, refl, sym}
use Prim.Native.Nat.{ℕ}
use native.Mathlib.Omega.{arith}
use Rattle.std.specs.Prelude.{Ok, Err}
use Rattle.rules.specs.declared.Reason.{Reason}
use Rattle.rules.specs.declared.Fault.{Fault}
use Rattle.rules.specs.Answers.{number_of}
use Rattle.rules.specs.Form.{Res, ok, fault, ◌>>=◌, need}
use Rattle.bodies.specs.Claims.{refused}
use Rattle.form.specs.Claims.{told_form}
use Rattle.form.specs.Parts.{Says}

pub well-is : (x : Res (Unit {0})) → told_form (Ok tt) ≡ x → x ≡ ok tt
unfolding told_form
well-is x e = sym e

pub ill-is : (x : Res (Unit {0})) (wrong : Fault) → told_form (Err wrong) ≡ x
    → x ≡ fault (number_of wrong.reason) wrong.index
unfolding told_form
ill-is x wrong e = sym e

-- what is known may be forgotten before the next
pub forgotten : {A : Type 0} (x : Res A) (y : Res (Unit {0})) → (x >>= λ _. y) ≡ ((x >>= λ _. ok (tt {0})) >>= λ _. y)
unfolding ◌>>=◌
forgotten (ok a) y = refl
forgotten (fault number index) y = refl

-- a rule that holds, and one that does not
pub rule-holds : (number at : ℕ) (holds : Bool) → holds ≡ true → Says (Ok tt) (need number at holds)
unfolding told_form need
rule-holds number at holds e = record { judged = rw e }

pub rule-not : (reason : Reason) (at : ℕ) (holds : Bool) → holds ≡ false
    → Says (refused reason at) (need (number_of reason) at holds)
unfolding told_form need
rule-not reason at holds e = record { judged = rw e }

pub ruleset ruling = (rule-holds, rule-not)

-- a rule that was asked held, or is the fault
pub held : (number at : ℕ) (b : Bool) → Says (Ok tt) (need number at b) → b ≡ true
unfolding told_form need
held number at true s = refl
held number at false s =
    let e : ok (tt {0}) ≡ fault number at = s.judged in
    let z : ◌≡◌ {A = ℕ} 0 1 = cc in
    absurd (omega arith)

pub record Failed (number at : ℕ) (b : Bool) (wrong : Fault) : Type 0 where
  pub not_so : b ≡ false
  pub told : ◌≡◌ {A = Res (Unit {0})} (fault (number_of wrong.reason) wrong.index) (fault number at)

pub failed : (number at : ℕ) (b : Bool) (wrong : Fault) → Says (Err wrong) (need number at b)
    → Failed number at b wrong
unfolding told_form need
failed number at true wrong s =
    let e : ◌≡◌ {A = Res (Unit {0})} (fault (number_of wrong.reason) wrong.index) (ok tt) = s.judged in
    let z : ◌≡◌ {A = ℕ} 0 1 = cc in
    absurd (omega arith)
failed number at false wrong s = record { not_so = refl; told = s.judged }
