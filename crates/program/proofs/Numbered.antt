-- A number and the kind that is made of it stand for the same: the same body, and the same return.
use mathlib.Core.Path.{◌≡◌, refl}
use Prim.Native.Nat.{ℕ, zero, suc}
use Rattle.program.specs.declared.Kind.{Kind}
use Rattle.program.specs.declared.Kind.TheVariants as kinds
use Rattle.program.specs.Looks.{returns_of}
use Rattle.program.specs.Scopes.{kind_number, kind_numbered, body_numbered}

pub numbered-body : (number returns : ℕ) → body_numbered (kind_number (kind_numbered number)) returns
    ≡ body_numbered number returns
unfolding kind_numbered body_numbered
numbered-body zero returns = refl
numbered-body (suc zero) returns = refl
numbered-body (suc (suc zero)) returns = refl
numbered-body (suc (suc (suc kind))) returns = refl

pub numbered-returns : (number returns : ℕ) → returns_of (kind_number (kind_numbered number)) returns
    ≡ returns_of number returns
unfolding kind_numbered returns_of
numbered-returns zero returns = refl
numbered-returns (suc zero) returns = refl
numbered-returns (suc (suc zero)) returns = refl
numbered-returns (suc (suc (suc kind))) returns = refl

-- the same, of a kind that was made of a number
pub kind-body : (k : Kind) (number returns : ℕ) → k ≡ kind_numbered number
    → body_numbered (kind_number k) returns ≡ body_numbered number returns
kind-body k number returns e = rw e (numbered-body number returns)

pub kind-returns : (k : Kind) (number returns : ℕ) → k ≡ kind_numbered number
    → returns_of (kind_number k) returns ≡ returns_of number returns
kind-returns k number returns e = rw e (numbered-returns number returns)

-- by number
pub numbered-action : (number : ℕ) → number ≡ 0 → kinds.Action ≡ kind_numbered number
unfolding kind_numbered
numbered-action number e = rw e refl

pub numbered-function : (number : ℕ) → number ≡ 1 → kinds.Function ≡ kind_numbered number
unfolding kind_numbered
numbered-function number e = rw e refl

pub numbered-apply : (number : ℕ) → number ≡ 2 → kinds.Apply ≡ kind_numbered number
unfolding kind_numbered
numbered-apply number e = rw e refl

pub numbered-state : (number : ℕ) → (number ≡ 0 → ⊥) → (number ≡ 1 → ⊥) → (number ≡ 2 → ⊥)
    → kinds.State ≡ kind_numbered number
unfolding kind_numbered
numbered-state zero a b c = absurd (a refl)
numbered-state (suc zero) a b c = absurd (b refl)
numbered-state (suc (suc zero)) a b c = absurd (c refl)
numbered-state (suc (suc (suc kind))) a b c = refl

pub ruleset numberings = (numbered-action, numbered-function, numbered-apply, numbered-state)

-- the number of a kind is one of its numbers
pub kind-numbered : (kind : Kind) → kind_numbered (kind_number kind) ≡ kind
unfolding kind_numbered
kind-numbered kinds.Action = refl
kind-numbered kinds.Function = refl
kind-numbered kinds.Apply = refl
kind-numbered kinds.State = refl
