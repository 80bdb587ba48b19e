-- What the judgement of a state's transition asks and promises, from part to part.
use Rattle.std.specs.Prelude.{◌≡◌, List, ℕ, suc, ◌+◌, ◌≤◌, length, get_or}
use Rattle.rules.specs.Numbers.{most_bytes}
use Rattle.rules.specs.Words.{widest}
use Rattle.rules.specs.Syntax.{Expr, Numeral, Pair, Transition, select, Program}
use Rattle.rules.specs.Reading.{deepest, most_pairs}
use Rattle.rules.specs.Form.{Res, ◌>>=◌, judge_expr, width_at, state_scope, judge_later, judge_pairs, values_fit, judge_transition}
use Rattle.program.specs.Stands.{HoldsWithin, StandsExpr, StandsNumeral, StandsPairs, StandsTransition, StandsProgram}
use Rattle.form.specs.Claims.{Formal, told_form}

-- a state that a transition of state n names
pub record JudgesLater (nums directory : List ℕ) (n at : ℕ) (r : Formal) : Type 0 where
  pub judged : (ends : List ℕ) (P : Program) (end : ℕ) (s : Numeral) → StandsProgram nums directory ends P end
      → StandsNumeral nums at s → told_form r ≡ judge_later P n s

-- pairs one after the other: their states, their values
pub record PairsAt (nums : List ℕ) (at count : ℕ) (ps : List Pair) : Type 0 where
  pub stand : StandsPairs nums at ps
  pub counted : count ≡ length ps

pub record AsksPairs (nums : List ℕ) (at count : ℕ) : Type 0 where
  pub pairs : List Pair
  pub stand : PairsAt nums at count pairs
  pub numbers : length nums ≤ most_bytes

pub record JudgesPairs (nums directory : List ℕ) (n at count : ℕ) (r : Formal) : Type 0 where
  pub judged : (ends : List ℕ) (P : Program) (end : ℕ) (ps : List Pair) → StandsProgram nums directory ends P end
      → PairsAt nums at count ps → told_form r ≡ judge_pairs P n ps

pub record AsksValues (nums : List ℕ) (width at count : ℕ) : Type 0 where
  pub asks : AsksPairs nums at count
  pub most : width ≤ widest

pub record JudgesValues (nums : List ℕ) (width at count : ℕ) (r : Formal) : Type 0 where
  pub judged : (ps : List Pair) → PairsAt nums at count ps → told_form r ≡ values_fit width ps

-- a select: its expression, and at that one's end its pairs
pub record SelectAt (nums directory ends : List ℕ) (at : ℕ) (P : Program) (e : Expr) (ps : List Pair) : Type 0 where
  pub end : ℕ
  pub stands : StandsProgram nums directory ends P end
  pub expr : StandsExpr nums ends deepest (at + 1) e
  pub count : HoldsWithin 0 most_pairs nums (get_or ends (at + 1) 0) (length ps)
  pub pairs : StandsPairs nums (get_or ends (at + 1) 0 + 1) ps

pub record AsksSelect (nums directory ends : List ℕ) (at : ℕ) : Type 0 where
  pub program : Program
  pub expr : Expr
  pub pairs : List Pair
  pub stands : SelectAt nums directory ends at program expr pairs

-- behind its names
unfoldable pub cases_are : Program → ℕ → Expr → List Pair → Res (Unit {0})
cases_are P at e ps = do
  t ← judge_expr (state_scope P) e
  width ← width_at (suc at) t
  values_fit width ps

pub record JudgesCases (nums directory ends : List ℕ) (at : ℕ) (r : Formal) : Type 0 where
  pub judged : (P : Program) (e : Expr) (ps : List Pair) → SelectAt nums directory ends at P e ps
      → told_form r ≡ cases_are P at e ps

pub record JudgesSelect (nums directory ends : List ℕ) (n at : ℕ) (r : Formal) : Type 0 where
  pub judged : (P : Program) (e : Expr) (ps : List Pair) → SelectAt nums directory ends at P e ps
      → told_form r ≡ judge_transition P n (select at e ps)

-- a transition of state n
pub record AsksTransition (nums directory ends : List ℕ) (at : ℕ) : Type 0 where
  pub program : Program
  pub end : ℕ
  pub transition : Transition
  pub stands : StandsProgram nums directory ends program end
  pub transition_stands : StandsTransition nums ends at transition

pub record JudgesTransition (nums directory ends : List ℕ) (n at : ℕ) (r : Formal) : Type 0 where
  pub judged : (P : Program) (end : ℕ) (t : Transition) → StandsProgram nums directory ends P end
      → StandsTransition nums ends at t → told_form r ≡ judge_transition P n t
