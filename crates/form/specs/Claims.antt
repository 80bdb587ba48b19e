-- What the judgement of a whole program promises: the rules' answer, and, where the program is fine, the widths of the
-- keys of its tables in the slots lent.
use Rattle.std.specs.Prelude.{◌≡◌, List, [], ◌∷◌, ℕ, suc, ◌*◌, Result, Ok, Err}
use Rattle.std.proofs.lemmas.List.Edits.{sets}
use Rattle.rules.specs.declared.Fault.{Fault}
use Rattle.rules.specs.Answers.{number_of}
use Rattle.rules.specs.Syntax.{Key, Table, Program}
use Rattle.rules.specs.Reading.{most_keys}
use Rattle.rules.specs.Form.{Res, ok, fault, judge_program}
use Rattle.rules.specs.Lists.{key_width}
use Rattle.program.specs.Stands.{StandsProgram}

-- a program is fine, or has a first fault
abbrev pub Formal : Type 0
Formal = Result (Unit {0}) Fault

-- the answer in the rules' words
unfoldable pub told_form : Formal → Res (Unit {0})
told_form (Ok fine) = ok tt
told_form (Err f) = fault (number_of f.reason) f.index

-- the slots with the widths of each table's keys, from the slots of the table with a number on
unfoldable pub key_widths : Program → List Key → List ℕ
key_widths P [] = []
key_widths P (k ∷ ks) = key_width P k ∷ key_widths P ks

unfoldable pub lay_tables : Program → ℕ → List Table → List ℕ → List ℕ
lay_tables P t [] widths = widths
lay_tables P t (T ∷ Ts) widths = lay_tables P (suc t) Ts (sets widths (most_keys * t) (key_widths P T.keys))

-- what is left in the slots lent: a fault leaves them as found
unfoldable pub widths_left : Res (Unit {0}) → Program → List ℕ → List ℕ
widths_left (ok fine) P widths = lay_tables P 0 P.tables widths
widths_left (fault number index) P widths = widths

-- whatever program stands there
pub record JudgesForm (nums directory ends widths widths' : List ℕ) (r : Formal) : Type 0 where
  pub judged : (P : Program) (end : ℕ) → StandsProgram nums directory ends P end → told_form r ≡ judge_program P
  pub laid : (P : Program) (end : ℕ) → StandsProgram nums directory ends P end
      → widths' ≡ widths_left (judge_program P) P widths
