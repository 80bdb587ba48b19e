-- What the passes behind the scan promise one another, whatever program stands there.
use Rattle.std.specs.Prelude.{true, false, ◌≡◌, List, ℕ, ◌*◌, leb, length, drop, Result}
use Rattle.rules.specs.declared.Fault as rules
use Rattle.rules.specs.Syntax.{Program}
use Rattle.rules.specs.Reading.{most_keys, most_tables}
use Rattle.rules.specs.Form.{judge_program}
use Rattle.rules.specs.Ceiling.{most_steps, ceiling_of}
use Rattle.program.specs.Stands.{StandsProgram}
use Rattle.form.specs.Claims.{widths_left}
use Rattle.program.specs.Keys.{WidthsOf}
use Rattle.lists.specs.Listing.{listing, entries_left, offsets_left}
use Rattle.judge.specs.declared.Verdict as coded
use Rattle.judge.specs.Verdicts.{Verdict, told_verdict, after_ceiling, after_form, lists_judged}

-- the ceiling, then entries and store, of a program whose form is fine
pub record AsksBounded (nums directory ends widths : List ℕ) : Type 0 where
  pub program : Program
  pub end : ℕ
  pub stands : StandsProgram nums directory ends program end
  pub known : WidthsOf program widths

pub record Bounded (P : Program) (end : ℕ) (nums entries entries' offsets offsets' : List ℕ) (r : Verdict)
    : Type 0 where
  pub verdict : r ≡ after_ceiling P (drop end nums) end (leb (ceiling_of P) most_steps)
  pub entries_are : entries' ≡ elim (leb (ceiling_of P) most_steps) [
    | true ↦ entries_left end (listing P (drop end nums) end) entries
    | false ↦ entries
  ]
  pub offsets_are : offsets' ≡ elim (leb (ceiling_of P) most_steps) [
    | true ↦ offsets_left P (listing P (drop end nums) end) offsets
    | false ↦ offsets
  ]

pub record JudgesBounded (nums directory ends widths entries entries' offsets offsets' : List ℕ)
    (r : Result coded.Verdict rules.Fault) : Type 0 where
  pub judged : (P : Program) (end : ℕ) → StandsProgram nums directory ends P end → WidthsOf P widths
      → Bounded P end nums entries entries' offsets offsets' (told_verdict r)

-- form, then those; the slots of the widths are all there
pub record AsksProgram (nums directory ends widths : List ℕ) : Type 0 where
  pub program : Program
  pub end : ℕ
  pub stands : StandsProgram nums directory ends program end
  pub slots : length widths ≡ most_keys * most_tables

pub record Judged (P : Program) (end : ℕ) (nums widths widths' entries entries' offsets offsets' : List ℕ) (r : Verdict)
    : Type 0 where
  pub verdict : r ≡ after_form P (drop end nums) end (judge_program P)
  pub widths_are : widths' ≡ widths_left (judge_program P) P widths
  pub entries_are : entries' ≡ elim (lists_judged P) [
    | true ↦ entries_left end (listing P (drop end nums) end) entries
    | false ↦ entries
  ]
  pub offsets_are : offsets' ≡ elim (lists_judged P) [
    | true ↦ offsets_left P (listing P (drop end nums) end) offsets
    | false ↦ offsets
  ]

pub record JudgesProgram (nums directory ends widths widths' entries entries' offsets offsets' : List ℕ)
    (r : Result coded.Verdict rules.Fault) : Type 0 where
  pub judged : (P : Program) (end : ℕ) → StandsProgram nums directory ends P end
      → Judged P end nums widths widths' entries entries' offsets offsets' (told_verdict r)
