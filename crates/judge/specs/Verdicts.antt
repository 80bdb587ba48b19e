-- What the judge answers for a list of numbers, and what it leaves in the slots lent to it (document 01, "The answers").
-- Slots that no pass reached are as found; a fault of shape leaves zeros in the ends.
use Rattle.std.specs.Prelude.{Bool, true, false, ◌&&◌, ◌≡◌, List, [], ◌∷◌, ℕ, ◌*◌, ◌≤◌, leb, length, Result, Ok, Err}
use Rattle.rules.specs.declared.Fault as rules
use Rattle.rules.specs.Numbers.{most_bytes}
use Rattle.rules.specs.Syntax.{Program}
use Rattle.rules.specs.Reading.{Got, got, bad, most_keys, most_tables, read_program}
use Rattle.rules.specs.Form.{Res, ok, fault, judge_program}
use Rattle.rules.specs.Ceiling.{most_steps, ceiling_of}
use Rattle.rules.specs.Lists.{slots_of}
use Rattle.rules.specs.Running.{is_fine}
use Rattle.rules.specs.Answers.{number_of, Bench, judging}
use Rattle.shape.specs.Directory.{slot_count, directory_left}
use Rattle.shape.specs.Ends.{most_numbers, ends_left}
use Rattle.form.specs.Claims.{widths_left}
use Rattle.lists.specs.Listing.{Listed, Fine, Fault, listing, listed_of, entries_left, offsets_left}
use Rattle.judge.specs.declared.Verdict as coded

-- the cases of the answer. Accepted: the ceiling, where the store begins, and how many numbers it has. Refused: the
-- number of the refusal, and the index of the number at fault, which is the count of numbers where one is missing
pub data Verdict : Type 0 where
  Accepted : ℕ → ℕ → ℕ → Verdict
  Refused : ℕ → ℕ → Verdict

abbrev pub told_verdict : Result coded.Verdict rules.Fault → Verdict
told_verdict (Ok v) = Accepted v.ceiling v.store v.length
told_verdict (Err f) = Refused (number_of f.reason) f.index

-- those cases in the paper's numbers, with an index in the place of a place; and what the rules judge
unfoldable pub of_verdict : Verdict → List ℕ
of_verdict (Accepted ceiling store size) = 1 ∷ ceiling ∷ size ∷ []
of_verdict (Refused number index) = 0 ∷ number ∷ index ∷ []

unfoldable pub told_by : Got Bench → List ℕ
told_by (got bench left at) = 1 ∷ ceiling_of bench.program ∷ length (slots_of bench.store) ∷ []
told_by (bad number index) = 0 ∷ number ∷ index ∷ []

unfoldable pub judging_says : List ℕ → List ℕ
judging_says nums = told_by (judging nums 0)

-- pass by pass: what follows a program of a ceiling; its ceiling; its form; its shape
unfoldable pub after_lists : ℕ → Listed → Verdict
after_lists ceiling (Fine store size) = Accepted ceiling store size
after_lists ceiling (Fault number index) = Refused number index

unfoldable pub after_ceiling : Program → List ℕ → ℕ → Bool → Verdict
after_ceiling P left end true = after_lists (ceiling_of P) (listed_of end (listing P left end))
after_ceiling P left end false = Refused 9 0

unfoldable pub after_form : Program → List ℕ → ℕ → Res (Unit {0}) → Verdict
after_form P left end (ok fine) = after_ceiling P left end (leb (ceiling_of P) most_steps)
after_form P left end (fault number index) = Refused number index

unfoldable pub after_shape : Got Program → Verdict
after_shape (got P left end) = after_form P left end (judge_program P)
after_shape (bad number index) = Refused number index

-- what the slots are left with
unfoldable pub widths_after : Got Program → List ℕ → List ℕ
widths_after (got P left end) widths = widths_left (judge_program P) P widths
widths_after (bad number index) widths = widths

-- entries and store are looked at where form and ceiling are fine
unfoldable pub lists_judged : Program → Bool
lists_judged P = is_fine (judge_program P) && leb (ceiling_of P) most_steps

unfoldable pub entries_after : Got Program → List ℕ → List ℕ
entries_after (got P left end) entries = elim (lists_judged P) [
  | true ↦ entries_left end (listing P left end) entries
  | false ↦ entries
]
entries_after (bad number index) entries = entries

unfoldable pub offsets_after : Got Program → List ℕ → List ℕ
offsets_after (got P left end) offsets = elim (lists_judged P) [
  | true ↦ offsets_left P (listing P left end) offsets
  | false ↦ offsets
]
offsets_after (bad number index) offsets = offsets

-- what the judge asks: a list that a file can have, and that each lent array has its slots, which its type says
pub record Lent (nums directory ends : List ℕ) : Type 0 where
  pub few : length nums ≤ most_bytes
  pub slots : length directory ≡ slot_count
  pub room : length ends ≡ most_numbers

pub record AsksJudge (nums directory ends widths : List ℕ) : Type 0 where
  pub lent : Lent nums directory ends
  pub keys : length widths ≡ most_keys * most_tables

-- what it answers and leaves
pub record JudgesNumbers
    (nums directory directory' ends ends' widths widths' entries entries' offsets offsets' : List ℕ)
    (r : Result coded.Verdict rules.Fault) : Type 0 where
  pub answer : of_verdict (told_verdict r) ≡ judging_says nums
  pub verdict : told_verdict r ≡ after_shape (read_program nums 0)
  pub directory_is : directory' ≡ directory_left (read_program nums 0) directory
  pub ends_are : ends' ≡ ends_left (read_program nums 0) ends
  pub widths_are : widths' ≡ widths_after (read_program nums 0) widths
  pub entries_are : entries' ≡ entries_after (read_program nums 0) entries
  pub offsets_are : offsets' ≡ offsets_after (read_program nums 0) offsets
