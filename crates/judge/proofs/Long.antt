-- The slots that the judge is lent stay as many as they were, whatever it leaves in them.
use mathlib.Core.Bool.{Bool, true, false}
use mathlib.Core.Path.{◌≡◌, refl, ◌∙◌}
use mathlib.Core.List.{List, [], ◌∷◌}
use Prim.Native.Nat.{ℕ, suc, ◌*◌}
use lib.ListN.{length}
use lib.Seq.{length-sets}
use Rattle.rules.specs.Syntax.{Table, Program}
use Rattle.rules.specs.Reading.{Got, got, bad, most_keys, read_program}
use Rattle.rules.specs.Form.{Res, ok, fault, judge_program}
use Rattle.form.specs.Claims.{key_widths, lay_tables, widths_left}
use Rattle.lists.specs.Listing.{Lists, starts_from, offsets_from, listing, entries_left, offsets_left}
use Rattle.std.specs.Prelude.{Result}
use Rattle.rules.specs.declared.Fault as rules
use Rattle.judge.specs.declared.Verdict as coded
use Rattle.judge.specs.Verdicts.{widths_after, lists_judged, entries_after, offsets_after, JudgesNumbers}

-- the widths
tables-long : (P : Program) (t : ℕ) (Ts : List Table) (widths : List ℕ)
    → length (lay_tables P t Ts widths) ≡ length widths
unfolding lay_tables
tables-long P t [] widths = refl
tables-long P t (T ∷ Ts) widths =
    tables-long P (suc t) Ts _ ∙ length-sets widths (most_keys * t) (key_widths P T.keys)

form-long : (r : Res (Unit {0})) (P : Program) (widths : List ℕ) → length (widths_left r P widths) ≡ length widths
unfolding widths_left
form-long (ok fine) P widths = tables-long P 0 P.tables widths
form-long (fault number index) P widths = refl

widths-long : (x : Got Program) (widths : List ℕ) → length (widths_after x widths) ≡ length widths
unfolding widths_after
widths-long (got P left end) widths = form-long (judge_program P) P widths
widths-long (bad number index) widths = refl

-- the entries' and the globals' places
module _ (P : Program) (slots : List ℕ) where
  starts-long : (end : ℕ) (x : Got Lists) → length (entries_left end x slots) ≡ length slots
  unfolding entries_left
  starts-long end (got lists left next) = length-sets slots 0 (length lists.entries ∷ starts_from (suc end) lists.entries)
  starts-long end (bad number index) = refl

  places-long : (x : Got Lists) → length (offsets_left P x slots) ≡ length slots
  unfolding offsets_left
  places-long (got lists left next) = length-sets slots 0 (offsets_from P 0 P.globals)
  places-long (bad number index) = refl

  either-long : (b : Bool) (laid : List ℕ) → length laid ≡ length slots
      → length {A = ℕ} (elim b [ true ↦ laid | false ↦ slots ]) ≡ length slots
  either-long true laid e = e
  either-long false laid e = refl

entries-long : (x : Got Program) (entries : List ℕ) → length (entries_after x entries) ≡ length entries
unfolding entries_after
entries-long (got P left end) entries =
    either-long P entries (lists_judged P) _ (starts-long P entries end (listing P left end))
entries-long (bad number index) entries = refl

offsets-long : (x : Got Program) (offsets : List ℕ) → length (offsets_after x offsets) ≡ length offsets
unfolding offsets_after
offsets-long (got P left end) offsets =
    either-long P offsets (lists_judged P) _ (places-long P offsets (listing P left end))
offsets-long (bad number index) offsets = refl

pub record Long (widths widths' entries entries' offsets offsets' : List ℕ) : Type 0 where
  pub keys : length widths' ≡ length widths
  pub entry : length entries' ≡ length entries
  pub globals : length offsets' ≡ length offsets

pub judged-long : {nums directory directory' ends ends' widths widths' entries entries' offsets offsets' : List ℕ}
    {r : Result coded.Verdict rules.Fault}
    → JudgesNumbers nums directory directory' ends ends' widths widths' entries entries' offsets offsets' r
    → Long widths widths' entries entries' offsets offsets'
judged-long {nums = nums} {widths = widths} {entries = entries} {offsets = offsets} j = record {
  keys = rw j.widths_are (widths-long (read_program nums 0) widths);
  entry = rw j.entries_are (entries-long (read_program nums 0) entries);
  globals = rw j.offsets_are (offsets-long (read_program nums 0) offsets);
}
