-- The passes one behind the other: what each leaves is what the next asks.
use mathlib.Core.Bool.{true, false}
use mathlib.Core.Path.{◌≡◌, refl, sym, ◌∙◌}
use mathlib.Core.List.{List}
use Prim.Native.Nat.{ℕ, ◌*◌, ◌≤◌, ◌<◌}
use native.Mathlib.Omega.{arith}
use lib.Dec.{leb}
use lib.ListN.{length, drop}
use borrow.Author.Tests.{le-leb, lt-leb}
use Rattle.rules.specs.Syntax.{Program}
use Rattle.rules.specs.Reading.{Got, got, bad, read_program, most_tables, most_keys}
use Rattle.rules.specs.Form.{ok, fault, judge_program}
use Rattle.rules.specs.Ceiling.{most_steps, ceiling_of}
use Rattle.rules.specs.Running.{is_fine}
use Rattle.rules.proofs.Readers.{Kept, keeps-program}
use Rattle.shape.specs.Directory.{directory_left, slot_count}
use Rattle.shape.specs.Ends.{most_numbers, ScansProgram}
use Rattle.shape.specs.Scans.{forget, scan_of}
use Rattle.shape.specs.Scans.{Past, told}
use Rattle.program.specs.Stands.{StandsProgram, SomeProgram}
use Rattle.shape.proofs.Entries.{directory-long}
use Rattle.shape.proofs.Lines.{scan-long}
use Rattle.program.proofs.Standing.{program-stands}
use Rattle.std.specs.Prelude.{Result, Ok, Err}
use Rattle.rules.specs.declared.Fault as rules
use Rattle.rules.specs.declared.Reason.TheVariants as reason
use Rattle.rules.specs.Answers.{number_of}
use Rattle.form.specs.Claims.{told_form, JudgesForm}
use Rattle.form.proofs.Laid.{form-laid}
use Rattle.ceiling.specs.Claims.{TellsCeiling}
use Rattle.ceiling.proofs.Whole.{told-exact, told_over}
use Rattle.lists.specs.declared.Lists as lists
use Rattle.program.specs.Keys.{WidthsOf}
use Rattle.lists.specs.Listing.{told_listed, AsksLists, ListsJudged, JudgesLists}
use Rattle.judge.specs.declared.Verdict as coded
use Rattle.judge.specs.Verdicts.{Refused, told_verdict, after_lists, after_ceiling, after_form, after_shape, widths_after, lists_judged, entries_after, offsets_after, Lent, JudgesNumbers}
use Rattle.judge.specs.Passes.{AsksBounded, Bounded, JudgesBounded, AsksProgram, Judged, JudgesProgram}
use Rattle.judge.proofs.Bridge.{passes-say}

-- the ceiling
module _ (nums directory ends widths : List ℕ) where
  pub bounded-program : AsksBounded nums directory ends widths → SomeProgram nums directory ends
  bounded-program a = record { program = a.program; end = a.end; stands = a.stands }

  pub bounded-lists : AsksBounded nums directory ends widths → AsksLists nums directory ends widths
  bounded-lists a = record { program = a.program; end = a.end; stands = a.stands; known = a.known }

  pub over-ceiling : (entries offsets : List ℕ) (c : ℕ) → TellsCeiling nums directory ends c → most_steps < c
      → JudgesBounded nums directory ends widths entries entries offsets offsets (Err (record { reason = reason.Ceiling; index = 0 }))
  unfolding after_ceiling
  over-ceiling entries offsets c t h = record {
    judged = λ P end s w.
        let over : leb (ceiling_of P) most_steps ≡ false
        = lt-leb (ceiling_of P) most_steps (told_over nums directory ends c P end s t h) in
        record { verdict = rw over; entries_are = rw over; offsets_are = rw over };
  }

  module _ (entries entries' offsets offsets' : List ℕ) (c : ℕ) (t : TellsCeiling nums directory ends c)
      (h : c ≤ most_steps)
      (r : Result lists.Lists rules.Fault) (j : JudgesLists nums directory ends widths entries entries' offsets offsets' r) where
    listed-as : (v : Result coded.Verdict rules.Fault) → told_verdict v ≡ after_lists c (told_listed r)
        → JudgesBounded nums directory ends widths entries entries' offsets offsets' v
    unfolding after_ceiling
    listed-as v e = record {
      judged = λ P end s w.
          let exact : c ≡ ceiling_of P = told-exact nums directory ends c P end s t h in
          let within : leb (ceiling_of P) most_steps ≡ true = le-leb (ceiling_of P) most_steps (rw exact at h) in
          let l : ListsJudged P end nums entries entries' offsets offsets' (told_listed r) = j.judged P end s w in
          record {
            verdict = rw within (e ∙ rw (exact, l.answer));
            entries_are = rw within l.entries_are;
            offsets_are = rw within l.offsets_are;
          };
    }

    pub listed-fine : (l : lists.Lists) → r ≡ Ok l
        → JudgesBounded nums directory ends widths entries entries' offsets offsets'
        (Ok (record { ceiling = c; store = l.store; length = l.length }))
    unfolding after_lists
    listed-fine l e = listed-as (Ok (record { ceiling = c; store = l.store; length = l.length })) (rw e)

    pub listed-fault : (f : rules.Fault) → r ≡ Err f
        → JudgesBounded nums directory ends widths entries entries' offsets offsets' (Err f)
    unfolding after_lists
    listed-fault f e = listed-as (Err f) (rw e)

pub ruleset bounded = (bounded-program, bounded-lists, over-ceiling, listed-fine, listed-fault)

-- form
pub program-asks : (nums directory ends widths : List ℕ) → AsksProgram nums directory ends widths
    → SomeProgram nums directory ends
program-asks nums directory ends widths a = record { program = a.program; end = a.end; stands = a.stands }

pub fine-judged : (P : Program) → judge_program P ≡ ok tt → lists_judged P ≡ leb (ceiling_of P) most_steps
unfolding lists_judged is_fine
fine-judged P e = rw (lists_judged, e)

module _ (nums directory ends widths widths₁ : List ℕ) (formal : Result (Unit {0}) rules.Fault)
    (j : JudgesForm nums directory ends widths widths₁ formal) where
  well-formed : formal ≡ Ok tt → (P : Program) (end : ℕ) → StandsProgram nums directory ends P end
      → judge_program P ≡ ok tt
  unfolding told_form
  well-formed e P end s = sym (j.judged P end s) ∙ rw e

  widths-known : formal ≡ Ok tt → length widths ≡ most_keys * most_tables → (P : Program) (end : ℕ)
      → StandsProgram nums directory ends P end → WidthsOf P widths₁
  widths-known e room P end s = form-laid nums directory ends widths widths₁ (rw e at j) room P end s

  pub well-asks : AsksProgram nums directory ends widths → formal ≡ Ok tt → AsksBounded nums directory ends widths₁
  well-asks a e = record {
    program = a.program;
    end = a.end;
    stands = a.stands;
    known = widths-known e a.slots a.program a.end a.stands;
  }

  pub well-judged : (entries entries' offsets offsets' : List ℕ) (r : Result coded.Verdict rules.Fault) → formal ≡ Ok tt
      → AsksProgram nums directory ends widths → JudgesBounded nums directory ends widths₁ entries entries' offsets offsets' r
      → JudgesProgram nums directory ends widths widths₁ entries entries' offsets offsets' r
  unfolding after_form
  well-judged entries entries' offsets offsets' r e a b = record {
    judged = λ P end s.
        let fine : judge_program P ≡ ok tt = well-formed e P end s in
        let c : Bounded P end nums entries entries' offsets offsets' (told_verdict r)
        = b.judged P end s (widths-known e a.slots P end s) in
        record {
          verdict = rw fine c.verdict;
          widths_are = j.laid P end s;
          entries_are = rw (fine-judged P fine) c.entries_are;
          offsets_are = rw (fine-judged P fine) c.offsets_are;
        };
  }

  pub ill-judged : (entries offsets : List ℕ) (f : rules.Fault) → formal ≡ Err f
      → JudgesProgram nums directory ends widths widths₁ entries entries offsets offsets (Err f)
  unfolding told_form after_form lists_judged is_fine
  ill-judged entries offsets f e = record {
    judged = λ P end s.
        let bad : judge_program P ≡ fault (number_of f.reason) f.index = sym (j.judged P end s) ∙ rw e in
        record {
          verdict = rw bad;
          widths_are = j.laid P end s;
          entries_are = rw (lists_judged, bad);
          offsets_are = rw (lists_judged, bad);
        };
  }

pub ruleset formed = (program-asks, well-asks, well-judged, ill-judged)

-- shape
module _ (nums directory directory' ends ends' : List ℕ) (end : ℕ)
    (w : ScansProgram nums directory directory' ends ends' (Past end)) where
  pub record Found : Type 0 where
    pub program : Program
    pub read : read_program nums 0 ≡ got program (drop end nums) end

  found : Found
  unfolding scan_of forget Kept
  found = go (read_program nums 0) refl (keeps-program.kept nums 0) w.answer
    where
      go : (x : Got Program) → read_program nums 0 ≡ x → Kept nums 0 x → Past end ≡ forget x → Found
      go (got P left next) q k f =
          let last : next ≡ end = cc in
          record { program = P; read = q ∙ rw (k.rest, last) }
      go (bad number index) q k f = let z : ◌≡◌ {A = ℕ} 0 1 = cc in absurd (omega arith)

  -- the directory and the ends have as many slots as they had
  module _ (lent : Lent nums directory ends) where
    pub stands : (f : Found) → StandsProgram nums directory' ends' f.program end
    unfolding directory_left
    stands f =
        let slots' : length directory' ≡ slot_count
        = rw (w.parts, f.read) (directory-long f.program end directory ∙ lent.slots) in
        let room' : length ends' ≡ most_numbers
        = scan-long nums directory directory' ends ends' (Past end) f.program (drop end nums) end w f.read ∙ lent.room in
        program-stands nums directory directory' ends ends' (Past end) f.program end w f.read lent.few
        (omega (arith, lent.few, lent.room)) (omega (arith, lent.few, room')) lent.slots slots'

    pub scanned : (widths : List ℕ) → length widths ≡ most_keys * most_tables
        → AsksProgram nums directory' ends' widths
    scanned widths room = record { program = found.program; end = end; stands = stands found; slots = room }

    pub judged-past : (widths widths' entries entries' offsets offsets' : List ℕ) (r : Result coded.Verdict rules.Fault)
        → JudgesProgram nums directory' ends' widths widths' entries entries' offsets offsets' r
        → JudgesNumbers nums directory directory' ends ends' widths widths' entries entries' offsets offsets' r
    unfolding after_shape widths_after entries_after offsets_after
    judged-past widths widths' entries entries' offsets offsets' r j =
        let f : Found = found in
        let k : Judged f.program end nums widths widths' entries entries' offsets offsets' (told_verdict r)
        = j.judged f.program end (stands f) in
        let verdict : told_verdict r ≡ after_shape (read_program nums 0) = rw f.read k.verdict in
        record {
          answer = rw verdict (passes-say nums);
          verdict = verdict;
          directory_is = w.parts;
          ends_are = w.laid;
          widths_are = rw f.read k.widths_are;
          entries_are = rw f.read k.entries_are;
          offsets_are = rw f.read k.offsets_are;
        }

pub judged-fault : (nums directory directory' ends ends' widths entries offsets : List ℕ) (f : rules.Fault)
    → ScansProgram nums directory directory' ends ends' (told (Err f))
    → JudgesNumbers nums directory directory' ends ends' widths widths entries entries offsets offsets (Err f)
unfolding scan_of forget after_shape widths_after entries_after offsets_after
judged-fault nums directory directory' ends ends' widths entries offsets f w = go (read_program nums 0) refl w.answer
  where
    go : (x : Got Program) → read_program nums 0 ≡ x → told (Err f) ≡ forget x
        → JudgesNumbers nums directory directory' ends ends' widths widths entries entries offsets offsets (Err f)
    go (got P left next) q g = let z : ◌≡◌ {A = ℕ} 0 1 = cc in absurd (omega arith)
    go (bad n i) q g =
        let same_n : n ≡ number_of f.reason = cc in
        let same_i : i ≡ f.index = cc in
        let verdict : Refused (number_of f.reason) f.index ≡ after_shape (read_program nums 0) = rw (q, same_n, same_i) in
        record {
          answer = rw verdict (passes-say nums);
          verdict = verdict;
          directory_is = w.parts;
          ends_are = w.laid;
          widths_are = rw q;
          entries_are = rw q;
          offsets_are = rw q;
        }

pub ruleset judged = (scanned, judged-past, judged-fault)
