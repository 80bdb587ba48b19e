-- What is printed of a bench file is what its run answered and left, where it was lent slots enough for every file.
use Rattle.std.specs.Prelude.{Result, Ok, Err}
use mathlib.Core.List.{List, [], ◌∷◌, ◌++◌}
use mathlib.Core.Path.{◌≡◌, refl, sym, ap, subst, ◌∙◌}
use Prim.Native.Nat.{ℕ, ◌≤◌}
use native.Mathlib.Omega.{arith}
use lib.ListN.{length, take}
use Rattle.rules.specs.declared.Refusal.{Refusal}
use Rattle.rules.specs.declared.Signal.{Signal}
use Rattle.rules.specs.declared.Signal.TheVariants.{Done, Exit, Reject}
use Rattle.rules.specs.declared.Finished.{Finished}
use Rattle.rules.specs.Ceiling.{ceiling_of}
use Rattle.rules.specs.Lists.{Cell, slots_of}
use Rattle.rules.specs.Answers.{number_of, Bench, of_refusal, of_signal, of_run, refusing, Judged, accepted, refused, judged, ended, working_slots, run_with, told_with, told_by_run, run_outcome, run_says, file_outcome}
use Rattle.rules.specs.Lines.{refused_line, lines_of, printed}
use Rattle.rules.proofs.Fits.{StoreFits}
use Rattle.rules.proofs.Accepted.{judged-ok}
use Rattle.rules.proofs.Limits.{store-limited}
use Rattle.rules.proofs.Same.{run-same}
use Rattle.numbers.proofs.Room.{First, first_of, part-whole}
use Rattle.store.specs.Mirrors.{most_stored}
use Rattle.lines.specs.Promises.{Prints}
use Rattle.bench.specs.Runs.{RunsFile}
use Rattle.bench.proofs.Ending.{EndsWell, ends-well}

-- a run that ended tells no refusal
never-refused : (s : Signal) (told : List ℕ) (number place : ℕ) → of_signal s ++ told ≡ refusing number place → ⊥
unfolding of_signal
never-refused Done told number place e = let z : ◌≡◌ {A = ℕ} 0 1 = cc in omega arith
never-refused Exit told number place e = let z : ◌≡◌ {A = ℕ} 0 2 = cc in omega arith
never-refused (Reject error) told number place e = let z : ◌≡◌ {A = ℕ} 0 4 = cc in omega arith

module _ (bytes results results' working working' : List ℕ) (r : Result Finished Refusal) (room : most_stored ≤ length results)
    (frames : working_slots ≤ length working) (p : RunsFile bytes results results' working working' r) where
  -- a file that is refused
  module _ (number place : ℕ) (j : judged bytes ≡ refused number place) where
    unrun : of_run r ≡ refusing number place
    unfolding run_says run_outcome run_with told_by_run told_with
    unrun = p.says ∙ rw j refl

    line-is : printed bytes ≡ refused_line number place
    unfolding printed file_outcome lines_of
    line-is = rw j refl

  -- a file that is accepted
  module _ (b : Bench) (j : judged bytes ≡ accepted b) where
    small : (cells : List Cell) → StoreFits b.program cells → length (slots_of cells) ≤ length results
    small cells f = omega (arith, store-limited b.program (judged-ok bytes b j).limited cells f, room)

    well : EndsWell b results results' r
    well = ends-well bytes results results' working working' r b j (small b.store (judged-ok bytes b j).store-fits)
        frames p

    abbrev finished : Finished
    finished = record {
      signal = well.signal;
      steps = well.steps;
      ceiling = ceiling_of b.program;
      length = length (slots_of well.store);
    }

    ended_is : r ≡ Ok finished
    unfolding of_run
    ended_is = run-same r (Ok finished) well.answer

    lines_are : printed bytes
        ≡ lines_of (ended well.signal well.steps (ceiling_of b.program) (slots_of well.store))
    unfolding printed file_outcome
    lines_are = rw (j, file_outcome, well.outcome) refl

    first-are : First (slots_of well.store) results'
    first-are = first_of (slots_of well.store) results results' (small well.store well.fits) well.left

  record Shown (f : Finished) : Type 0 where
    within : f.length ≤ length results'
    is : printed bytes ≡ lines_of (ended f.signal f.steps f.ceiling (take f.length results'))

  shown : (f : Finished) → r ≡ Ok f → (x : Judged) → judged bytes ≡ x → Shown f
  unfolding of_run
  shown f e (refused number place) j = absurd
      (never-refused f.signal (f.steps ∷ f.ceiling ∷ f.length ∷ []) number place
      (ap of_run (sym e) ∙ unrun number place j))
  shown f e (accepted b) j =
      let z : Ok f ≡ Ok (finished b j) = sym e ∙ ended_is b j in
      let same : f ≡ finished b j = cc in
      let all : Shown (finished b j) = record {
        within = (first-are b j).within;
        is = rw (first-are b j).is (lines_are b j);
      } in
      subst Shown (sym same) all

  pub shown-within : (f : Finished) → r ≡ Ok f → f.length ≤ length results'
  shown-within f e = (shown f e (judged bytes) refl).within

  pub shown-ended : (f : Finished) → r ≡ Ok f → (lent left : List ℕ) (w : Result ℕ Refusal)
      → Prints (lines_of (ended f.signal f.steps f.ceiling (take f.length results'))) lent w left
      → Prints (printed bytes) lent w left
  shown-ended f e lent left w q = rw (shown f e (judged bytes) refl).is q

  shown-line : (x : Refusal) → r ≡ Err x → (y : Judged) → judged bytes ≡ y
      → printed bytes ≡ refused_line (number_of x.reason) x.place
  unfolding of_run of_refusal
  shown-line x e (accepted b) j =
      let z : Err x ≡ Ok (finished b j) = sym e ∙ ended_is b j in
      let c : ◌≡◌ {A = ℕ} 0 1 = cc in
      absurd (omega arith)
  shown-line x e (refused number place) j =
      let z : refusing (number_of x.reason) x.place ≡ refusing number place = ap of_run (sym e) ∙ unrun number place j in
      let n : number_of x.reason ≡ number = cc in
      let at : x.place ≡ place = cc in
      rw (n, at) (line-is number place j)

  pub shown-refused : (x : Refusal) → r ≡ Err x → (number : ℕ) → number ≡ number_of x.reason
      → (lent left : List ℕ) (w : Result ℕ Refusal)
      → Prints (refused_line number x.place) lent w left → Prints (printed bytes) lent w left
  shown-refused x e number n lent left w q = rw (shown-line x e (judged bytes) refl) (rw n at q)

pub ruleset printings = (shown-within, part-whole, shown-ended, shown-refused)
