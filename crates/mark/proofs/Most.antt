-- How many bytes the result lines of a file take at most: two numbers on a line, and a store of at most 544.
use mathlib.Core.Path.{◌≡◌, refl, ap}
use mathlib.Core.List.{List, [], ◌∷◌}
use Prim.Native.Nat.{ℕ, ◌+◌, ◌*◌, ◌≤◌}
use native.Mathlib.Omega.{arith}
use lib.ListN.{length, length-append}
use Rattle.rules.specs.declared.Signal.{Signal}
use Rattle.rules.specs.Lists.{Cell, slots_of}
use Rattle.rules.specs.Running.{Out, run_program}
use Rattle.rules.specs.Answers.{Bench, Judged, accepted, refused, judged, ended, outcome_of, run_bench, file_outcome, working_slots}
use Rattle.rules.specs.Lines.{decimal, behind_blanks, between_blanks, word_of, refused_word, refused_line, lines_of, printed}
use Rattle.rules.proofs.Accepted as accepts
use Rattle.rules.proofs.Accepted.{judged-ok, Ends, accepted-ends}
use Rattle.rules.proofs.Limits.{store-limited}
use Rattle.lines.specs.Parts.{word_line, store_line}
use Rattle.lines.proofs.Decimals.{decimal-few}
use Rattle.lines.proofs.Measuring.{word-few}
use Rattle.lines.proofs.Texts.{length-store, length-word, refused-text, ended-text}
use Rattle.mark.specs.Marks.{most_printed}

-- a number takes at most 20 digits, and its blank
behind-most : (ns : List ℕ) → length (behind_blanks ns) ≤ 21 * length ns
unfolding behind_blanks
behind-most [] = omega arith
behind-most (n ∷ ns) = omega (arith, length-append (decimal n) (behind_blanks ns), decimal-few n, behind-most ns)

between-most : (ns : List ℕ) → length (between_blanks ns) ≤ 21 * length ns
unfolding between_blanks
between-most [] = omega arith
between-most (n ∷ ns) = omega (arith, length-append (decimal n) (behind_blanks ns), decimal-few n, behind-most ns)

refused-most : (number place : ℕ) → length (refused_line number place) ≤ 50
refused-most number place = omega (
  arith,
  ap length (refused-text number place),
  length-word refused_word number place,
  behind-most (number ∷ place ∷ []),
)

ended-most : (signal : Signal) (steps ceiling : ℕ) (store : List ℕ)
    → length (lines_of (ended signal steps ceiling store)) ≤ 71 + 21 * length store
ended-most signal steps ceiling store = omega (
  arith,
  ap length (ended-text signal steps ceiling store),
  length-append (word_line (word_of signal) steps ceiling) (store_line store),
  length-word (word_of signal) steps ceiling,
  word-few signal,
  behind-most (steps ∷ ceiling ∷ []),
  length-store store,
  between-most store,
)

module _ (file : List ℕ) where
  run-most : (b : Bench) → judged file ≡ accepted b → (o : Out (List Cell) Signal) → Ends b.program o → (ceiling : ℕ)
      → length (lines_of (outcome_of ceiling o)) ≤ most_printed
  unfolding outcome_of lines_of
  run-most b j o (accepts.ends signal store seen q f) ceiling = omega (
    arith,
    ended-most signal (length seen) ceiling (slots_of store),
    store-limited b.program (judged-ok file b j).limited store f,
  )
  run-most b j o accepts.fills ceiling = omega (arith, refused-most 14 0)

  go : (x : Judged) → judged file ≡ x → length (lines_of (file_outcome working_slots x)) ≤ most_printed
  unfolding file_outcome run_bench lines_of
  go (accepted b) j = run-most b j (run_program working_slots b.program b.entries b.store b.packet)
      (accepted-ends working_slots file b j) _
  go (refused number place) j = omega (arith, refused-most number place)

  pub printed-most : length (printed file) ≤ most_printed
  unfolding printed
  printed-most = go (judged file) refl
