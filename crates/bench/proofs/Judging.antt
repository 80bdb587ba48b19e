-- From the bytes to the numbers and back to a place: what the judge says of the numbers is, with its index become a place,
-- what the rules say of the bytes.
use Rattle.std.specs.Prelude.{Result, Ok, Err}
use mathlib.Core.List.{List, [], ◌∷◌}
use mathlib.Core.Path.{◌≡◌, refl, sym, ap, ◌∙◌}
use Prim.Native.Nat.{ℕ, ◌≤◌}
use native.Mathlib.Omega.{arith}
use lib.ListN.{length, take}
use Rattle.rules.specs.declared.Refusal.{Refusal}
use Rattle.rules.specs.declared.Fault.{Fault}
use Rattle.rules.specs.Numbers.{numbers, most_bytes, stream_of, place_of}
use Rattle.rules.specs.Reading.{Got, got, bad}
use Rattle.rules.specs.Answers.{number_of, Bench, judging, placed, judged_stream, judged, told_by_judge, judge_says, of_judge, of_refusal}
use Rattle.rules.proofs.Codec.{read_count, read-most}
use Rattle.numbers.specs.Parts.{Roomy}
use Rattle.numbers.specs.Promises.{Reads}
use Rattle.numbers.proofs.Room.{part-whole}
use Rattle.numbers.proofs.Outcomes.{Numbered, read-numbered, numbers-within, read-broken}
use Rattle.judge.specs.declared.Verdict.{Verdict}
use Rattle.judge.specs.Verdicts.{of_verdict, told_by, judging_says, JudgesNumbers}
use Rattle.bench.specs.Runs.{refusal_at}

-- what is told of numbers, with the index of a fault become a place
module _ (bytes : List ℕ) where
  told-accepted : (x : Got Bench) (ceiling size : ℕ) → 1 ∷ ceiling ∷ size ∷ [] ≡ told_by x →
      1 ∷ ceiling ∷ size ∷ [] ≡ told_by_judge (placed bytes x)
  unfolding told_by told_by_judge placed
  told-accepted (got bench left at) ceiling size e = e
  told-accepted (bad number index) ceiling size e = let z : ◌≡◌ {A = ℕ} 0 1 = cc in absurd (omega arith)

  told-refused : (x : Got Bench) (number index : ℕ) → 0 ∷ number ∷ index ∷ [] ≡ told_by x →
      0 ∷ number ∷ place_of bytes index ∷ [] ≡ told_by_judge (placed bytes x)
  unfolding told_by told_by_judge placed
  told-refused (got bench left at) number index e = let z : ◌≡◌ {A = ℕ} 0 1 = cc in absurd (omega arith)
  told-refused (bad number index) number' index' e = cc

-- bytes that read as numbers
module _ (bytes nums : List ℕ) (reads : stream_of bytes ≡ numbers nums) where
  pub numbers-few : length nums ≤ most_bytes
  numbers-few = omega (arith, read_count bytes nums reads, read-most bytes nums reads)

  numbers-say : judge_says bytes ≡ told_by_judge (placed bytes (judging nums 0))
  unfolding judge_says judged judged_stream
  numbers-say = rw reads

  module _ (directory directory' ends ends' widths widths' entries entries' offsets offsets' : List ℕ) (r : Result Verdict Fault)
      (j : JudgesNumbers nums directory directory' ends ends' widths widths' entries entries' offsets offsets' r) where
    pub numbers-accepted : (v : Verdict) → r ≡ Ok v →
        of_judge (Ok (record { ceiling = v.ceiling; length = v.length })) ≡ judge_says bytes
    unfolding of_verdict judging_says of_judge
    numbers-accepted v e =
        told-accepted bytes (judging nums 0) v.ceiling v.length (rw e at j.answer) ∙ sym numbers-say

    pub numbers-refused : (fault : Fault) (x : Refusal) → r ≡ Err fault → x ≡ refusal_at bytes fault
        → of_judge (Err x) ≡ judge_says bytes
    unfolding of_verdict judging_says of_judge of_refusal
    numbers-refused fault x e at =
        rw at
        (told-refused bytes (judging nums 0) (number_of fault.reason) fault.index (rw e at j.answer) ∙ sym numbers-say)

pub ruleset verdicts = (numbers-few, numbers-accepted, numbers-refused)

-- the refusal at an index
pub refusal_is : (bytes : List ℕ) (fault : Fault) (place : ℕ) → place ≡ place_of bytes fault.index
    → record { reason = fault.reason; place = place } ≡ refusal_at bytes fault
refusal_is bytes fault place e = rw e refl

-- what reading leaves for the judge
module _ (bytes slots : List ℕ) (r : Result ℕ Refusal) (left : List ℕ) (p : Reads bytes slots r left) where
  module _ (count : ℕ) (e : r ≡ Ok count) where
    pub read-numbers : stream_of bytes ≡ numbers (take count left)
    read-numbers =
        let n : Numbered bytes slots count left = read-numbered bytes slots r left count p e in
        n.reads ∙ ap numbers (sym n.first)

  pub read-refused : Roomy bytes (length slots) → (refusal : Refusal) → r ≡ Err refusal →
      of_judge (Err refusal) ≡ judge_says bytes
  unfolding of_judge of_refusal judge_says judged judged_stream told_by_judge
  read-refused room refusal e = rw (read-broken bytes slots r left refusal p room e)

pub ruleset readings = (numbers-within, part-whole, read-numbers, read-refused)
