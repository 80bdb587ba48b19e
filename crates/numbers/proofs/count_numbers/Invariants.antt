-- `numbers::count_numbers` meets its contract: what is counted and what is left give the answer.
use Prim.Native.Nat.{◌-◌}
use lib.ListN.{length}
use Rattle.numbers.proofs.Counting.{Counting}
use Rattle.numbers.proofs.count_numbers.Given as goal

abbrev pub invariant-loop-at : goal.invariant-loop-at
invariant-loop-at l = Counting l.bytes l.room l.count l.at

abbrev pub decreases-loop-at : goal.decreases-loop-at
decreases-loop-at l = length l.bytes - l.at
