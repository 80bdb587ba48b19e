-- `numbers::number_at` meets its contract: what was read so far and what is left give what stands at the place.
use Prim.Native.Nat.{◌-◌}
use lib.ListN.{length}
use Rattle.numbers.proofs.Within.{Within}
use Rattle.numbers.proofs.number_at.Given as goal

abbrev pub invariant-loop-at : goal.invariant-loop-at
invariant-loop-at l = Within l.bytes l.place l.at l.value l.weight

abbrev pub decreases-loop-at : goal.decreases-loop-at
decreases-loop-at l = length l.bytes - l.at
