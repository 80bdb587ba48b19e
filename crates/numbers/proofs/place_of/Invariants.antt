-- `numbers::place_of` meets its contract: what was passed and the place in the rest add up to the place asked for.
use Prim.Native.Nat.{◌-◌}
use lib.ListN.{length}
use Rattle.numbers.proofs.Places.{Passing}
use Rattle.numbers.proofs.place_of.Given as goal

abbrev pub invariant-loop-at : goal.invariant-loop-at
invariant-loop-at l = Passing l.bytes l.index l.at l.left

abbrev pub decreases-loop-at : goal.decreases-loop-at
decreases-loop-at l = length l.bytes - l.at
