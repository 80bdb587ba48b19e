-- `numbers::fill` meets its contract: what is stored and what is left to store give the slots' later contents.
use Prim.Native.Nat.{◌-◌}
use lib.ListN.{length}
use Rattle.numbers.proofs.Filling.{Filling}
use Rattle.numbers.proofs.fill.Given as goal

abbrev pub invariant-loop-at : goal.invariant-loop-at
invariant-loop-at l = Filling l.bytes l.initial.slots l.slots l.index l.at

abbrev pub decreases-loop-at : goal.decreases-loop-at
decreases-loop-at l = length l.bytes - l.at
