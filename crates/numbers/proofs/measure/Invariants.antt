-- `numbers::measure` meets its contract: what is counted and what is left give the length, and no sum passes the room.
use Rattle.numbers.proofs.Measuring.{Measuring}
use Rattle.numbers.proofs.measure.Given as goal

abbrev pub invariant-loop-number : goal.invariant-loop-number
invariant-loop-number l = Measuring l.numbers l.room l.taken l.number-index
