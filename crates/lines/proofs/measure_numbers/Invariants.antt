-- `lines::measure_numbers` meets its contract: what is counted and what is left give the length, and no sum passes the room.
use Rattle.lines.proofs.Measuring.{Measuring}
use Rattle.lines.proofs.measure_numbers.Given as goal

abbrev pub invariant-loop-number : goal.invariant-loop-number
invariant-loop-number l = Measuring l.store l.line l.room l.taken l.number-index
