-- What carries it: the bits of the widths so far.
use Rattle.store.proofs.Streaming.{Counting}
use Rattle.store.proofs.packet.count_bits.Given as goal

abbrev pub invariant-loop-width : goal.invariant-loop-width
invariant-loop-width l = Counting l.nums l.at l.count l.bits l.width-index
