-- What carries it: the number that the bits so far stand for.
use Rattle.store.proofs.Streaming.{Reading}
use Rattle.store.proofs.packet.read_bits.Given as goal

abbrev pub invariant-loop-at : goal.invariant-loop-at
invariant-loop-at l = Reading l.nums l.from l.first l.width l.number l.at
