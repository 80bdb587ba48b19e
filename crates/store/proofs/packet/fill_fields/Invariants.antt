-- What carries it: the fields so far.
use Rattle.store.proofs.Streaming.{FieldsSoFar}
use Rattle.store.proofs.packet.fill_fields.Given as goal

abbrev pub invariant-loop-i : goal.invariant-loop-i
invariant-loop-i l = FieldsSoFar l.nums l.initial.slots l.slots l.at l.count l.from l.slot l.first l.i
