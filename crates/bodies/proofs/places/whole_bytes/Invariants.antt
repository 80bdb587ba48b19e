-- What carries it: the widths that are left, and the bits of those before them.
use Rattle.bodies.proofs.Extracting.{Adding}
use Rattle.bodies.proofs.places.whole_bytes.Given as goal

abbrev pub invariant-loop-next : goal.invariant-loop-next
invariant-loop-next l = Adding l.nums l.header l.next l.bits
