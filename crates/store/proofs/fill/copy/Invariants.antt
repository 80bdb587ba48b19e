-- What carries it: what is filled so far.
use Rattle.store.proofs.Filling.{Filling}
use Rattle.store.proofs.fill.copy.Given as goal

abbrev pub invariant-loop-at : goal.invariant-loop-at
invariant-loop-at l = Filling l.nums l.initial.slots l.slots l.from l.count l.at
