-- What carries it: the dearest so far and what is left.
use Rattle.ceiling.proofs.CountingStates.{PairsLeft}
use Rattle.ceiling.proofs.states.dearest.Given as goal

abbrev pub invariant-loop-i : goal.invariant-loop-i
invariant-loop-i l = PairsLeft l.nums l.filled l.at l.count l.most l.i
