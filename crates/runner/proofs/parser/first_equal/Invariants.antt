-- What carries it: the values so far are others.
use Rattle.runner.proofs.Selecting.{Unequal}
use Rattle.runner.proofs.parser.first_equal.Given as goal

abbrev pub invariant-loop-i : goal.invariant-loop-i
invariant-loop-i l = Unequal l.nums l.at l.count l.number l.i
