-- What carries it: what the arguments that are left are judged to be, all are.
use Rattle.lists.proofs.Actions.{ArgumentsLeft}
use Rattle.lists.proofs.entries.arguments_at.Given as goal

abbrev pub invariant-loop-i : goal.invariant-loop-i
invariant-loop-i l = ArgumentsLeft l.nums l.parameter l.count l.at l.i l.next
