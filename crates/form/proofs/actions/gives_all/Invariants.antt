-- What carries it: parameters one after the other.
use Rattle.form.proofs.OfActions.{Giving}
use Rattle.form.proofs.actions.gives_all.Given as goal

abbrev pub invariant-loop-i : goal.invariant-loop-i
invariant-loop-i l = Giving l.nums l.at l.count l.i
