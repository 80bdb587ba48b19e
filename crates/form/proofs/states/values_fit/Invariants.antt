-- What carries it: pairs one after the other.
use Rattle.form.proofs.OfPairs.{Fitting}
use Rattle.form.proofs.states.values_fit.Given as goal

abbrev pub invariant-loop-i : goal.invariant-loop-i
invariant-loop-i l = Fitting l.nums l.width l.at l.count l.i
