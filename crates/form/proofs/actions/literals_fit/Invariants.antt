-- What carries it: literals one after the other.
use Rattle.form.proofs.OfNumerals.{Fitting}
use Rattle.form.proofs.actions.literals_fit.Given as goal

abbrev pub invariant-loop-i : goal.invariant-loop-i
invariant-loop-i l = Fitting l.nums l.parameter l.at l.count l.i
