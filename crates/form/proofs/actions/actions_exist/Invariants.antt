-- What carries it: numbers one after the other.
use Rattle.form.proofs.OfActions.{Existing}
use Rattle.form.proofs.actions.actions_exist.Given as goal

abbrev pub invariant-loop-action : goal.invariant-loop-action
invariant-loop-action l = Existing l.source.nums.now l.source.directory.now l.at l.count l.action
