-- What carries it: listed actions one after the other.
use Rattle.program.specs.In.{In}
use Rattle.form.proofs.OfActions.{Listing}
use Rattle.form.proofs.actions.judge_listed.Given as goal

abbrev pub invariant-loop-action : goal.invariant-loop-action
invariant-loop-action l = In Listing l.source l.at l.count l.action
