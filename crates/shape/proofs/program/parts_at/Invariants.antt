-- What carries it: what is left of the parts walks and lays what all of them do.
use Rattle.shape.proofs.Walking.{Walking}
use Rattle.shape.proofs.program.parts_at.Given as goal

abbrev pub invariant-loop-entry : goal.invariant-loop-entry
invariant-loop-entry g l = Walking (goal.F-post g l.part) l.count l.at l.slot l.initial.directory l.initial.ends l.entry l.next l.directory l.ends
