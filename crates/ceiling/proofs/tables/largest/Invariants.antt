-- What carries it: the largest so far and what is left.
use Rattle.program.specs.In.{In}
use Rattle.ceiling.proofs.CountingTables.{ActionsLeft}
use Rattle.ceiling.proofs.tables.largest.Given as goal

abbrev pub invariant-loop-i : goal.invariant-loop-i
invariant-loop-i l = In ActionsLeft l.source l.initial.kept l.reach l.at l.count l.kept l.most l.i
