-- What carries it: what the globals that are left are judged to be and leave, all are and do.
use Rattle.program.specs.In.{In}
use Rattle.lists.proofs.Globals.{CellsLeft}
use Rattle.lists.proofs.store.cells_at.Given as goal

abbrev pub invariant-loop-g : goal.invariant-loop-g
invariant-loop-g l = In CellsLeft l.source l.count l.store l.initial.offsets l.g l.next l.offsets
