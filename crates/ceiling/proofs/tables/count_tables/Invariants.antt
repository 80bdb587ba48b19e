-- What carries it: what the tables that are left leave, all do.
use Rattle.program.specs.In.{In}
use Rattle.ceiling.proofs.CountingTables.{TablesLeft}
use Rattle.ceiling.proofs.tables.count_tables.Given as goal

abbrev pub invariant-loop-t : goal.invariant-loop-t
invariant-loop-t l = In TablesLeft l.source l.initial.kept l.initial.filled l.reach l.t l.kept l.filled
