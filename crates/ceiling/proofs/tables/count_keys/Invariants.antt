-- What carries it: what is summed so far and what is left.
use Rattle.program.specs.In.{In}
use Rattle.ceiling.proofs.CountingTables.{KeysSummed}
use Rattle.ceiling.proofs.tables.count_keys.Given as goal

abbrev pub invariant-loop : goal.invariant-loop
invariant-loop l = In KeysSummed l.source l.initial.kept l.reach l.at l.count l.kept l.total l.here l.counter
