-- What carries it: tables one after the other.
use Rattle.program.specs.In.{In}
use Rattle.form.proofs.OfTables.{Laid}
use Rattle.form.proofs.tables.judge_tables.Given as goal

abbrev pub invariant-loop-t : goal.invariant-loop-t
invariant-loop-t l = In Laid l.source 0 l.t l.initial.widths l.widths
