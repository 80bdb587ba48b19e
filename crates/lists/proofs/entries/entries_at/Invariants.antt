-- What carries it: what the entries that are left are judged to be and leave, all are and do.
use Rattle.program.specs.In.{In}
use Rattle.lists.proofs.Rows.{EntriesLeft}
use Rattle.lists.proofs.entries.entries_at.Given as goal

abbrev pub invariant-loop-i : goal.invariant-loop-i
invariant-loop-i l = In EntriesLeft l.source l.widths l.count l.at l.initial.entries l.i l.next l.entries
