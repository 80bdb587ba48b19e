-- What carries it: what is told of the entries that are left is told of all.
use Rattle.lookup.proofs.Looks.{Looking}
use Rattle.lookup.proofs.looking.look_from.Given as goal

abbrev pub invariant-loop-slot : goal.invariant-loop-slot
invariant-loop-slot l = Looking l.source.nums.now l.source.directory.now l.source.ends.now l.keys l.t l.table l.longest l.i l.left l.initial.found l.slot l.found
