-- What carries it: what is told of the keys that are left is told of all.
use Rattle.lookup.proofs.All.{Matching}
use Rattle.lookup.proofs.matching.match_from.Given as goal

abbrev pub invariant-loop-j : goal.invariant-loop-j
invariant-loop-j l = Matching l.source.nums.now l.source.directory.now l.source.ends.now l.keys l.from l.count l.slot l.at l.j l.key l.next l.prefix
