-- What carries it: what is told of the keys that are left is told of all.
use Rattle.lookup.proofs.KeyKinds.{Seeking}
use Rattle.lookup.proofs.looking.any_key.Given as goal

abbrev pub invariant-loop : goal.invariant-loop
invariant-loop l = Seeking l.source.nums.now l.source.ends.now l.kind l.from l.count l.counter l.key
