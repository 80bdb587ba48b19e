-- What carries it: keys one after the other, and whether one before them is lpm.
use Rattle.form.proofs.OfKinds.{Looked}
use Rattle.form.proofs.keys.one_lpm.Given as goal

abbrev pub invariant-loop : goal.invariant-loop
invariant-loop l = Looked l.source.nums.now l.source.ends.now l.at l.count l.counter l.next l.seen
