-- What carries it: pairs one after the other.
use Rattle.form.proofs.OfPairs.{Leading}
use Rattle.form.proofs.states.judge_pairs.Given as goal

abbrev pub invariant-loop-i : goal.invariant-loop-i
invariant-loop-i l = Leading l.source.nums.now l.source.directory.now l.n l.at l.count l.i
