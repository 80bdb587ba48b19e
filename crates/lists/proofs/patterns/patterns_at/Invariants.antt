-- What carries it: what the keys that are left are judged to ask, all do.
use Rattle.lists.proofs.Keys.{KeysLeft}
use Rattle.lists.proofs.patterns.patterns_at.Given as goal

abbrev pub invariant-loop-i : goal.invariant-loop-i
invariant-loop-i l = KeysLeft l.source.nums.now l.source.ends.now l.widths l.key l.count l.slot l.at l.i l.here l.next
