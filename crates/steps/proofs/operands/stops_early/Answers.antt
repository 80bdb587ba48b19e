-- What carries it: the operators that stop early, by their numbers.
use Rattle.steps.proofs.Twos.{stops}
use borrow.Author.Rules.{rules}
use Rattle.steps.proofs.operands.stops_early.Goals as goal

pub bounds-nums-at-then-nums-at-eq-BINARY : goal.bounds-nums-at-then-nums-at-eq-BINARY
bounds-nums-at-then-nums-at-eq-BINARY c = search (stops, rules)

pub returns-then-a-eq0 : goal.returns-then-a-eq0
returns-then-a-eq0 c = search (stops, rules)

pub returns-else-a-eq0 : goal.returns-else-a-eq0
returns-else-a-eq0 c = search (stops, rules)

pub returns-else-nums-at-eq-BINARY : goal.returns-else-nums-at-eq-BINARY
returns-else-nums-at-eq-BINARY c = search (stops, rules)
