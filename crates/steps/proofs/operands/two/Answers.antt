-- What carries it: the expression that stands at the tag.
use Rattle.steps.proofs.Twos.{twos}
use borrow.Author.Rules.{rules}
use Rattle.steps.proofs.operands.two.Goals as goal

pub bounds-nums-at-then-nums-at-eq-BINARY : goal.bounds-nums-at-then-nums-at-eq-BINARY
bounds-nums-at-then-nums-at-eq-BINARY c = search (twos, rules)

pub binary-requires : goal.binary-requires
binary-requires c = search (twos, rules)

pub joined-requires : goal.joined-requires
joined-requires c = search (twos, rules)

pub returns-then-operator-lt-BOTH : goal.returns-then-operator-lt-BOTH
returns-then-operator-lt-BOTH c = search (twos, rules)

pub returns-else-operator-lt-BOTH : goal.returns-else-operator-lt-BOTH
returns-else-operator-lt-BOTH c = search (twos, rules)

pub returns-else-nums-at-eq-BINARY : goal.returns-else-nums-at-eq-BINARY
returns-else-nums-at-eq-BINARY c = search (twos, rules)
