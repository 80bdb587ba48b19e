-- What carries it: each rule about types as a test on their numbers.
use Rattle.bodies.proofs.Typing.{twos}
use borrow.Author.Rules.{rules}
use Rattle.bodies.proofs.types.operator_type.Goals as goal

pub returns-then-operator-lt6 : goal.returns-then-operator-lt6
returns-then-operator-lt6 c = search (twos, rules)

pub returns-then-operator-lt8 : goal.returns-then-operator-lt8
returns-then-operator-lt8 c = search (twos, rules)

pub returns-then-operator-lt10 : goal.returns-then-operator-lt10
returns-then-operator-lt10 c = search (twos, rules)

pub returns-then-operator-lt12 : goal.returns-then-operator-lt12
returns-then-operator-lt12 c = search (twos, rules)

pub returns-else-operator-lt12 : goal.returns-else-operator-lt12
returns-else-operator-lt12 c = search (twos, rules)
