-- What carries it: each rule about types as a test on their numbers.
use Rattle.bodies.proofs.Typing.{checks}
use borrow.Author.Rules.{rules}
use Rattle.bodies.proofs.types.checked.Goals as goal

pub returns-then-holds : goal.returns-then-holds
returns-then-holds c = search (checks, rules)

pub returns-else-holds : goal.returns-else-holds
returns-else-holds c = search (checks, rules)
