-- What carries it: each rule about types as a test on their numbers.
use Rattle.bodies.proofs.Typing.{ones}
use borrow.Author.Rules.{rules}
use Rattle.bodies.proofs.types.one_type.Goals as goal

pub returns-in-7 : goal.returns-in-7
returns-in-7 c = search (ones, rules)

pub returns-in-8 : goal.returns-in-8
returns-in-8 c = search (ones, rules)

pub returns-in-10 : goal.returns-in-10
returns-in-10 c = search (ones, rules)
