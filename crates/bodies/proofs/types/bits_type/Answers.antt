-- What carries it: each rule about types as a test on their numbers.
use Rattle.bodies.proofs.Typing.{checks}
use borrow.Author.Rules.{rules}
use Rattle.bodies.proofs.types.bits_type.Goals as goal

pub returns : goal.returns
returns c = search (checks, rules)
