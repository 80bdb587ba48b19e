-- What carries it: each rule about types as a test on their numbers.
use Rattle.bodies.proofs.Typing.{checks}
use borrow.Author.Rules.{rules}
use Rattle.bodies.proofs.types.slice_type.Goals as goal

pub returns-then-low-high : goal.returns-then-low-high
returns-then-low-high c = search (checks, rules)

pub returns-else-low-high : goal.returns-else-low-high
returns-else-low-high c = search (checks, rules)
