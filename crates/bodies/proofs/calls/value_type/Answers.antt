-- What carries it: the parameters that are left, and how arguments are held against them.
use Rattle.bodies.proofs.Calling.{settling}
use borrow.Author.Rules.{rules}
use Rattle.bodies.proofs.calls.value_type.Goals as goal

pub returns-then-either : goal.returns-then-either
returns-then-either c = search (settling, rules)

pub returns-else-either : goal.returns-else-either
returns-else-either c = search (settling, rules)
