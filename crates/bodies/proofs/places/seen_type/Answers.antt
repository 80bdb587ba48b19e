-- What carries it: a name that is inside its list has what stands there.
use Rattle.bodies.proofs.Naming.{fields}
use borrow.Author.Rules.{rules}
use Rattle.bodies.proofs.places.seen_type.Goals as goal

pub returns-then-eq : goal.returns-then-eq
returns-then-eq c = search (fields, rules)

pub returns-else-eq : goal.returns-else-eq
returns-else-eq c = search (fields, rules)
