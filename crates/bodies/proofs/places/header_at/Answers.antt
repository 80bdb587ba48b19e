-- What carries it: a name that is inside its list has what stands there.
use Rattle.bodies.proofs.Naming.{globals}
use borrow.Author.Rules.{rules}
use Rattle.bodies.proofs.places.header_at.Goals as goal

pub header_of-requires : goal.header_of-requires
header_of-requires c = search (globals, rules)

pub returns-then-h-source : goal.returns-then-h-source
returns-then-h-source c = search (globals, rules)

pub returns-else-h-source : goal.returns-else-h-source
returns-else-h-source c = search (globals, rules)
