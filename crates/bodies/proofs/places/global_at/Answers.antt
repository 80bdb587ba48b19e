-- What carries it: a name that is inside its list has what stands there.
use Rattle.bodies.proofs.Naming.{globals}
use borrow.Author.Rules.{rules}
use Rattle.bodies.proofs.places.global_at.Goals as goal

pub global_of-ty-requires : goal.global_of-ty-requires
global_of-ty-requires c = search (globals, rules)

pub overflow_sub-ty : goal.overflow_sub-ty
overflow_sub-ty c = search (globals, rules)

pub returns-then-ty-le-WIDEST : goal.returns-then-ty-le-WIDEST
returns-then-ty-le-WIDEST c = search (globals, rules)

pub returns-else-ty-le-WIDEST : goal.returns-else-ty-le-WIDEST
returns-else-ty-le-WIDEST c = search (globals, rules)

pub returns-else-g-source : goal.returns-else-g-source
returns-else-g-source c = search (globals, rules)
