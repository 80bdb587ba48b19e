-- What carries it: a name that is inside its list has what stands there.
use Rattle.bodies.proofs.Naming.{slots, local-small}
use native.Mathlib.Omega.{arith}
use borrow.Author.Rules.{rules}
use Rattle.bodies.proofs.places.local_type.Goals as goal

pub overflow_add-result : goal.overflow_add-result
overflow_add-result c = omega (arith, local-small _ _ _ c.requires c.if-i-scope.true)

pub offset_bounds-nums-scope : goal.offset_bounds-nums-scope
offset_bounds-nums-scope c = search (slots, rules)

pub bounds-nums-scope : goal.bounds-nums-scope
bounds-nums-scope c = search (slots, rules)

pub returns-then-i-scope : goal.returns-then-i-scope
returns-then-i-scope c = search (slots, rules)

pub returns-else-i-scope : goal.returns-else-i-scope
returns-else-i-scope c = search (slots, rules)
