-- What carries it: a name that is inside its list has what stands there.
use Rattle.bodies.proofs.Naming.{fields, field-small}
use native.Mathlib.Omega.{arith}
use borrow.Author.Rules.{rules}
use Rattle.bodies.proofs.places.width_type.Goals as goal

pub overflow_add-header-then-f-nums : goal.overflow_add-header-then-f-nums
overflow_add-header-then-f-nums c = omega (arith, field-small _ _ _ c.requires c.if-f-nums.true)

pub offset_bounds-nums-header-then-f-nums : goal.offset_bounds-nums-header-then-f-nums
offset_bounds-nums-header-then-f-nums c = search (fields, rules)

pub bounds-nums-header-then-f-nums : goal.bounds-nums-header-then-f-nums
bounds-nums-header-then-f-nums c = search (fields, rules)

pub seen_type-requires : goal.seen_type-requires
seen_type-requires c = search (fields, rules)

pub returns-then-f-nums : goal.returns-then-f-nums
returns-then-f-nums c = search (fields, rules)

pub returns-else-f-nums : goal.returns-else-f-nums
returns-else-f-nums c = search (fields, rules)
