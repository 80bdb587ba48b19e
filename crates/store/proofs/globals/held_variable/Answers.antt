-- What carries it: where a variable stands.
use Rattle.store.proofs.Stored.{stored, variable-room}
use native.Mathlib.Omega.{arith}
use borrow.Author.Rules.{rules}
use Rattle.store.proofs.globals.held_variable.Goals as goal

pub bounds-source-at : goal.bounds-source-at
bounds-source-at c = omega (arith, variable-room _ _ _ _ _ c.requires)

pub global_of-requires : goal.global_of-requires
global_of-requires c = search (stored, rules)

pub overflow_add-result : goal.overflow_add-result
overflow_add-result c = omega (arith, variable-room _ _ _ _ _ c.requires)

pub offset_bounds-source-g : goal.offset_bounds-source-g
offset_bounds-source-g c = omega (arith, variable-room _ _ _ _ _ c.requires)

pub bounds-source-g : goal.bounds-source-g
bounds-source-g c = omega (arith, variable-room _ _ _ _ _ c.requires)

pub offset_bounds-slots-source : goal.offset_bounds-slots-source
offset_bounds-slots-source c = omega (arith, variable-room _ _ _ _ _ c.requires)

pub bounds-slots-source : goal.bounds-slots-source
bounds-slots-source c = omega (arith, variable-room _ _ _ _ _ c.requires)

pub returns : goal.returns
returns c = search (stored, rules)
