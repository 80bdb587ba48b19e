-- What carries it: where a field stands.
use Rattle.store.proofs.Stored.{stored, field_room, field-typed}
use native.Mathlib.Omega.{arith}
use borrow.Author.Rules.{rules}
use Rattle.store.proofs.globals.held_field.Goals as goal

pub bounds-source-at : goal.bounds-source-at
bounds-source-at c = omega (arith, field_room _ _ _ _ _ c.requires)

pub bounds-source-at-2 : goal.bounds-source-at-2
bounds-source-at-2 c = omega (arith, field_room _ _ _ _ _ c.requires)

pub header_type-header-requires : goal.header_type-header-requires
header_type-header-requires c = search (stored, rules)

pub overflow_add-result : goal.overflow_add-result
overflow_add-result c = omega (arith, field_room _ _ _ _ _ c.requires, field-typed _ _ _ _ _ c.requires _ c.header_type-header.ensures)

pub overflow_add-result-2 : goal.overflow_add-result-2
overflow_add-result-2 c = omega (arith, field_room _ _ _ _ _ c.requires, field-typed _ _ _ _ _ c.requires _ c.header_type-header.ensures)

pub offset_bounds-source-header : goal.offset_bounds-source-header
offset_bounds-source-header c = omega (arith, field_room _ _ _ _ _ c.requires, field-typed _ _ _ _ _ c.requires _ c.header_type-header.ensures)

pub bounds-source-header : goal.bounds-source-header
bounds-source-header c = omega (arith, field_room _ _ _ _ _ c.requires, field-typed _ _ _ _ _ c.requires _ c.header_type-header.ensures)

pub overflow_add-result-3 : goal.overflow_add-result-3
overflow_add-result-3 c = omega (arith, field_room _ _ _ _ _ c.requires, field-typed _ _ _ _ _ c.requires _ c.header_type-header.ensures)

pub offset_bounds-source-g : goal.offset_bounds-source-g
offset_bounds-source-g c = omega (arith, field_room _ _ _ _ _ c.requires, field-typed _ _ _ _ _ c.requires _ c.header_type-header.ensures)

pub bounds-source-g : goal.bounds-source-g
bounds-source-g c = omega (arith, field_room _ _ _ _ _ c.requires, field-typed _ _ _ _ _ c.requires _ c.header_type-header.ensures)

pub overflow_add-result-4 : goal.overflow_add-result-4
overflow_add-result-4 c = omega (arith, field_room _ _ _ _ _ c.requires, field-typed _ _ _ _ _ c.requires _ c.header_type-header.ensures)

pub overflow_add-result-5 : goal.overflow_add-result-5
overflow_add-result-5 c = omega (arith, field_room _ _ _ _ _ c.requires, field-typed _ _ _ _ _ c.requires _ c.header_type-header.ensures)

pub offset_bounds-slots-source : goal.offset_bounds-slots-source
offset_bounds-slots-source c = omega (arith, field_room _ _ _ _ _ c.requires, field-typed _ _ _ _ _ c.requires _ c.header_type-header.ensures)

pub bounds-slots-source : goal.bounds-slots-source
bounds-slots-source c = omega (arith, field_room _ _ _ _ _ c.requires, field-typed _ _ _ _ _ c.requires _ c.header_type-header.ensures)

pub returns : goal.returns
returns c = search (stored, rules)
