-- What carries it: what a field that is set makes of the state, and that an invalid header stays.
use Rattle.store.proofs.Writing.{writings}
use Rattle.store.proofs.Stored.{field_room}
use native.Mathlib.Omega.{arith}
use borrow.Author.Rules.{rules}
use Rattle.store.proofs.globals.put_field.Goals as goal

pub bounds-source-at : goal.bounds-source-at
bounds-source-at c = omega (arith, field_room _ _ _ _ _ c.requires.asks)

pub bounds-source-at-2 : goal.bounds-source-at-2
bounds-source-at-2 c = omega (arith, field_room _ _ _ _ _ c.requires.asks)

pub overflow_add-mark : goal.overflow_add-mark
overflow_add-mark c = omega (arith, field_room _ _ _ _ _ c.requires.asks)

pub offset_bounds-source-g : goal.offset_bounds-source-g
offset_bounds-source-g c = omega (arith, field_room _ _ _ _ _ c.requires.asks)

pub bounds-source-g : goal.bounds-source-g
bounds-source-g c = omega (arith, field_room _ _ _ _ _ c.requires.asks)

pub offset_bounds-slots-mark : goal.offset_bounds-slots-mark
offset_bounds-slots-mark c = omega (arith, field_room _ _ _ _ _ c.requires.asks)

pub bounds-slots-mark : goal.bounds-slots-mark
bounds-slots-mark c = omega (arith, field_room _ _ _ _ _ c.requires.asks)

pub overflow_add-slots-then-slots-mark-eq-VALID : goal.overflow_add-slots-then-slots-mark-eq-VALID
overflow_add-slots-then-slots-mark-eq-VALID c = omega (arith, field_room _ _ _ _ _ c.requires.asks)

pub offset_bounds-slots-mark-then-slots-mark-eq-VALID : goal.offset_bounds-slots-mark-then-slots-mark-eq-VALID
offset_bounds-slots-mark-then-slots-mark-eq-VALID c = omega (arith, field_room _ _ _ _ _ c.requires.asks)

pub bounds-slots-mark-then-slots-mark-eq-VALID : goal.bounds-slots-mark-then-slots-mark-eq-VALID
bounds-slots-mark-then-slots-mark-eq-VALID c = omega (arith, field_room _ _ _ _ _ c.requires.asks)

pub returns-then-slots-mark-eq-VALID : goal.returns-then-slots-mark-eq-VALID
returns-then-slots-mark-eq-VALID c = search (writings, rules)

pub returns-else-slots-mark-eq-VALID : goal.returns-else-slots-mark-eq-VALID
returns-else-slots-mark-eq-VALID c = search (writings, rules)
