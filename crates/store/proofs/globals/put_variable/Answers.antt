-- What carries it: what a variable that is set makes of the state.
use Rattle.store.proofs.Writing.{writings}
use Rattle.store.proofs.Stored.{variable-room}
use native.Mathlib.Omega.{arith}
use borrow.Author.Rules.{rules}
use Rattle.store.proofs.globals.put_variable.Goals as goal

pub bounds-source-at : goal.bounds-source-at
bounds-source-at c = omega (arith, variable-room _ _ _ _ _ c.requires.asks)

pub overflow_add-slot : goal.overflow_add-slot
overflow_add-slot c = omega (arith, variable-room _ _ _ _ _ c.requires.asks)

pub offset_bounds-source-g : goal.offset_bounds-source-g
offset_bounds-source-g c = omega (arith, variable-room _ _ _ _ _ c.requires.asks)

pub bounds-source-g : goal.bounds-source-g
bounds-source-g c = omega (arith, variable-room _ _ _ _ _ c.requires.asks)

pub offset_bounds-slots-slot : goal.offset_bounds-slots-slot
offset_bounds-slots-slot c = omega (arith, variable-room _ _ _ _ _ c.requires.asks)

pub bounds-slots-slot : goal.bounds-slots-slot
bounds-slots-slot c = omega (arith, variable-room _ _ _ _ _ c.requires.asks)

pub returns : goal.returns
returns c = search (writings, rules)
