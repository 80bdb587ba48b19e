-- What carries it: what a local that is set makes of the state.
use Rattle.store.proofs.Writing.{writings}
use Rattle.store.proofs.Framing.{local-room}
use native.Mathlib.Omega.{arith}
use borrow.Author.Rules.{rules}
use Rattle.store.proofs.frames.put_local.Goals as goal

pub bounds-nums-at : goal.bounds-nums-at
bounds-nums-at c = omega (arith, local-room _ _ _ _ c.requires)

pub overflow_add-slot : goal.overflow_add-slot
overflow_add-slot c = omega (arith, local-room _ _ _ _ c.requires)

pub offset_bounds-frame-slot : goal.offset_bounds-frame-slot
offset_bounds-frame-slot c = omega (arith, local-room _ _ _ _ c.requires)

pub bounds-frame-slot : goal.bounds-frame-slot
bounds-frame-slot c = omega (arith, local-room _ _ _ _ c.requires)

pub returns : goal.returns
returns c = search (writings, rules)
