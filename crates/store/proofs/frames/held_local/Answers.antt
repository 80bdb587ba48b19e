-- What carries it: where a local stands.
use Rattle.store.proofs.Framing.{frames, local-room}
use native.Mathlib.Omega.{arith}
use borrow.Author.Rules.{rules}
use Rattle.store.proofs.frames.held_local.Goals as goal

pub bounds-nums-at : goal.bounds-nums-at
bounds-nums-at c = omega (arith, local-room _ _ _ _ c.requires)

pub overflow_add-result : goal.overflow_add-result
overflow_add-result c = omega (arith, local-room _ _ _ _ c.requires)

pub offset_bounds-nums-scope : goal.offset_bounds-nums-scope
offset_bounds-nums-scope c = omega (arith, local-room _ _ _ _ c.requires)

pub bounds-nums-scope : goal.bounds-nums-scope
bounds-nums-scope c = omega (arith, local-room _ _ _ _ c.requires)

pub overflow_add-result-2 : goal.overflow_add-result-2
overflow_add-result-2 c = omega (arith, local-room _ _ _ _ c.requires)

pub offset_bounds-frame-scope : goal.offset_bounds-frame-scope
offset_bounds-frame-scope c = omega (arith, local-room _ _ _ _ c.requires)

pub bounds-frame-scope : goal.bounds-frame-scope
bounds-frame-scope c = omega (arith, local-room _ _ _ _ c.requires)

pub returns : goal.returns
returns c = search (frames, rules)
