-- What carries it: where a parameter stands.
use Rattle.store.proofs.Framing.{frames, parameter-room}
use native.Mathlib.Omega.{arith}
use borrow.Author.Rules.{rules}
use Rattle.store.proofs.frames.held_parameter.Goals as goal

pub bounds-nums-at : goal.bounds-nums-at
bounds-nums-at c = omega (arith, parameter-room _ _ _ _ c.requires)

pub overflow_mul-result : goal.overflow_mul-result
overflow_mul-result c = omega (arith, parameter-room _ _ _ _ c.requires)

pub overflow_add-result : goal.overflow_add-result
overflow_add-result c = omega (arith, parameter-room _ _ _ _ c.requires)

pub overflow_add-result-2 : goal.overflow_add-result-2
overflow_add-result-2 c = omega (arith, parameter-room _ _ _ _ c.requires)

pub offset_bounds-nums-scope : goal.offset_bounds-nums-scope
offset_bounds-nums-scope c = omega (arith, parameter-room _ _ _ _ c.requires)

pub bounds-nums-scope : goal.bounds-nums-scope
bounds-nums-scope c = omega (arith, parameter-room _ _ _ _ c.requires)

pub offset_bounds-frame-i : goal.offset_bounds-frame-i
offset_bounds-frame-i c = omega (arith, parameter-room _ _ _ _ c.requires)

pub bounds-frame-i : goal.bounds-frame-i
bounds-frame-i c = omega (arith, parameter-room _ _ _ _ c.requires)

pub returns : goal.returns
returns c = search (frames, rules)
