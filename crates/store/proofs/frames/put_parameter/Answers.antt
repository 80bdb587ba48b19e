-- What carries it: what a parameter that is set makes of the state.
use Rattle.store.proofs.Writing.{writings}
use Rattle.store.proofs.Framing.{parameter-room}
use native.Mathlib.Omega.{arith}
use borrow.Author.Rules.{rules}
use Rattle.store.proofs.frames.put_parameter.Goals as goal

pub bounds-nums-at : goal.bounds-nums-at
bounds-nums-at c = omega (arith, parameter-room _ _ _ _ c.requires)

pub offset_bounds-frame-i : goal.offset_bounds-frame-i
offset_bounds-frame-i c = omega (arith, parameter-room _ _ _ _ c.requires)

pub bounds-frame-i : goal.bounds-frame-i
bounds-frame-i c = omega (arith, parameter-room _ _ _ _ c.requires)

pub returns : goal.returns
returns c = search (writings, rules)
