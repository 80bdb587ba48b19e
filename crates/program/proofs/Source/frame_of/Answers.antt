-- What carries it: what stands where the directory says.
use Rattle.program.proofs.Found.{looks, room}
use native.Mathlib.Omega.{arith}
use borrow.Author.Rules.{rules}
use Rattle.program.proofs.Source.frame_of.Goals as goal

pub overflow_add-at-2 : goal.overflow_add-at-2
overflow_add-at-2 c = omega (arith, room _ _ _ _ c.requires)

pub offset_bounds-self-f : goal.offset_bounds-self-f
offset_bounds-self-f c = omega (arith, room _ _ _ _ c.requires)

pub bounds-self-f : goal.bounds-self-f
bounds-self-f c = omega (arith, room _ _ _ _ c.requires)

pub overflow_add-counted : goal.overflow_add-counted
overflow_add-counted c = omega (arith, room _ _ _ _ c.requires)

pub offset_bounds-self-at : goal.offset_bounds-self-at
offset_bounds-self-at c = omega (arith, room _ _ _ _ c.requires)

pub bounds-self-at : goal.bounds-self-at
bounds-self-at c = omega (arith, room _ _ _ _ c.requires)

pub overflow_add-counted-2 : goal.overflow_add-counted-2
overflow_add-counted-2 c = omega (arith, room _ _ _ _ c.requires)

pub overflow_add-locals : goal.overflow_add-locals
overflow_add-locals c = omega (arith, room _ _ _ _ c.requires)

pub offset_bounds-self-counted : goal.offset_bounds-self-counted
offset_bounds-self-counted c = omega (arith, room _ _ _ _ c.requires)

pub bounds-self-counted : goal.bounds-self-counted
bounds-self-counted c = omega (arith, room _ _ _ _ c.requires)

pub overflow_mul-locals : goal.overflow_mul-locals
overflow_mul-locals c = omega (arith, room _ _ _ _ c.requires)

pub overflow_add-locals-2 : goal.overflow_add-locals-2
overflow_add-locals-2 c = omega (arith, room _ _ _ _ c.requires)

pub offset_bounds-self-locals : goal.offset_bounds-self-locals
offset_bounds-self-locals c = omega (arith, room _ _ _ _ c.requires)

pub bounds-self-locals : goal.bounds-self-locals
bounds-self-locals c = omega (arith, room _ _ _ _ c.requires)

pub overflow_add-result : goal.overflow_add-result
overflow_add-result c = omega (arith, room _ _ _ _ c.requires)

pub overflow_add-result-2 : goal.overflow_add-result-2
overflow_add-result-2 c = omega (arith, room _ _ _ _ c.requires)

pub overflow_add-result-3 : goal.overflow_add-result-3
overflow_add-result-3 c = omega (arith, room _ _ _ _ c.requires)

pub returns : goal.returns
returns c = search (looks, rules)
