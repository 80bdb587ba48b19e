-- What carries it: what stands where the directory says.
use Rattle.program.proofs.Found.{looks, room}
use native.Mathlib.Omega.{arith}
use borrow.Author.Rules.{rules}
use Rattle.program.proofs.Source.head_of.Goals as goal

pub overflow_add-at-2 : goal.overflow_add-at-2
overflow_add-at-2 c = omega (arith, room _ _ _ _ c.requires)

pub offset_bounds-self-f : goal.offset_bounds-self-f
offset_bounds-self-f c = omega (arith, room _ _ _ _ c.requires)

pub bounds-self-f : goal.bounds-self-f
bounds-self-f c = omega (arith, room _ _ _ _ c.requires)

pub offset_bounds-self-at : goal.offset_bounds-self-at
offset_bounds-self-at c = omega (arith, room _ _ _ _ c.requires)

pub bounds-self-at : goal.bounds-self-at
bounds-self-at c = omega (arith, room _ _ _ _ c.requires)

pub overflow_add-result : goal.overflow_add-result
overflow_add-result c = omega (arith, room _ _ _ _ c.requires)

pub overflow_add-result-then-self-at-eq0 : goal.overflow_add-result-then-self-at-eq0
overflow_add-result-then-self-at-eq0 c = omega (arith, room _ _ _ _ c.requires)

pub offset_bounds-self-at-then-self-at-eq0 : goal.offset_bounds-self-at-then-self-at-eq0
offset_bounds-self-at-then-self-at-eq0 c = omega (arith, room _ _ _ _ c.requires)

pub bounds-self-at-then-self-at-eq0 : goal.bounds-self-at-then-self-at-eq0
bounds-self-at-then-self-at-eq0 c = omega (arith, room _ _ _ _ c.requires)

pub bounds-self-at-else-self-at-eq0 : goal.bounds-self-at-else-self-at-eq0
bounds-self-at-else-self-at-eq0 c = omega (arith, room _ _ _ _ c.requires)

pub bounds-self-at-else-self-at-eq0-2 : goal.bounds-self-at-else-self-at-eq0-2
bounds-self-at-else-self-at-eq0-2 c = omega (arith, room _ _ _ _ c.requires)

pub returns-then-self-at-eq0 : goal.returns-then-self-at-eq0
returns-then-self-at-eq0 c = search (looks, rules)

pub returns-else-self-at-eq0 : goal.returns-else-self-at-eq0
returns-else-self-at-eq0 c = search (looks, rules)
