-- What carries it: the parameters that are left, and how arguments are held against them.
use Rattle.bodies.proofs.Calling.{wanting, wanted-type-inside}
use native.Mathlib.Omega.{arith}
use borrow.Author.Rules.{rules}
use Rattle.bodies.proofs.calls.wanted_at.Goals as goal

pub offset_bounds-nums-parameters : goal.offset_bounds-nums-parameters
offset_bounds-nums-parameters c = search (wanting, rules)

pub bounds-nums-parameters : goal.bounds-nums-parameters
bounds-nums-parameters c = search (wanting, rules)

pub overflow_add-parameter : goal.overflow_add-parameter
overflow_add-parameter c = omega (arith, wanted-type-inside _ _ _ c.requires c.if-left-eq0.false)

pub offset_bounds-nums-parameters-else-left-eq0 : goal.offset_bounds-nums-parameters-else-left-eq0
offset_bounds-nums-parameters-else-left-eq0 c = search (wanting, rules)

pub bounds-nums-parameters-else-left-eq0 : goal.bounds-nums-parameters-else-left-eq0
bounds-nums-parameters-else-left-eq0 c = search (wanting, rules)

pub overflow_add-result : goal.overflow_add-result
overflow_add-result c = omega (arith, wanted-type-inside _ _ _ c.requires c.if-left-eq0.false)

pub returns-then-left-eq0 : goal.returns-then-left-eq0
returns-then-left-eq0 c = search (wanting, rules)

pub returns-else-left-eq0 : goal.returns-else-left-eq0
returns-else-left-eq0 c = search (wanting, rules)
