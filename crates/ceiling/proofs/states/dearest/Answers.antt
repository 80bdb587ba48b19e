-- What carries it: the dearest so far and what is left.
use native.Mathlib.Omega.{arith}
use borrow.Author.Rules.{rules}
use Rattle.ceiling.proofs.CountingStates.{pairs_counted, pairs-next}
use Rattle.ceiling.proofs.states.dearest.Goals as goal

pub overflow_mul-i : goal.overflow_mul-i
overflow_mul-i c = omega (arith, pairs-next _ _ _ _ _ _ c.loop-i.invariant c.loop-i-test.true)

pub overflow_add-at : goal.overflow_add-at
overflow_add-at c = omega (arith, pairs-next _ _ _ _ _ _ c.loop-i.invariant c.loop-i-test.true)

pub overflow_add-at-in-loop-i : goal.overflow_add-at-in-loop-i
overflow_add-at-in-loop-i c = search (pairs_counted, rules)

pub offset_bounds-nums-at : goal.offset_bounds-nums-at
offset_bounds-nums-at c = search (pairs_counted, rules)

pub bounds-nums-at : goal.bounds-nums-at
bounds-nums-at c = search (pairs_counted, rules)

pub loop-i-preserved : goal.loop-i-preserved
loop-i-preserved c = search (pairs_counted, rules)

pub returns : goal.returns
returns c = search (pairs_counted, rules)
