-- What carries it: what is left of the keys ends where all of them do.
use native.Mathlib.Omega.{arith}
use borrow.Author.Rules.{rules}
use Rattle.program.proofs.Found.{key-inside, stepping}
use Rattle.program.proofs.Source.behind_keys.Goals as goal

pub overflow_add-next : goal.overflow_add-next
overflow_add-next c = omega (arith, key-inside _ _ _ _ _ c.loop.invariant c.loop-test.true)

pub offset_bounds-self-next : goal.offset_bounds-self-next
offset_bounds-self-next c = search (stepping, rules)

pub bounds-self-next : goal.bounds-self-next
bounds-self-next c = search (stepping, rules)

pub loop-preserved : goal.loop-preserved
loop-preserved c = search (stepping, rules)

pub returns : goal.returns
returns c = search (stepping, rules)
