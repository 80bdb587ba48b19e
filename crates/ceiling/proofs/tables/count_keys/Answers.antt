-- What carries it: what is summed so far and what is left.
use native.Mathlib.Omega.{arith}
use borrow.Author.Rules.{rules}
use Rattle.ceiling.proofs.CountingTables.{counting_keys, keys-room}
use Rattle.ceiling.proofs.tables.count_keys.Goals as goal

pub loop-init : goal.loop-init
loop-init c = search (counting_keys, rules)

pub overflow_add-key : goal.overflow_add-key
overflow_add-key c = omega (arith, keys-room _ _ _ _ _ _ _ _ _ _ _ c.loop.invariant c.loop-test.true)

pub offset_bounds-source-key : goal.offset_bounds-source-key
offset_bounds-source-key c = omega (arith, keys-room _ _ _ _ _ _ _ _ _ _ _ c.loop.invariant c.loop-test.true)

pub bounds-source-key : goal.bounds-source-key
bounds-source-key c = omega (arith, keys-room _ _ _ _ _ _ _ _ _ _ _ c.loop.invariant c.loop-test.true)

pub count_expr-one-requires : goal.count_expr-one-requires
count_expr-one-requires c = search (counting_keys, rules)

pub loop-preserved : goal.loop-preserved
loop-preserved c = search (counting_keys, rules)

pub returns : goal.returns
returns c = search (counting_keys, rules)
