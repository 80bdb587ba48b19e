-- What carries it: what stands where the directory says.
use Rattle.program.proofs.Found.{looks, table-room, actions-most}
use native.Mathlib.Omega.{arith}
use borrow.Author.Rules.{rules}
use Rattle.program.proofs.Source.table_of.Goals as goal

pub overflow_add-at-2 : goal.overflow_add-at-2
overflow_add-at-2 c = omega (arith, table-room _ _ _ _ c.requires)

pub offset_bounds-self-t : goal.offset_bounds-self-t
offset_bounds-self-t c = omega (arith, table-room _ _ _ _ c.requires)

pub bounds-self-t : goal.bounds-self-t
bounds-self-t c = omega (arith, table-room _ _ _ _ c.requires)

pub overflow_add-at-3 : goal.overflow_add-at-3
overflow_add-at-3 c = omega (arith, table-room _ _ _ _ c.requires)

pub offset_bounds-self-at : goal.offset_bounds-self-at
offset_bounds-self-at c = omega (arith, table-room _ _ _ _ c.requires)

pub bounds-self-at : goal.bounds-self-at
bounds-self-at c = omega (arith, table-room _ _ _ _ c.requires)

pub behind_keys-actions-requires : goal.behind_keys-actions-requires
behind_keys-actions-requires c = search (looks, rules)

pub overflow_add-result : goal.overflow_add-result
overflow_add-result c = omega (arith, table-room _ _ _ _ c.requires)

pub offset_bounds-self-actions : goal.offset_bounds-self-actions
offset_bounds-self-actions c = omega (arith, table-room _ _ _ _ c.requires)

pub bounds-self-actions : goal.bounds-self-actions
bounds-self-actions c = omega (arith, table-room _ _ _ _ c.requires)

pub overflow_add-result-2 : goal.overflow_add-result-2
overflow_add-result-2 c = omega (arith, table-room _ _ _ _ c.requires, actions-most _ _ _ _ _ c.requires c.behind_keys-actions.ensures)

pub returns : goal.returns
returns c = search (looks, rules)
