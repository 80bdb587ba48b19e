-- What carries it: where a table's keys and actions stand.
use Rattle.ceiling.proofs.CountingTables.{counting_table, table-room, actions-room, table-actions}
use native.Mathlib.Omega.{arith}
use borrow.Author.Rules.{rules}
use Rattle.ceiling.proofs.tables.count_table.Goals as goal

pub table_of-parts-requires : goal.table_of-parts-requires
table_of-parts-requires c = search (counting_table, rules)

pub overflow_add-at : goal.overflow_add-at
overflow_add-at c = omega (arith, table-room _ _ _ _ _ _ c.requires _ _ _ c.table_of-parts.ensures)

pub offset_bounds-source-at : goal.offset_bounds-source-at
offset_bounds-source-at c = omega (arith, table-room _ _ _ _ _ _ c.requires _ _ _ c.table_of-parts.ensures)

pub bounds-source-at : goal.bounds-source-at
bounds-source-at c = omega (arith, table-room _ _ _ _ _ _ c.requires _ _ _ c.table_of-parts.ensures)

pub count_keys-keys-requires : goal.count_keys-keys-requires
count_keys-keys-requires c = search (counting_table, rules)

pub overflow_add-actions : goal.overflow_add-actions
overflow_add-actions c = omega (arith, actions-room _ _ _ _ _ _ c.requires _ _ _ c.table_of-parts.ensures)

pub offset_bounds-source-actions : goal.offset_bounds-source-actions
offset_bounds-source-actions c = omega (arith, actions-room _ _ _ _ _ _ c.requires _ _ _ c.table_of-parts.ensures)

pub bounds-source-actions : goal.bounds-source-actions
bounds-source-actions c = omega (arith, actions-room _ _ _ _ _ _ c.requires _ _ _ c.table_of-parts.ensures)

pub largest-run-requires : goal.largest-run-requires
largest-run-requires c = table-actions _ _ _ _ _ _ c.requires _ _ _ c.table_of-parts.ensures _ _ c.count_keys-keys.ensures

pub returns : goal.returns
returns c = search (counting_table, rules)
