-- What carries it: an entry behind its table's number is its patterns and its action.
use Rattle.std.proofs.lemmas.Result.{err_from_is_err_and}
use Rattle.lists.proofs.Tables.{tables}
use borrow.Author.Rules.{rules}
use Rattle.lists.proofs.entries.of_table_at.Goals as goal

pub table_of-parts-requires : goal.table_of-parts-requires
table_of-parts-requires c = search (tables, rules)

pub overflow_add-table : goal.overflow_add-table
overflow_add-table c = search (tables, rules)

pub offset_bounds-source-table : goal.offset_bounds-source-table
offset_bounds-source-table c = search (tables, rules)

pub bounds-source-table : goal.bounds-source-table
bounds-source-table c = search (tables, rules)

pub patterns_at-requires : goal.patterns_at-requires
patterns_at-requires c = search (tables, rules)

pub returns-in_err-next : goal.returns-in_err-next
returns-in_err-next c = let p = err_from_is_err_and c.from_residual.result c.from_residual.ensures.1 in rw (p.1, p.2) (search (tables, c.in_err-next.ensures, rules))

pub action_at-requires : goal.action_at-requires
action_at-requires c = search (tables, rules)

pub returns : goal.returns
returns c = search (tables, c.in_ok-next.ensures, rules)
