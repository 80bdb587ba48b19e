-- What carries it: the largest so far and what is left.
use borrow.Author.Rules.{rules}
use Rattle.ceiling.proofs.CountingTables.{counting_actions}
use Rattle.ceiling.proofs.tables.largest.Goals as goal

pub overflow_add-at : goal.overflow_add-at
overflow_add-at c = search (counting_actions, rules)

pub offset_bounds-source-at : goal.offset_bounds-source-at
offset_bounds-source-at c = search (counting_actions, rules)

pub bounds-source-at : goal.bounds-source-at
bounds-source-at c = search (counting_actions, rules)

pub loop-i-preserved : goal.loop-i-preserved
loop-i-preserved c = search (counting_actions, rules)

pub returns : goal.returns
returns c = search (counting_actions, rules)
