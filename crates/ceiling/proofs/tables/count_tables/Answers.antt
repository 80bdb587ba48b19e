-- What carries it: what the tables that are left leave, all do.
use borrow.Author.Rules.{rules}
use Rattle.ceiling.proofs.CountingTables.{counting_tables}
use Rattle.ceiling.proofs.tables.count_tables.Goals as goal

pub loop-t-preserved : goal.loop-t-preserved
loop-t-preserved c = search (counting_tables, rules)
