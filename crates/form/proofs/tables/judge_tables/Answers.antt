-- Tables one after the other. What carries it: the steps over a table; fewer are left.
use Rattle.std.proofs.lemmas.Result.{err_from_is_err_and}
use borrow.Author.Rules.{rules}
use Rattle.form.proofs.OfTables.{walked}
use Rattle.form.proofs.tables.judge_tables.Goals as goal

pub loop-t-init : goal.loop-t-init
loop-t-init c = search (walked, rules)

pub judge_table-requires : goal.judge_table-requires
judge_table-requires c = search (walked, rules)

pub returns-in_err-judge_table : goal.returns-in_err-judge_table
returns-in_err-judge_table c = let p = err_from_is_err_and c.from_residual.result c.from_residual.ensures.1 in rw (p.1, p.2) (search (walked, c.in_err-judge_table.ensures, rules))

pub loop-t-preserved : goal.loop-t-preserved
loop-t-preserved c = search (walked, c.in_ok-judge_table.ensures, rules)

pub returns : goal.returns
returns c = search (walked, rules)
