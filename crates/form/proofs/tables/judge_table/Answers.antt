-- What carries it: the names, then what stands behind.
use Rattle.std.proofs.lemmas.Result.{err_from_is_err_and}
use Rattle.form.proofs.OfTables.{tabled}
use borrow.Author.Rules.{rules}
use Rattle.form.proofs.tables.judge_table.Goals as goal

pub judge_names-requires : goal.judge_names-requires
judge_names-requires c = search (tabled, rules)

pub returns-in_err-judge_names : goal.returns-in_err-judge_names
returns-in_err-judge_names c = let p = err_from_is_err_and c.from_residual.result c.from_residual.ensures.1 in rw (p.1, p.2) (search (tabled, c.in_err-judge_names.ensures, rules))

pub judge_behind_names-requires : goal.judge_behind_names-requires
judge_behind_names-requires c = search (tabled, c.in_ok-judge_names.ensures, rules)

pub returns : goal.returns
returns c = search (tabled, c.in_ok-judge_names.ensures, rules)
