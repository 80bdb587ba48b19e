-- What carries it: the tables, then what stands behind them.
use Rattle.std.proofs.lemmas.Result.{err_from_is_err_and}
use Rattle.form.proofs.Whole.{resting}
use borrow.Author.Rules.{rules}
use Rattle.form.proofs.judge_rest.Goals as goal

pub returns-in_err-judge_tables : goal.returns-in_err-judge_tables
returns-in_err-judge_tables c = let p = err_from_is_err_and c.from_residual.result c.from_residual.ensures.1 in rw (p.1, p.2) (search (resting, c.in_err-judge_tables.ensures, rules))

pub returns-in_err-judge_behind_tables : goal.returns-in_err-judge_behind_tables
returns-in_err-judge_behind_tables c = let p = err_from_is_err_and c.from_residual-in_err-judge_behind_tables.result c.from_residual-in_err-judge_behind_tables.ensures.1 in rw (p.1, p.2) (search (resting, c.in_ok-judge_tables.ensures, c.in_err-judge_behind_tables.ensures, rules))

pub returns : goal.returns
returns c = search (resting, c.in_ok-judge_tables.ensures, c.in_ok-judge_behind_tables.ensures, rules)
