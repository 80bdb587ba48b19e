-- What carries it: at most one lpm key, then what a table may list.
use Rattle.std.proofs.lemmas.Result.{err_from_is_err_and}
use Rattle.form.proofs.OfDefaults.{kinds}
use borrow.Author.Rules.{rules}
use Rattle.form.proofs.tables.judge_kinds.Goals as goal

pub returns-in_err-one_lpm : goal.returns-in_err-one_lpm
returns-in_err-one_lpm c = let p = err_from_is_err_and c.from_residual.result c.from_residual.ensures.1 in rw (p.1, p.2) (search (kinds, c.in_err-one_lpm.ensures, rules))

pub returns : goal.returns
returns c = search (kinds, c.in_ok-one_lpm.ensures, rules)
