-- What carries it: the keys with their widths, then what stands behind.
use Rattle.std.proofs.lemmas.Result.{err_from_is_err_and}
use Rattle.form.proofs.OfTables.{laying}
use borrow.Author.Rules.{rules}
use Rattle.form.proofs.tables.judge_behind_names.Goals as goal

pub returns-in_err-judge_keys : goal.returns-in_err-judge_keys
returns-in_err-judge_keys c = let p = err_from_is_err_and c.from_residual.result c.from_residual.ensures.1 in rw (p.1, p.2) (search (laying, c.in_err-judge_keys.ensures, rules))

pub returns-in-None : goal.returns-in-None
returns-in-None c = search (laying, c.in_ok-judge_keys.ensures, rules)

pub returns-in-Some : goal.returns-in-Some
returns-in-Some c = search (laying, c.in_ok-judge_keys.ensures, rules)
