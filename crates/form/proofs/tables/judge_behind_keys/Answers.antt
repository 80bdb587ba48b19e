-- What carries it: the default's literals, then the kinds.
use Rattle.std.proofs.lemmas.Result.{err_from_is_err_and}
use Rattle.form.proofs.OfDefaults.{behind}
use borrow.Author.Rules.{rules}
use Rattle.form.proofs.tables.judge_behind_keys.Goals as goal

pub returns-in_err-judge_default : goal.returns-in_err-judge_default
returns-in_err-judge_default c = let p = err_from_is_err_and c.from_residual.result c.from_residual.ensures.1 in rw (p.1, p.2) (search (behind, c.in_err-judge_default.ensures, rules))

pub returns : goal.returns
returns c = search (behind, c.in_ok-judge_default.ensures, rules)
