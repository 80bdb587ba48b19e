-- What carries it: the listed actions, then the default's position among them.
use Rattle.std.proofs.lemmas.Result.{err_from_is_err_and}
use Rattle.form.proofs.OfNames.{names}
use borrow.Author.Rules.{rules}
use Rattle.form.proofs.tables.judge_names.Goals as goal

pub returns-in_err-actions_exist : goal.returns-in_err-actions_exist
returns-in_err-actions_exist c = let p = err_from_is_err_and c.from_residual.result c.from_residual.ensures.1 in rw (p.1, p.2) (search (names, c.in_err-actions_exist.ensures, rules))

pub returns : goal.returns
returns c = search (names, c.in_ok-actions_exist.ensures, rules)
