-- What carries it: the apply body in its scope.
use Rattle.std.proofs.lemmas.Result.{err_from_is_err_and}
use Rattle.form.proofs.Whole.{applying}
use borrow.Author.Rules.{rules}
use Rattle.form.proofs.judge_apply.Goals as goal

pub judge_stmt-requires : goal.judge_stmt-requires
judge_stmt-requires c = search (applying, rules)

pub returns-in_err-judge_stmt : goal.returns-in_err-judge_stmt
returns-in_err-judge_stmt c = let p = err_from_is_err_and c.from_residual.result c.from_residual.ensures.1 in rw (p.1, p.2) (search (applying, c.in_err-judge_stmt.ensures, rules))

pub returns : goal.returns
returns c = search (applying, c.in_ok-judge_stmt.ensures, rules)
