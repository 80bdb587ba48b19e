-- What carries it: the body in its scope, then that a function returns on each path.
use Rattle.std.proofs.lemmas.Result.{err_from_is_err_and}
use Rattle.form.proofs.OfCallables.{callables}
use borrow.Author.Rules.{rules}
use Rattle.form.proofs.callables.judge_callable.Goals as goal

pub judge_stmt-requires : goal.judge_stmt-requires
judge_stmt-requires c = search (callables, rules)

pub returns-in_err-returns : goal.returns-in_err-returns
returns-in_err-returns c = let p = err_from_is_err_and c.from_residual.result c.from_residual.ensures.1 in rw (p.1, p.2) (search (callables, c.in_err-returns.ensures, rules))

pub overflow_add-at-2 : goal.overflow_add-at-2
overflow_add-at-2 c = search (callables, c.in_ok-returns.ensures, rules)

pub offset_bounds-source-n : goal.offset_bounds-source-n
offset_bounds-source-n c = search (callables, c.in_ok-returns.ensures, rules)

pub bounds-source-n : goal.bounds-source-n
bounds-source-n c = search (callables, c.in_ok-returns.ensures, rules)

pub returns : goal.returns
returns c = search (callables, c.in_ok-returns.ensures, rules)
