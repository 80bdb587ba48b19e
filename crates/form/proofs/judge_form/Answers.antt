-- What carries it: the globals, the callables, then the rest.
use Rattle.std.proofs.lemmas.Result.{err_from_is_err_and}
use Rattle.form.proofs.Whole.{forming}
use borrow.Author.Rules.{rules}
use Rattle.form.proofs.judge_form.Goals as goal

pub returns-in_err-judge_globals : goal.returns-in_err-judge_globals
returns-in_err-judge_globals c = let p = err_from_is_err_and c.from_residual.result c.from_residual.ensures.1 in rw (p.1, p.2) (search (forming, c.in_err-judge_globals.ensures, rules))

pub returns-in_err-judge_callables : goal.returns-in_err-judge_callables
returns-in_err-judge_callables c = let p = err_from_is_err_and c.from_residual-in_err-judge_callables.result c.from_residual-in_err-judge_callables.ensures.1 in rw (p.1, p.2) (search (forming, c.in_ok-judge_globals.ensures, c.in_err-judge_callables.ensures, rules))

pub returns : goal.returns
returns c = search (forming, c.in_ok-judge_globals.ensures, c.in_ok-judge_callables.ensures, rules)
