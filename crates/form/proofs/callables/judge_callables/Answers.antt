-- What carries it: callables one after the other.
use Rattle.std.proofs.lemmas.Result.{err_from_is_err_and}
use borrow.Author.Rules.{rules}
use Rattle.form.proofs.OfCallables.{callables-walk}
use Rattle.form.proofs.Walking.{walking}
use Rattle.form.proofs.callables.judge_callables.Goals as goal

pub judge_callable-requires : goal.judge_callable-requires
judge_callable-requires c = search (walking, callables-walk, rules)

pub returns-in_err-judge_callable : goal.returns-in_err-judge_callable
returns-in_err-judge_callable c = let p = err_from_is_err_and c.from_residual.result c.from_residual.ensures.1 in rw (p.1, p.2) (search (walking, callables-walk, c.in_err-judge_callable.ensures, rules))

pub loop-n-preserved : goal.loop-n-preserved
loop-n-preserved c = search (walking, callables-walk, c.in_ok-judge_callable.ensures, rules)

pub returns : goal.returns
returns c = search (walking, callables-walk, rules)
