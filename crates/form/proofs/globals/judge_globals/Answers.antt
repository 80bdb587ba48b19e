-- What carries it: globals one after the other.
use Rattle.std.proofs.lemmas.Result.{err_from_is_err_and}
use borrow.Author.Rules.{rules}
use Rattle.form.proofs.OfGlobals.{globals-walk}
use Rattle.form.proofs.Walking.{walking}
use Rattle.form.proofs.globals.judge_globals.Goals as goal

pub judge_global-requires : goal.judge_global-requires
judge_global-requires c = search (walking, globals-walk, rules)

pub returns-in_err-judge_global : goal.returns-in_err-judge_global
returns-in_err-judge_global c = let p = err_from_is_err_and c.from_residual.result c.from_residual.ensures.1 in rw (p.1, p.2) (search (walking, globals-walk, c.in_err-judge_global.ensures, rules))

pub loop-g-preserved : goal.loop-g-preserved
loop-g-preserved c = search (walking, globals-walk, c.in_ok-judge_global.ensures, rules)

pub returns : goal.returns
returns c = search (walking, globals-walk, rules)
