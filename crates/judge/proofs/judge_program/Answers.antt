-- What carries it: what form leaves is what the ceiling and the lists ask.
use Rattle.std.proofs.lemmas.Result.{err_from_is_err_and}
use Rattle.judge.proofs.Passes.{formed}
use borrow.Author.Rules.{rules}
use Rattle.judge.proofs.judge_program.Goals as goal

pub judge_bounded-requires : goal.judge_bounded-requires
judge_bounded-requires c = search (formed, c.in_ok-judge_form.ensures, rules)

pub returns : goal.returns
returns c = search (formed, c.in_ok-judge_form.ensures, rules)

pub returns-in_err-judge_form : goal.returns-in_err-judge_form
returns-in_err-judge_form c = let p = err_from_is_err_and c.from_residual.result c.from_residual.ensures.1 in rw (p.1, p.2) (search (formed, c.in_err-judge_form.ensures, rules))
