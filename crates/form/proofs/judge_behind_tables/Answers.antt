-- What carries it: the states, then the apply body.
use Rattle.std.proofs.lemmas.Result.{err_from_is_err_and}
use Rattle.form.proofs.Whole.{behinds}
use borrow.Author.Rules.{rules}
use Rattle.form.proofs.judge_behind_tables.Goals as goal

pub returns-in_err-judge_states : goal.returns-in_err-judge_states
returns-in_err-judge_states c = let p = err_from_is_err_and c.from_residual.result c.from_residual.ensures.1 in rw (p.1, p.2) (search (behinds, c.in_err-judge_states.ensures, rules))

pub returns : goal.returns
returns c = search (behinds, c.in_ok-judge_states.ensures, rules)
