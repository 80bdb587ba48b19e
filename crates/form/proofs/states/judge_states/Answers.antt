-- What carries it: states one after the other.
use Rattle.std.proofs.lemmas.Result.{err_from_is_err_and}
use borrow.Author.Rules.{rules}
use Rattle.form.proofs.OfStates.{states-walk}
use Rattle.form.proofs.Walking.{walking}
use Rattle.form.proofs.states.judge_states.Goals as goal

pub judge_state-requires : goal.judge_state-requires
judge_state-requires c = search (walking, states-walk, rules)

pub returns-in_err-judge_state : goal.returns-in_err-judge_state
returns-in_err-judge_state c = let p = err_from_is_err_and c.from_residual.result c.from_residual.ensures.1 in rw (p.1, p.2) (search (walking, states-walk, c.in_err-judge_state.ensures, rules))

pub loop-n-preserved : goal.loop-n-preserved
loop-n-preserved c = search (walking, states-walk, c.in_ok-judge_state.ensures, rules)

pub returns : goal.returns
returns c = search (walking, states-walk, rules)
