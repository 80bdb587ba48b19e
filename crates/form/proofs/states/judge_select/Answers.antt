-- What carries it: a select's names, then what stands behind them.
use Rattle.std.proofs.lemmas.Result.{err_from_is_err_and}
use Rattle.form.proofs.OfStates.{selecting}
use borrow.Author.Rules.{rules}
use Rattle.form.proofs.states.judge_select.Goals as goal

pub returns-in_err-judge_pairs : goal.returns-in_err-judge_pairs
returns-in_err-judge_pairs c = let p = err_from_is_err_and c.from_residual.result c.from_residual.ensures.1 in rw (p.1, p.2) (search (selecting, c.in_err-judge_pairs.ensures, rules))

pub returns : goal.returns
returns c = search (selecting, c.in_ok-judge_pairs.ensures, rules)
