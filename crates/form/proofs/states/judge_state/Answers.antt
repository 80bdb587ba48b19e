-- What carries it: the statement in its scope, then the transition.
use Rattle.std.proofs.lemmas.Result.{err_from_is_err_and}
use Rattle.form.proofs.OfStates.{states}
use borrow.Author.Rules.{rules}
use Rattle.form.proofs.states.judge_state.Goals as goal

pub judge_stmt-requires : goal.judge_stmt-requires
judge_stmt-requires c = search (states, rules)

pub returns-in_err-judge_stmt : goal.returns-in_err-judge_stmt
returns-in_err-judge_stmt c = let p = err_from_is_err_and c.from_residual.result c.from_residual.ensures.1 in rw (p.1, p.2) (search (states, c.in_err-judge_stmt.ensures, rules))

pub offset_bounds-source-at : goal.offset_bounds-source-at
offset_bounds-source-at c = search (states, c.in_ok-judge_stmt.ensures, rules)

pub bounds-source-at : goal.bounds-source-at
bounds-source-at c = search (states, c.in_ok-judge_stmt.ensures, rules)

pub judge_transition-requires : goal.judge_transition-requires
judge_transition-requires c = search (states, rules)

pub returns : goal.returns
returns c = search (states, c.in_ok-judge_stmt.ensures, rules)
