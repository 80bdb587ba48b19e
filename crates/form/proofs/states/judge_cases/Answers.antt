-- What carries it: a select's expression, then its values.
use Rattle.std.proofs.lemmas.Result.{err_from_is_err_and}
use Rattle.form.proofs.OfStates.{selecting, select-values}
use borrow.Author.Rules.{rules}
use Rattle.form.proofs.states.judge_cases.Goals as goal

pub judge_expr-requires : goal.judge_expr-requires
judge_expr-requires c = search (selecting, rules)

pub returns-in_err-t : goal.returns-in_err-t
returns-in_err-t c = let p = err_from_is_err_and c.from_residual.result c.from_residual.ensures.1 in rw (p.1, p.2) (search (selecting, c.in_err-t.ensures, rules))

pub values_fit-requires : goal.values_fit-requires
values_fit-requires c = select-values _ _ _ _ c.requires _ (rw c.without_frame-scope.ensures at c.in_ok-t.ensures)

pub returns-then-t-eq0 : goal.returns-then-t-eq0
returns-then-t-eq0 c = search (selecting, c.in_ok-t.ensures, rules)

pub returns-else-t-eq0 : goal.returns-else-t-eq0
returns-else-t-eq0 c = search (selecting, c.in_ok-t.ensures, rules)
