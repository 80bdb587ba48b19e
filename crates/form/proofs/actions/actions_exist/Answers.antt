-- Numbers that name callables. What carries it: the steps over a number; the count falls.
use Rattle.std.proofs.lemmas.Result.{err_from_is_err_and}
use borrow.Author.Rules.{rules}
use Rattle.form.proofs.OfActions.{existing}
use Rattle.form.proofs.actions.actions_exist.Goals as goal

pub overflow_add-action-end : goal.overflow_add-action-end
overflow_add-action-end c = search (existing, rules)

pub loop-action-init : goal.loop-action-init
loop-action-init c = search (existing, rules)

pub offset_bounds-source-action : goal.offset_bounds-source-action
offset_bounds-source-action c = search (existing, rules)

pub bounds-source-action : goal.bounds-source-action
bounds-source-action c = search (existing, rules)

pub returns-in_err-rule : goal.returns-in_err-rule
returns-in_err-rule c = let p = err_from_is_err_and c.from_residual.result c.from_residual.ensures.1 in rw (p.1, p.2) (search (existing, c.in_err-rule.ensures, rules))

pub loop-action-preserved : goal.loop-action-preserved
loop-action-preserved c = search (existing, c.in_ok-rule.ensures, rules)

pub returns : goal.returns
returns c = search (existing, rules)
