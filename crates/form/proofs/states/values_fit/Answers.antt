-- The values of pairs. What carries it: the steps over a pair; the count falls.
use Rattle.std.proofs.lemmas.Result.{err_from_is_err_and}
use borrow.Author.Rules.{rules}
use Rattle.form.proofs.OfPairs.{values}
use Rattle.form.proofs.states.values_fit.Goals as goal

pub loop-i-init : goal.loop-i-init
loop-i-init c = search (values, rules)

pub overflow_mul-value : goal.overflow_mul-value
overflow_mul-value c = search (values, rules)

pub overflow_add-value : goal.overflow_add-value
overflow_add-value c = search (values, rules)

pub offset_bounds-nums-value : goal.offset_bounds-nums-value
offset_bounds-nums-value c = search (values, rules)

pub bounds-nums-value : goal.bounds-nums-value
bounds-nums-value c = search (values, rules)

pub returns-in_err-rule : goal.returns-in_err-rule
returns-in_err-rule c = let p = err_from_is_err_and c.from_residual.result c.from_residual.ensures.1 in rw (p.1, p.2) (search (values, c.in_err-rule.ensures, rules))

pub loop-i-preserved : goal.loop-i-preserved
loop-i-preserved c = search (values, c.in_ok-rule.ensures, rules)

pub returns : goal.returns
returns c = search (values, rules)
