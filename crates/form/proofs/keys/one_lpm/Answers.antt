-- The kinds of keys. What carries it: the steps over a key; the count falls.
use Rattle.std.proofs.lemmas.Result.{err_from_is_err_and}
use borrow.Author.Rules.{rules}
use Rattle.form.proofs.OfKinds.{kinds}
use Rattle.form.proofs.keys.one_lpm.Goals as goal

pub loop-init : goal.loop-init
loop-init c = search (kinds, rules)

pub offset_bounds-source-next : goal.offset_bounds-source-next
offset_bounds-source-next c = search (kinds, rules)

pub bounds-source-next : goal.bounds-source-next
bounds-source-next c = search (kinds, rules)

pub returns-in_err-rule : goal.returns-in_err-rule
returns-in_err-rule c = let p = err_from_is_err_and c.from_residual.result c.from_residual.ensures.1 in rw (p.1, p.2) (search (kinds, c.in_err-rule.ensures, rules))

pub overflow_add-next : goal.overflow_add-next
overflow_add-next c = search (kinds, c.in_ok-rule.ensures, rules)

pub offset_bounds-source-next-in-loop : goal.offset_bounds-source-next-in-loop
offset_bounds-source-next-in-loop c = search (kinds, c.in_ok-rule.ensures, rules)

pub bounds-source-next-in-loop : goal.bounds-source-next-in-loop
bounds-source-next-in-loop c = search (kinds, c.in_ok-rule.ensures, rules)

pub loop-preserved : goal.loop-preserved
loop-preserved c = search (kinds, c.in_ok-rule.ensures, rules)

pub returns : goal.returns
returns c = search (kinds, rules)
