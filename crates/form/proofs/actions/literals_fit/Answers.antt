-- Literals for parameters. What carries it: the steps over both; the count falls.
use Rattle.std.proofs.lemmas.Result.{err_from_is_err_and}
use borrow.Author.Rules.{rules}
use Rattle.form.proofs.OfNumerals.{literals}
use Rattle.form.proofs.actions.literals_fit.Goals as goal

pub loop-i-init : goal.loop-i-init
loop-i-init c = search (literals, rules)

pub overflow_add-literal : goal.overflow_add-literal
overflow_add-literal c = search (literals, rules)

pub overflow_mul-ty : goal.overflow_mul-ty
overflow_mul-ty c = search (literals, rules)

pub overflow_add-ty : goal.overflow_add-ty
overflow_add-ty c = search (literals, rules)

pub overflow_add-ty-in-loop-i : goal.overflow_add-ty-in-loop-i
overflow_add-ty-in-loop-i c = search (literals, rules)

pub offset_bounds-nums-parameter : goal.offset_bounds-nums-parameter
offset_bounds-nums-parameter c = search (literals, rules)

pub bounds-nums-parameter : goal.bounds-nums-parameter
bounds-nums-parameter c = search (literals, rules)

pub offset_bounds-nums-literal : goal.offset_bounds-nums-literal
offset_bounds-nums-literal c = search (literals, rules)

pub bounds-nums-literal : goal.bounds-nums-literal
bounds-nums-literal c = search (literals, rules)

pub fits_type-requires : goal.fits_type-requires
fits_type-requires c = search (literals, rules)

pub returns-in_err-rule : goal.returns-in_err-rule
returns-in_err-rule c = let p = err_from_is_err_and c.from_residual.result c.from_residual.ensures.1 in rw (p.1, p.2) (search (literals, c.in_err-rule.ensures, rules))

pub loop-i-preserved : goal.loop-i-preserved
loop-i-preserved c = search (literals, c.in_ok-rule.ensures, rules)

pub returns : goal.returns
returns c = search (literals, rules)
