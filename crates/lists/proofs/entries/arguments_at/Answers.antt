-- What carries it: what the arguments that are left are judged to be, all are.
use Rattle.std.proofs.lemmas.Result.{err_from_is_err_and}
use borrow.Author.Rules.{rules}
use Rattle.lists.proofs.Actions.{parameters}
use Rattle.lists.proofs.entries.arguments_at.Goals as goal

pub overflow_mul-ty : goal.overflow_mul-ty
overflow_mul-ty c = search (parameters, rules)

pub overflow_add-ty : goal.overflow_add-ty
overflow_add-ty c = search (parameters, rules)

pub overflow_add-ty-in-loop-i : goal.overflow_add-ty-in-loop-i
overflow_add-ty-in-loop-i c = search (parameters, rules)

pub offset_bounds-nums-parameter : goal.offset_bounds-nums-parameter
offset_bounds-nums-parameter c = search (parameters, rules)

pub bounds-nums-parameter : goal.bounds-nums-parameter
bounds-nums-parameter c = search (parameters, rules)

pub typed_at-requires : goal.typed_at-requires
typed_at-requires c = search (parameters, rules)

pub returns-in_err-next : goal.returns-in_err-next
returns-in_err-next c = let p = err_from_is_err_and c.from_residual.result c.from_residual.ensures.1 in rw (p.1, p.2) (search (parameters, c.in_err-next.ensures, rules))

pub loop-i-preserved : goal.loop-i-preserved
loop-i-preserved c = search (parameters, c.in_ok-next.ensures, rules)

pub returns : goal.returns
returns c = search (parameters, rules)
