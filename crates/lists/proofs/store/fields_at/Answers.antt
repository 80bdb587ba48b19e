-- What carries it: what the fields that are left are judged to be, all are.
use Rattle.std.proofs.lemmas.Result.{err_from_is_err_and}
use borrow.Author.Rules.{rules}
use Rattle.lists.proofs.Fields.{fields}
use Rattle.lists.proofs.store.fields_at.Goals as goal

pub overflow_add-width : goal.overflow_add-width
overflow_add-width c = search (fields, rules)

pub offset_bounds-nums-width : goal.offset_bounds-nums-width
offset_bounds-nums-width c = search (fields, rules)

pub bounds-nums-width : goal.bounds-nums-width
bounds-nums-width c = search (fields, rules)

pub value_at-requires : goal.value_at-requires
value_at-requires c = search (fields, rules)

pub returns-in_err-next : goal.returns-in_err-next
returns-in_err-next c = let p = err_from_is_err_and c.from_residual.result c.from_residual.ensures.1 in rw (p.1, p.2) (search (fields, c.in_err-next.ensures, rules))

pub loop-i-preserved : goal.loop-i-preserved
loop-i-preserved c = search (fields, c.in_ok-next.ensures, rules)

pub returns : goal.returns
returns c = search (fields, rules)
