-- What a table gives. What carries it: the steps over a parameter; the count falls.
use borrow.Author.Rules.{rules}
use Rattle.form.proofs.OfActions.{giving}
use Rattle.form.proofs.actions.gives_all.Goals as goal

pub loop-i-init : goal.loop-i-init
loop-i-init c = search (giving, rules)

pub overflow_mul-i : goal.overflow_mul-i
overflow_mul-i c = search (giving, rules)

pub overflow_add-at : goal.overflow_add-at
overflow_add-at c = search (giving, rules)

pub offset_bounds-nums-at : goal.offset_bounds-nums-at
offset_bounds-nums-at c = search (giving, rules)

pub bounds-nums-at : goal.bounds-nums-at
bounds-nums-at c = search (giving, rules)

pub returns-then-nums-at-ne-NO_DIRECTION : goal.returns-then-nums-at-ne-NO_DIRECTION
returns-then-nums-at-ne-NO_DIRECTION c = search (giving, rules)

pub loop-i-preserved : goal.loop-i-preserved
loop-i-preserved c = search (giving, rules)

pub returns : goal.returns
returns c = search (giving, rules)
