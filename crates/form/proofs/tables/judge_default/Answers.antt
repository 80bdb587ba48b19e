-- What carries it: where the default's action is listed, and its literals.
use Rattle.form.proofs.OfDefaults.{defaults, literals-ask}
use borrow.Author.Rules.{rules}
use Rattle.form.proofs.tables.judge_default.Goals as goal

pub overflow_add-action-2 : goal.overflow_add-action-2
overflow_add-action-2 c = search (defaults, rules)

pub offset_bounds-source-action : goal.offset_bounds-source-action
offset_bounds-source-action c = search (defaults, rules)

pub bounds-source-action : goal.bounds-source-action
bounds-source-action c = search (defaults, rules)

pub head_of-head-requires : goal.head_of-head-requires
head_of-head-requires c = search (defaults, rules)

pub literals_fit-requires : goal.literals_fit-requires
literals_fit-requires c = literals-ask _ _ _ _ _ _ _ _ _ _ c.requires c.head_of-head.ensures c.if-source-default.true

pub returns-then-source-default : goal.returns-then-source-default
returns-then-source-default c = search (defaults, rules)

pub returns-else-source-default : goal.returns-else-source-default
returns-else-source-default c = search (defaults, rules)
