-- What carries it: one argument, then those behind it; their count falls.
use borrow.Author.Rules.{rules}
use Rattle.steps.proofs.ComesBack.{coming}
use Rattle.steps.proofs.calls.+come_back.Goals as goal

pub write_back-requires : goal.write_back-requires
write_back-requires t c = search (coming, rules)

pub offset_bounds-source-at : goal.offset_bounds-source-at
offset_bounds-source-at t c = search (coming, rules)

pub bounds-source-at : goal.bounds-source-at
bounds-source-at t c = search (coming, rules)

pub overflow_add-parameters : goal.overflow_add-parameters
overflow_add-parameters t c = search (coming, rules)

pub come_back-requires : goal.come_back-requires
come_back-requires t c = search (coming, rules)

pub returns-then-count-ne0 : goal.returns-then-count-ne0
returns-then-count-ne0 t c = search (coming, rules)

pub returns-else-count-ne0 : goal.returns-else-count-ne0
returns-else-count-ne0 t c = search (coming, rules)
