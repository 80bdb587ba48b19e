-- What carries it: where a state's statement and its transition stand.
use Rattle.ceiling.proofs.CountingStates.{counting_state}
use borrow.Author.Rules.{rules}
use Rattle.ceiling.proofs.states.count_state.Goals as goal

pub state_of-at-requires : goal.state_of-at-requires
state_of-at-requires c = search (counting_state, rules)

pub count_stmt-body-requires : goal.count_stmt-body-requires
count_stmt-body-requires c = search (counting_state, rules)

pub offset_bounds-source-at : goal.offset_bounds-source-at
offset_bounds-source-at c = search (counting_state, rules)

pub bounds-source-at : goal.bounds-source-at
bounds-source-at c = search (counting_state, rules)

pub count_transition-on-requires : goal.count_transition-on-requires
count_transition-on-requires c = search (counting_state, rules)

pub add-requires : goal.add-requires
add-requires c = search (counting_state, rules)

pub returns : goal.returns
returns c = search (counting_state, rules)
