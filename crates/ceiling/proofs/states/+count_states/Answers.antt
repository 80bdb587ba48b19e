-- The states one before the other. What carries it: each fills its slot, and fewer are left.
use borrow.Author.Rules.{rules}
use Rattle.ceiling.proofs.CountingStates.{counting_states}
use Rattle.ceiling.proofs.states.+count_states.Goals as goal

pub count_states-requires : goal.count_states-requires
count_states-requires t c = search (counting_states, rules)

pub returns-then-s-ne0 : goal.returns-then-s-ne0
returns-then-s-ne0 t c = search (counting_states, rules)
