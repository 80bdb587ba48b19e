-- What carries it: what stands behind each tag.
use Rattle.ceiling.proofs.CountingStates.{transitions}
use borrow.Author.Rules.{rules}
use Rattle.ceiling.proofs.states.count_transition.Goals as goal

pub bounds-source-from : goal.bounds-source-from
bounds-source-from c = search (transitions, rules)

pub returns-in-3 : goal.returns-in-3
returns-in-3 c = search (transitions, rules)

pub returns-in-4 : goal.returns-in-4
returns-in-4 c = search (transitions, rules)

pub returns-in_default : goal.returns-in_default
returns-in_default c = search (transitions, rules)
