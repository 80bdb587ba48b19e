-- What carries it: nothing is filled at first, and in the end the first slot tells.
use Rattle.ceiling.proofs.CountingStates.{counting_parser}
use borrow.Author.Rules.{rules}
use Rattle.ceiling.proofs.states.count_parser.Goals as goal

pub count_states-requires : goal.count_states-requires
count_states-requires c = search (counting_parser, rules)

pub returns : goal.returns
returns c = search (counting_parser, rules)
