-- What carries it: the callable with a number has its parameters where its head says.
use Rattle.lists.proofs.Actions.{calls}
use borrow.Author.Rules.{rules}
use Rattle.lists.proofs.entries.called_at.Goals as goal

pub head_of-head-requires : goal.head_of-head-requires
head_of-head-requires c = search (calls, rules)

pub arguments_at-requires : goal.arguments_at-requires
arguments_at-requires c = search (calls, rules)

pub returns-then-f-source : goal.returns-then-f-source
returns-then-f-source c = search (calls, rules)

pub returns-else-f-source : goal.returns-else-f-source
returns-else-f-source c = search (calls, rules)
