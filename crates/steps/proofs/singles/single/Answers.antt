-- What carries it: the statement that stands at the tag.
use Rattle.steps.proofs.Single.{single}
use borrow.Author.Rules.{rules}
use Rattle.steps.proofs.singles.single.Goals as goal

pub set_valid-requires : goal.set_valid-requires
set_valid-requires c = search (single, rules)

pub set_invalid-requires : goal.set_invalid-requires
set_invalid-requires c = search (single, rules)

pub bounds-source-at-in_default : goal.bounds-source-at-in_default
bounds-source-at-in_default c = search (single, rules)

pub extract-requires : goal.extract-requires
extract-requires c = search (single, rules)

pub returns-in-0 : goal.returns-in-0
returns-in-0 c = search (single, rules)

pub returns-in-7 : goal.returns-in-7
returns-in-7 c = search (single, rules)

pub returns-in-8 : goal.returns-in-8
returns-in-8 c = search (single, rules)

pub returns-in-9 : goal.returns-in-9
returns-in-9 c = search (single, rules)

pub returns-in-10 : goal.returns-in-10
returns-in-10 c = search (single, rules)

pub returns-then-extract : goal.returns-then-extract
returns-then-extract c = search (single, rules)

pub returns-else-extract : goal.returns-else-extract
returns-else-extract c = search (single, rules)
