-- What carries it: what stands behind the tag, and what the rules make of it.
use Rattle.steps.proofs.Leaves.{leaves}
use borrow.Author.Rules.{rules}
use Rattle.steps.proofs.operands.leaf.Goals as goal

pub bounds-source-at-in-0 : goal.bounds-source-at-in-0
bounds-source-at-in-0 c = search (leaves, rules)

pub bounds-source-at-in-1 : goal.bounds-source-at-in-1
bounds-source-at-in-1 c = search (leaves, rules)

pub bounds-source-at-in-1-2 : goal.bounds-source-at-in-1-2
bounds-source-at-in-1-2 c = search (leaves, rules)

pub bounds-source-at-in-6 : goal.bounds-source-at-in-6
bounds-source-at-in-6 c = search (leaves, rules)

pub valid_mark-requires : goal.valid_mark-requires
valid_mark-requires c = search (leaves, rules)

pub read_place-requires : goal.read_place-requires
read_place-requires c = search (leaves, rules)

pub returns-in-0 : goal.returns-in-0
returns-in-0 c = search (leaves, rules)

pub returns-in-1 : goal.returns-in-1
returns-in-1 c = search (leaves, rules)

pub returns-in-6 : goal.returns-in-6
returns-in-6 c = search (leaves, rules)

pub returns-in_default : goal.returns-in_default
returns-in_default c = search (leaves, rules)
