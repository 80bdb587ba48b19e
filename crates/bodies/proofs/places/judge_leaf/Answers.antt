-- What carries it: what a global's shape and a tag say of the rules' judgement.
use Rattle.bodies.proofs.Plain.{leaves}
use borrow.Author.Rules.{rules}
use Rattle.bodies.proofs.places.judge_leaf.Goals as goal

pub bounds-source-at-in-0 : goal.bounds-source-at-in-0
bounds-source-at-in-0 c = search (leaves, rules)

pub bounds-source-at-in-1 : goal.bounds-source-at-in-1
bounds-source-at-in-1 c = search (leaves, rules)

pub bounds-source-at-in-1-2 : goal.bounds-source-at-in-1-2
bounds-source-at-in-1-2 c = search (leaves, rules)

pub bits_type-requires : goal.bits_type-requires
bits_type-requires c = search (leaves, rules)

pub local_type-requires : goal.local_type-requires
local_type-requires c = search (leaves, rules)

pub parameter_type-requires : goal.parameter_type-requires
parameter_type-requires c = search (leaves, rules)

pub variable_type-requires : goal.variable_type-requires
variable_type-requires c = search (leaves, rules)

pub field_type-requires : goal.field_type-requires
field_type-requires c = search (leaves, rules)

pub header_type-requires : goal.header_type-requires
header_type-requires c = search (leaves, rules)

pub returns-in-0 : goal.returns-in-0
returns-in-0 c = search (leaves, rules)

pub returns-in-1 : goal.returns-in-1
returns-in-1 c = search (leaves, rules)

pub returns-in-2 : goal.returns-in-2
returns-in-2 c = search (leaves, rules)

pub returns-in-3 : goal.returns-in-3
returns-in-3 c = search (leaves, rules)

pub returns-in-4 : goal.returns-in-4
returns-in-4 c = search (leaves, rules)

pub returns-in-5 : goal.returns-in-5
returns-in-5 c = search (leaves, rules)

pub returns-in_default : goal.returns-in_default
returns-in_default c = search (leaves, rules)
