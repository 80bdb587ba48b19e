-- What carries it: what a global is, by the number of its type.
use Rattle.store.proofs.Shapes.{types}
use borrow.Author.Rules.{rules}
use Rattle.store.proofs.globals.header_type.Goals as goal

pub global_of-ty-requires : goal.global_of-ty-requires
global_of-ty-requires c = search (types, rules)

pub overflow_sub-ty : goal.overflow_sub-ty
overflow_sub-ty c = search (types, rules)

pub header_of-requires : goal.header_of-requires
header_of-requires c = search (types, rules)

pub returns : goal.returns
returns c = search (types, rules)
