-- What carries it: what a global's shape and a tag say of the rules' judgement.
use Rattle.bodies.proofs.Plain.{writables}
use borrow.Author.Rules.{rules}
use Rattle.bodies.proofs.places.writable_at.Goals as goal

pub writable_parameter-requires : goal.writable_parameter-requires
writable_parameter-requires c = search (writables, rules)

pub returns-in-2 : goal.returns-in-2
returns-in-2 c = search (writables, rules)

pub returns-in-3 : goal.returns-in-3
returns-in-3 c = search (writables, rules)

pub returns-in-4 : goal.returns-in-4
returns-in-4 c = search (writables, rules)

pub returns-in-5 : goal.returns-in-5
returns-in-5 c = search (writables, rules)

pub returns-in_default : goal.returns-in_default
returns-in_default c = search (writables, rules)
