-- What carries it: where operands stand, by the tag.
use Rattle.bodies.proofs.Calling.{operands}
use borrow.Author.Rules.{rules}
use Rattle.bodies.proofs.exprs.operands_at.Goals as goal

pub returns-in-9 : goal.returns-in-9
returns-in-9 c = search (operands, rules)

pub returns-in-10 : goal.returns-in-10
returns-in-10 c = search (operands, rules)

pub returns-in-11 : goal.returns-in-11
returns-in-11 c = search (operands, rules)

pub returns-in-12 : goal.returns-in-12
returns-in-12 c = search (operands, rules)

pub returns-in_default : goal.returns-in_default
returns-in_default c = search (operands, rules)
