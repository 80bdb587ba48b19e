-- What carries it: the parameters that are left, and how arguments are held against them.
use Rattle.bodies.proofs.Calling.{settling}
use borrow.Author.Rules.{rules}
use Rattle.bodies.proofs.calls.settle.Goals as goal

pub returns-then-agreed-2 : goal.returns-then-agreed-2
returns-then-agreed-2 c = search (settling, rules)

pub returns-else-agreed-2 : goal.returns-else-agreed-2
returns-else-agreed-2 c = search (settling, rules)

pub returns-else-agreed : goal.returns-else-agreed
returns-else-agreed c = search (settling, rules)
