-- What carries it: the parameters that are left, and how arguments are held against them.
use Rattle.bodies.proofs.Calling.{weighing}
use borrow.Author.Rules.{rules}
use Rattle.bodies.proofs.calls.weigh.Goals as goal

pub returns-in-Some : goal.returns-in-Some
returns-in-Some c = search (weighing, rules)

pub returns-in-None : goal.returns-in-None
returns-in-None c = search (weighing, rules)
