-- What carries it: a global by what it was found to be.
use borrow.Author.Rules.{rules}
use Rattle.bodies.proofs.Plain.{naming}
use Rattle.bodies.proofs.places.global_named.Goals as goal

pub returns-in-Some : goal.returns-in-Some
returns-in-Some c = search (naming, rules)

pub returns-in-None : goal.returns-in-None
returns-in-None c = search (naming, rules)
