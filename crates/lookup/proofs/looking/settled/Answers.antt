-- What carries it: the two cases of what is found.
use Rattle.lookup.specs.LookingUp.{settled_as}
use borrow.Author.Rules.{rules}
use Rattle.lookup.proofs.looking.settled.Goals as goal

pub returns-in-Some : goal.returns-in-Some
unfolding settled_as
returns-in-Some c = search rules

pub returns-in-None : goal.returns-in-None
unfolding settled_as
returns-in-None c = search rules
