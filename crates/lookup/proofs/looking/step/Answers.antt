-- What carries it: what an entry adds to a look-up.
use Rattle.lookup.proofs.Looks.{steps}
use borrow.Author.Rules.{rules}
use Rattle.lookup.proofs.looking.step.Goals as goal

pub match_from-keyed-requires : goal.match_from-keyed-requires
match_from-keyed-requires c = search (steps, rules)

pub returns-in-Some : goal.returns-in-Some
returns-in-Some c = search (steps, rules)

pub returns-in-None : goal.returns-in-None
returns-in-None c = search (steps, rules)
