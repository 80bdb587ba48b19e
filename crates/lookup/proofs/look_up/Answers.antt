-- What carries it: the look-up begins with nothing found.
use Rattle.lookup.proofs.Looks.{whole}
use borrow.Author.Rules.{rules}
use Rattle.lookup.proofs.look_up.Goals as goal

pub returns-in-Some : goal.returns-in-Some
returns-in-Some c = search (whole, rules)

pub returns-in-None : goal.returns-in-None
returns-in-None c = search (whole, rules)
