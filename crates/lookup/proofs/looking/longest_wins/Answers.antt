-- What carries it: the kinds by their numbers.
use Rattle.lookup.proofs.KeyKinds.{longest}
use borrow.Author.Rules.{rules}
use Rattle.lookup.proofs.looking.longest_wins.Goals as goal

pub returns-then-any_key : goal.returns-then-any_key
returns-then-any_key c = search (longest, rules)

pub returns-else-any_key : goal.returns-else-any_key
returns-else-any_key c = search (longest, rules)
