-- What carries it: the kinds by their numbers.
use borrow.Author.Rules.{rules}
use Rattle.program.proofs.Numbered.{numberings}
use Rattle.program.proofs.Kind.numbered.Goals as goal

pub returns-in-0 : goal.returns-in-0
returns-in-0 c = search (numberings, rules)

pub returns-in-1 : goal.returns-in-1
returns-in-1 c = search (numberings, rules)

pub returns-in-2 : goal.returns-in-2
returns-in-2 c = search (numberings, rules)

pub returns-in_default : goal.returns-in_default
returns-in_default c = search (numberings, rules)
