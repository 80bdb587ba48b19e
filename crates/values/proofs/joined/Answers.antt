-- What carries it: what is joined fits a word.
use Rattle.values.proofs.Results.{parts}
use borrow.Author.Rules.{rules}
use Rattle.values.proofs.joined.Goals as goal

pub join-requires : goal.join-requires
join-requires c = search (parts, rules)

pub returns : goal.returns
returns c = search (parts, rules)
