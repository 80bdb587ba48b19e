-- What carries it: a pair is two numbers.
use Rattle.shape.proofs.Parts.{parts}
use borrow.Author.Rules.{rules}
use Rattle.shape.proofs.items.pair_at.Goals as goal

pub returns : goal.returns
returns c = search (parts, rules)
