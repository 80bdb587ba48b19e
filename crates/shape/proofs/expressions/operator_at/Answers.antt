-- What carries it: the laws of the numbers behind a tag.
use Rattle.shape.proofs.Tags.{numbers}
use borrow.Author.Rules.{rules}
use Rattle.shape.proofs.expressions.operator_at.Goals as goal

pub returns : goal.returns
returns c = search (numbers, rules)
