-- What carries it: what is cut is the least of the sum and one more than the most steps.
use borrow.Author.Rules.{rules}
use Rattle.ceiling.specs.Cut.{cut}
use Rattle.ceiling.proofs.operands.add.Goals as goal

pub returns : goal.returns
unfolding cut
returns c = search rules
