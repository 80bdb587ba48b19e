-- What carries it: the mark of a truth is 1, of a falsehood 0.
use Rattle.values.proofs.Results.{truths}
use borrow.Author.Rules.{rules}
use Rattle.values.proofs.truth.Goals as goal

pub returns-then-holds : goal.returns-then-holds
returns-then-holds c = search (truths, rules)

pub returns-else-holds : goal.returns-else-holds
returns-else-holds c = search (truths, rules)
