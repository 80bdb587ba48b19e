-- What carries it: a bool's number is at most 1.
use Rattle.values.proofs.Results.{singles}
use borrow.Author.Rules.{rules}
use Rattle.values.proofs.negated.Goals as goal

pub overflow_sub-a : goal.overflow_sub-a
overflow_sub-a c = search (singles, rules)

pub returns : goal.returns
returns c = search (singles, rules)
