-- What carries it: the values so far are others.
use Rattle.runner.proofs.Selecting.{equals}
use borrow.Author.Rules.{rules}
use Rattle.runner.proofs.parser.first_equal.Goals as goal

pub returns-then-number-nums : goal.returns-then-number-nums
returns-then-number-nums c = search (equals, rules)

pub returns : goal.returns
returns c = search (equals, rules)
