-- `numbers::count` meets its contract: it makes the rules' tests of the length, in their order.
use borrow.Author.Rules.{rules}
use Rattle.numbers.proofs.Counting.{counts}
use Rattle.numbers.proofs.count.Goals as goal

pub returns-then-bytes-eq0 : goal.returns-then-bytes-eq0
returns-then-bytes-eq0 c = search (counts, rules)

pub returns : goal.returns
returns c = search (counts, rules)
