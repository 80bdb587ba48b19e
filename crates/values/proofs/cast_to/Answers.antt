-- What carries it: a cast's answer in numbers.
use Rattle.values.proofs.Results.{singles}
use borrow.Author.Rules.{rules}
use Rattle.values.proofs.cast_to.Goals as goal

pub returns : goal.returns
returns c = search (singles, rules)
