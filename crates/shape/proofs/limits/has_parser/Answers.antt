-- What carries it: the first version with a parser.
use borrow.Author.Rules.{rules}
use Rattle.rules.specs.Reading.{has_parser}
use Rattle.shape.proofs.limits.has_parser.Goals as goal

pub returns : goal.returns
unfolding has_parser
returns c = search rules
