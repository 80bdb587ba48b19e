-- What carries it: a value of bits fits its width.
use Rattle.values.proofs.Results.{singles}
use borrow.Author.Rules.{rules}
use Rattle.values.proofs.complemented.Goals as goal

pub complement-requires : goal.complement-requires
complement-requires c = search (singles, rules)

pub returns : goal.returns
returns c = search (singles, rules)
