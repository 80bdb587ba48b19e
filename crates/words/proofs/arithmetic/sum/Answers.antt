-- `words::arithmetic::sum` meets its contract, by the law `mask-wrapped`.
-- Assumes nothing.
use Rattle.std.proofs.Common.{rules}
use Rattle.rules.specs.Words.{sum}
use Rattle.words.proofs.Masks.{mask-wrapped}
use Rattle.words.proofs.arithmetic.sum.Goals as goal

pub returns : goal.returns
unfolding sum
returns c = search (mask-wrapped, rules)
