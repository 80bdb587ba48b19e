-- `words::arithmetic::product` meets its contract, by the law `mask-wrapped`.
-- Assumes nothing.
use Rattle.std.proofs.Common.{rules}
use Rattle.rules.specs.Words.{product}
use Rattle.words.proofs.Masks.{mask-wrapped}
use Rattle.words.proofs.arithmetic.product.Goals as goal

pub returns : goal.returns
unfolding product
returns c = search (mask-wrapped, rules)
