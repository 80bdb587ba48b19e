-- `words::arithmetic::wrapping_product` meets its contract, by the laws of halves.
-- Assumes nothing.
use Rattle.std.proofs.Common.{rules}
use Rattle.words.proofs.Halves.{product-halves}
use Rattle.words.proofs.arithmetic.wrapping_product.Goals as goal

pub returns : goal.returns
returns c = search (product-halves, rules)
