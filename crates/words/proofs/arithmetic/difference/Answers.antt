-- `words::arithmetic::difference` meets its contract, by the law `mask-difference`.
-- Assumes nothing.
use Rattle.std.proofs.Common.{rules}
use Rattle.words.proofs.Masks.{mask-difference}
use Rattle.words.proofs.arithmetic.difference.Goals as goal

pub returns : goal.returns
returns c = search (mask-difference, rules)
