-- `words::widths::fits` meets its contract, by the law `largest-test`.
-- Assumes nothing.
use Rattle.std.proofs.Common.{rules}
use Rattle.words.proofs.Masks.{largest-test}
use Rattle.words.proofs.widths.fits.Goals as goal

pub returns : goal.returns
returns c = search (largest-test, rules)
