-- `words::keys::mask_fits` meets its contract, by the laws of masks.
-- Assumes nothing.
use Rattle.std.proofs.Common.{rules}
use Rattle.words.proofs.Matching.{mask-within, mask-past}
use Rattle.words.proofs.keys.mask_fits.Goals as goal

pub returns-then-fits : goal.returns-then-fits
returns-then-fits c = search (mask-within, rules)

pub returns-else-fits : goal.returns-else-fits
returns-else-fits c = search (mask-past, rules)
