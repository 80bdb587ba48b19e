-- `words::keys::prefix_fits` meets its contract, by the laws of prefixes.
-- Assumes nothing.
use Rattle.std.proofs.Common.{rules}
use Rattle.words.proofs.Matching.{prefix-within, prefix-past}
use Rattle.words.proofs.keys.prefix_fits.Goals as goal

pub returns-then-prefix-width : goal.returns-then-prefix-width
returns-then-prefix-width c = search (prefix-within, rules)

pub returns-else-prefix-width : goal.returns-else-prefix-width
returns-else-prefix-width c = search (prefix-past, rules)
