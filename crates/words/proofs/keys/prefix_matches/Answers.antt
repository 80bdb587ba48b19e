-- `words::keys::prefix_matches` meets its contract, by the law `prefix-agrees`.
-- Assumes nothing.
use Rattle.std.proofs.Common.{rules}
use Rattle.words.proofs.Matching.{prefix-agrees}
use Rattle.words.proofs.keys.prefix_matches.Goals as goal

pub returns : goal.returns
returns c = search (prefix-agrees, rules)
