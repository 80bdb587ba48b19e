-- `words::keys::mask_matches` meets its contract: its test is the definition's.
-- Assumes nothing.
use Rattle.std.proofs.Common.{refl}
use Rattle.rules.specs.Words.{mask_matches}
use Rattle.words.proofs.keys.mask_matches.Goals as goal

pub returns : goal.returns
unfolding mask_matches
returns c = refl
