-- `words::parts::cast` meets its contract, by the law `mask`.
-- Assumes nothing.
use Rattle.std.proofs.Common.{rules}
use Rattle.rules.specs.Words.{cast_to}
use Rattle.words.proofs.Masks.{mask}
use Rattle.words.proofs.parts.cast.Goals as goal

pub returns : goal.returns
unfolding cast_to
returns c = search (mask, rules)
