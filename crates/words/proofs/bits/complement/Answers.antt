-- `words::bits::complement` meets its contract: the largest number of the width bounds the pattern.
-- Assumes nothing.
use Rattle.std.proofs.Common.{rules}
use Rattle.rules.specs.Words.{complement_of}
use Rattle.words.proofs.Masks.{largest-bound}
use Rattle.words.proofs.bits.complement.Goals as goal

pub overflow_sub-result : goal.overflow_sub-result
overflow_sub-result c = search (largest-bound, rules)

pub returns : goal.returns
unfolding complement_of
returns c = cc
