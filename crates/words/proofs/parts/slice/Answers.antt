-- `words::parts::slice` meets its contract, by the law `slice-masked`.
-- Assumes nothing.
use Rattle.std.proofs.Common.{rules}
use Rattle.words.proofs.Pieces.{slice-masked}
use Rattle.words.proofs.parts.slice.Goals as goal

pub returns : goal.returns
returns c = search (slice-masked, rules)
