-- `words::widths::largest` meets its contract: the table computes to the rule's values at widths 0 to 64.
-- Assumes nothing.
use Rattle.std.proofs.Common.{suc-le-suc}
use Rattle.rules.specs.Words.{largest}
use Rattle.words.proofs.Tables.{entry}
use Rattle.words.proofs.widths.largest.Goals as goal

pub returns : goal.returns
unfolding largest
returns c = entry largest 65 c.args.width (suc-le-suc c.requires)
