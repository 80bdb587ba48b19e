-- `numbers::place_of` meets its contract: what was passed and the place in the rest add up to the place asked for.
use Rattle.numbers.proofs.Places.{places}
use Rattle.numbers.proofs.place_of.Goals as goal
use Rattle.numbers.proofs.place_of.Goals.{then-byte-lt128, else-byte-lt128}

pub returns-then-left-eq0 : goal.returns-then-left-eq0
returns-then-left-eq0 c = search places

pub loop-at-preserved : goal.loop-at-preserved
loop-at-preserved c = elim c.if-byte-lt128.branch [ then-byte-lt128 w ↦ search places | else-byte-lt128 w ↦ search places ]

pub returns : goal.returns
returns c = search places
