-- `numbers::measure` meets its contract: what is counted and what is left give the length, and no sum passes the room.
use borrow.Author.Rules.{rules}
use Rattle.numbers.proofs.Measuring.{measurings}
use Rattle.numbers.proofs.measure.Goals as goal

pub returns-then-room-taken : goal.returns-then-room-taken
returns-then-room-taken c = search (measurings, rules)

pub loop-number-preserved : goal.loop-number-preserved
loop-number-preserved c = search (measurings, rules)

pub returns : goal.returns
returns c = search (measurings, rules)
