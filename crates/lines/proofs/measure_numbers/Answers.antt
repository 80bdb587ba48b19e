-- `lines::measure_numbers` meets its contract: what is counted and what is left give the length, and no sum passes the room.
use borrow.Author.Rules.{rules}
use Rattle.lines.proofs.Measuring.{measurings}
use Rattle.lines.proofs.measure_numbers.Goals as goal

pub overflow_add-more : goal.overflow_add-more
overflow_add-more c = search (measurings, rules)

pub returns-then-room-taken : goal.returns-then-room-taken
returns-then-room-taken c = search (measurings, rules)

pub loop-number-preserved : goal.loop-number-preserved
loop-number-preserved c = search (measurings, rules)

pub returns : goal.returns
returns c = search (measurings, rules)
