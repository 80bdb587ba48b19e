-- `words::bits::shift_left` meets its contract, by the laws of shifts.
-- Assumes nothing.
use Rattle.std.proofs.Common.{rules}
use Rattle.words.proofs.Shifts.{left-within, left-past}
use Rattle.words.proofs.bits.shift_left.Goals as goal

pub returns-then-by-width : goal.returns-then-by-width
returns-then-by-width c = search (left-within, rules)

pub returns-else-by-width : goal.returns-else-by-width
returns-else-by-width c = search (left-past, rules)
