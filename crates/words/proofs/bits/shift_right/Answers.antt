-- `words::bits::shift_right` meets its contract, by the laws of shifts.
-- Assumes nothing.
use Rattle.std.proofs.Common.{rules}
use Rattle.words.proofs.Shifts.{right-within, right-past}
use Rattle.words.proofs.bits.shift_right.Goals as goal

pub returns-then-by-width : goal.returns-then-by-width
returns-then-by-width c = search (right-within, rules)

pub returns-else-by-width : goal.returns-else-by-width
returns-else-by-width c = search (right-past, rules)
