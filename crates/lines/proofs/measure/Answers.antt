-- `lines::measure` meets its contract: the second line takes a byte more for each number, and at least one.
use borrow.Author.Rules.{rules}
use Rattle.lines.proofs.Measuring.{both}
use Rattle.lines.proofs.measure.Goals as goal

pub returns-then-room-line : goal.returns-then-room-line
returns-then-room-line c = search (both, rules)

pub returns-then-store-eq0 : goal.returns-then-store-eq0
returns-then-store-eq0 c = search (both, rules)

pub returns-else-store-eq0 : goal.returns-else-store-eq0
returns-else-store-eq0 c = search (both, rules)
