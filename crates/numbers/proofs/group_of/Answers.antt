-- `numbers::group_of` meets its contract, by the rule for a byte behind others.
use Rattle.numbers.proofs.Groups.{groups}
use Rattle.numbers.proofs.group_of.Goals as goal

pub returns-then-before-eq9 : goal.returns-then-before-eq9
returns-then-before-eq9 c = search groups

pub returns-then-byte-ge128 : goal.returns-then-byte-ge128
returns-then-byte-ge128 c = search groups

pub returns-else-byte-ge128 : goal.returns-else-byte-ge128
returns-else-byte-ge128 c = search groups
