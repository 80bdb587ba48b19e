-- `numbers::tenth` meets its contract, by the rule for a tenth byte.
use Rattle.numbers.proofs.Groups.{groups}
use Rattle.numbers.proofs.tenth.Goals as goal

pub returns-then-byte-eq1 : goal.returns-then-byte-eq1
returns-then-byte-eq1 c = search groups

pub returns-else-byte-eq1 : goal.returns-else-byte-eq1
returns-else-byte-eq1 c = search groups
