-- `numbers::ends_with` meets its contract, by the rule for a byte that ends its number.
use Rattle.numbers.proofs.Groups.{groups}
use Rattle.numbers.proofs.ends_with.Goals as goal

pub returns-then-byte-ne0 : goal.returns-then-byte-ne0
returns-then-byte-ne0 c = search groups

pub returns-then-before-eq0 : goal.returns-then-before-eq0
returns-then-before-eq0 c = search groups

pub returns-else-before-eq0 : goal.returns-else-before-eq0
returns-else-before-eq0 c = search groups
