-- What carries it: what comes back of one argument, by its direction.
use Rattle.steps.proofs.Backs.{backing}
use borrow.Author.Rules.{rules}
use Rattle.steps.proofs.calls.write_back.Goals as goal

pub write_place-requires : goal.write_place-requires
write_place-requires c = search (backing, rules)

pub returns-then-source-parameters-ge-OUT : goal.returns-then-source-parameters-ge-OUT
returns-then-source-parameters-ge-OUT c = search (backing, rules)

pub returns-else-source-parameters-ge-OUT : goal.returns-else-source-parameters-ge-OUT
returns-else-source-parameters-ge-OUT c = search (backing, rules)
