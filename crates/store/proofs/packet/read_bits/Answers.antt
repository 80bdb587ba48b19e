-- What carries it: the number that the bits so far stand for.
use Rattle.store.proofs.Streaming.{readings}
use borrow.Author.Rules.{rules}
use Rattle.store.proofs.packet.read_bits.Goals as goal

pub loop-at-init : goal.loop-at-init
loop-at-init c = search (readings, rules)

pub loop-at-preserved : goal.loop-at-preserved
loop-at-preserved c = search (readings, rules)
