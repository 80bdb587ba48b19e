-- What carries it: the bits of the widths so far.
use Rattle.store.proofs.Streaming.{countings}
use borrow.Author.Rules.{rules}
use Rattle.store.proofs.packet.count_bits.Goals as goal

pub loop-width-init : goal.loop-width-init
loop-width-init c = search (countings, rules)

pub loop-width-preserved : goal.loop-width-preserved
loop-width-preserved c = search (countings, rules)

pub returns : goal.returns
returns c = search (countings, rules)
