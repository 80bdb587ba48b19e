-- `numbers::fill` meets its contract: what is stored and what is left to store give the slots' later contents.
use borrow.Author.Rules.{rules}
use Rattle.numbers.proofs.Filling.{fillings}
use Rattle.numbers.proofs.fill.Goals as goal

pub loop-at-init : goal.loop-at-init
loop-at-init c = search (fillings, rules)

pub bounds-slots-index : goal.bounds-slots-index
bounds-slots-index c = search (fillings, rules)

pub bounds-slots-index-else-byte-lt128 : goal.bounds-slots-index-else-byte-lt128
bounds-slots-index-else-byte-lt128 c = search (fillings, rules)

pub loop-at-preserved : goal.loop-at-preserved
loop-at-preserved c = search (fillings, rules)

pub returns-in_default : goal.returns-in_default
returns-in_default c = search (fillings, rules)

pub returns : goal.returns
returns c = search (fillings, rules)
