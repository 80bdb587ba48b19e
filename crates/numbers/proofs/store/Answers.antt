-- `numbers::store` meets its contract: what is stored and what is left to store give the bytes' later contents.
use borrow.Author.Rules.{rules}
use Rattle.numbers.proofs.Storing.{storings}
use Rattle.numbers.proofs.store.Goals as goal

pub loop-number-init : goal.loop-number-init
loop-number-init c = search (storings, rules)

pub store_number-at-requires : goal.store_number-at-requires
store_number-at-requires c = search (storings, rules)

pub loop-number-preserved : goal.loop-number-preserved
loop-number-preserved c = search (storings, rules)

pub returns : goal.returns
returns c = search (storings, rules)
