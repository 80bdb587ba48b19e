-- `numbers::store_number` meets its contract: what is stored and what is left to store give the bytes' later contents.
use borrow.Author.Rules.{rules}
use Rattle.numbers.proofs.Storing.{puttings}
use Rattle.numbers.proofs.store_number.Goals as goal

pub bounds-bytes-at : goal.bounds-bytes-at
bounds-bytes-at c = search (puttings, rules)

pub loop-rest-preserved : goal.loop-rest-preserved
loop-rest-preserved c = search (puttings, rules)

pub bounds-bytes-at-2 : goal.bounds-bytes-at-2
bounds-bytes-at-2 c = search (puttings, rules)

pub returns : goal.returns
returns c = search (puttings, rules)
