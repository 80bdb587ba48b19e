-- `lines::put_numbers` meets its contract: what is put and what is left to put give the bytes' later contents.
use borrow.Author.Rules.{rules}
use Rattle.lines.proofs.Numbers.{numberings}
use Rattle.lines.proofs.put_numbers.Goals as goal

pub put_behind-at-requires : goal.put_behind-at-requires
put_behind-at-requires c = search (numberings, rules)

pub loop-number-preserved : goal.loop-number-preserved
loop-number-preserved c = search (numberings, rules)

pub returns : goal.returns
returns c = search (numberings, rules)
