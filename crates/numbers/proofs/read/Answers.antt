-- `numbers::read` meets its promise: the count decides the answer, and with it whether the slots are filled.
use borrow.Author.Rules.{rules}
use Rattle.numbers.proofs.Reading.{readings}
use Rattle.numbers.proofs.read.Goals as goal

pub fill-requires : goal.fill-requires
fill-requires c = search (readings, rules, c.in_ok-count.was)

pub returns-in_err-count : goal.returns-in_err-count
returns-in_err-count c = search (readings, rules)
