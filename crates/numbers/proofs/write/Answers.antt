-- `numbers::write` meets its promise: the measure decides the answer, and with it whether the bytes are stored.
use borrow.Author.Rules.{rules}
use Rattle.numbers.proofs.Writing.{writings}
use Rattle.numbers.proofs.write.Goals as goal

pub store-requires : goal.store-requires
store-requires c = search (writings, rules, c.in_ok-length.was)

pub returns-in_err-length : goal.returns-in_err-length
returns-in_err-length c = search (writings, rules)
