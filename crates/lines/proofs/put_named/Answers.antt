-- `lines::put_named` meets its contract: the words are the rules'.
use Rattle.lines.proofs.Whole.{signals}
use borrow.Author.Rules.{rules}
use Rattle.lines.proofs.put_named.Goals as goal

pub put_word-requires : goal.put_word-requires
put_word-requires c = search (signals, rules)

pub put_word-requires-in-Exit : goal.put_word-requires-in-Exit
put_word-requires-in-Exit c = search (signals, rules)

pub put_word-next-requires : goal.put_word-next-requires
put_word-next-requires c = search (signals, rules)

pub put_behind-requires : goal.put_behind-requires
put_behind-requires c = search (signals, rules)

pub returns-in-Done : goal.returns-in-Done
returns-in-Done c = search (signals, rules)

pub returns-in-Exit : goal.returns-in-Exit
returns-in-Exit c = search (signals, rules)

pub returns-in-Reject : goal.returns-in-Reject
returns-in-Reject c = search (signals, rules)
