-- `lines::put_signal` meets its contract: the word, the numbers, and the line's end.
use Rattle.lines.proofs.Whole.{words}
use borrow.Author.Rules.{rules}
use Rattle.lines.proofs.put_signal.Goals as goal

pub put_named-next-requires : goal.put_named-next-requires
put_named-next-requires c = search (words, rules)

pub put_pair-end-requires : goal.put_pair-end-requires
put_pair-end-requires c = search (words, rules)

pub bounds-bytes-end : goal.bounds-bytes-end
bounds-bytes-end c = search (words, rules)

pub returns : goal.returns
returns c = search (words, rules)
