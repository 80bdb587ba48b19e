-- `lines::put_pair` meets its contract: one number behind the other.
use borrow.Author.Rules.{rules}
use Rattle.lines.proofs.Numbers.{pairs}
use Rattle.lines.proofs.put_pair.Goals as goal

pub put_behind-next-requires : goal.put_behind-next-requires
put_behind-next-requires c = search (pairs, rules)

pub put_behind-requires : goal.put_behind-requires
put_behind-requires c = search (pairs, rules)

pub returns : goal.returns
returns c = search (pairs, rules)
