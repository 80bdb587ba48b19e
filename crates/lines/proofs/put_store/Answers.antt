-- `lines::put_store` meets its contract: the numbers, and the line's end.
use borrow.Author.Rules.{rules}
use Rattle.lines.proofs.Whole.{stores}
use Rattle.lines.proofs.put_store.Goals as goal

pub put_between-last-requires : goal.put_between-last-requires
put_between-last-requires c = search (stores, rules)

pub bounds-bytes-last : goal.bounds-bytes-last
bounds-bytes-last c = search (stores, rules)

pub returns : goal.returns
returns c = search (stores, rules)
