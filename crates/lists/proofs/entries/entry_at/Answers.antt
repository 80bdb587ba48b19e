-- What carries it: an entry is the number of a table and what stands behind it.
use Rattle.std.proofs.lemmas.Result.{err_from_is_err_and}
use Rattle.lists.proofs.Tables.{entries}
use borrow.Author.Rules.{rules}
use Rattle.lists.proofs.entries.entry_at.Goals as goal

pub returns-in_err-t : goal.returns-in_err-t
returns-in_err-t c = let p = err_from_is_err_and c.from_residual.result c.from_residual.ensures.1 in rw (p.1, p.2) (search (entries, c.in_err-t.ensures, rules))

pub returns-then-t-source : goal.returns-then-t-source
returns-then-t-source c = search (entries, c.in_ok-t.ensures, rules)

pub returns-else-t-source : goal.returns-else-t-source
returns-else-t-source c = search (entries, c.in_ok-t.ensures, rules)
