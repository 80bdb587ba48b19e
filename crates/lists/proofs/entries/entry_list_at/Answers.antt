-- What carries it: the list of entries is its count and the entries.
use Rattle.std.proofs.lemmas.Result.{err_from_is_err_and}
use Rattle.lists.proofs.Rows.{entry_lists}
use borrow.Author.Rules.{rules}
use Rattle.lists.proofs.entries.entry_list_at.Goals as goal

pub returns-in_err-count : goal.returns-in_err-count
returns-in_err-count c = let p = err_from_is_err_and c.from_residual.result c.from_residual.ensures.1 in rw (p.1, p.2) (search (entry_lists, c.in_err-count.ensures, rules))

pub returns-then-count-le-MOST_ENTRIES : goal.returns-then-count-le-MOST_ENTRIES
returns-then-count-le-MOST_ENTRIES c = search (entry_lists, c.in_ok-count.ensures, rules)

pub returns-else-count-le-MOST_ENTRIES : goal.returns-else-count-le-MOST_ENTRIES
returns-else-count-le-MOST_ENTRIES c = search (entry_lists, c.in_ok-count.ensures, rules)
