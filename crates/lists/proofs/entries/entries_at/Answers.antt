-- What carries it: what the entries that are left are judged to be and leave, all are and do.
use Rattle.std.proofs.lemmas.Result.{err_from_is_err_and}
use borrow.Author.Rules.{rules}
use Rattle.lists.proofs.Rows.{rows}
use Rattle.lists.proofs.entries.entries_at.Goals as goal

pub returns-in_err-next : goal.returns-in_err-next
returns-in_err-next c = let p = err_from_is_err_and c.from_residual.result c.from_residual.ensures.1 in rw (p.1, p.2) (search (rows, c.in_err-next.ensures, rules))

pub loop-i-preserved : goal.loop-i-preserved
loop-i-preserved c = search (rows, c.in_ok-next.ensures, rules)

pub returns : goal.returns
returns c = search (rows, rules)
