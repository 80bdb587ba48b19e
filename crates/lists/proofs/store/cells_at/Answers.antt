-- What carries it: what the globals that are left are judged to be and leave, all are and do.
use Rattle.std.proofs.lemmas.Result.{err_from_is_err_and}
use borrow.Author.Rules.{rules}
use Rattle.lists.proofs.Globals.{cells}
use Rattle.lists.proofs.store.cells_at.Goals as goal

pub cell_at-requires : goal.cell_at-requires
cell_at-requires c = search (cells, rules)

pub returns-in_err-next : goal.returns-in_err-next
returns-in_err-next c = let p = err_from_is_err_and c.from_residual.result c.from_residual.ensures.1 in rw (p.1, p.2) (search (cells, c.in_err-next.ensures, rules))

pub loop-g-preserved : goal.loop-g-preserved
loop-g-preserved c = search (cells, c.in_ok-next.ensures, rules)

pub returns : goal.returns
returns c = search (cells, rules)
