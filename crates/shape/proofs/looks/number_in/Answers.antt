-- What carries it: the laws of a number at an index.
use Rattle.std.proofs.lemmas.Result.{err_from_is_err_and}
use Rattle.shape.proofs.Laws.{leaves}
use borrow.Author.Rules.{rules}
use Rattle.shape.proofs.looks.number_in.Goals as goal

pub returns-in_err-next : goal.returns-in_err-next
returns-in_err-next c = let p = err_from_is_err_and c.from_residual.result c.from_residual.ensures.1 in rw (p.1, p.2) (search (leaves, c.in_err-next.ensures, rules))

pub returns : goal.returns
returns c = search (leaves, c.in_ok-next.ensures, rules)
