-- What carries it: how each part of a program scans.
use Rattle.std.proofs.lemmas.Result.{err_from_is_err_and}
use Rattle.shape.proofs.Holders.{holders}
use borrow.Author.Rules.{rules}
use Rattle.shape.proofs.callables.callable_at.Goals as goal

pub returns-in_err-next : goal.returns-in_err-next
returns-in_err-next c = let p = err_from_is_err_and c.from_residual.result c.from_residual.ensures.1 in rw (p.1, p.2) (search (holders, c.in_err-next.ensures, rules))

pub returns-in_err-body : goal.returns-in_err-body
returns-in_err-body c = let p = err_from_is_err_and c.from_residual-in_err-body.result c.from_residual-in_err-body.ensures.1 in rw (p.1, p.2) (search (holders, c.in_ok-next.ensures, c.in_err-body.ensures, rules))

pub returns : goal.returns
returns c = search (holders, c.in_ok-next.ensures, c.in_ok-body.ensures, rules)
