-- What carries it: how each part of a program scans.
use Rattle.std.proofs.lemmas.Result.{err_from_is_err_and}
use Rattle.shape.proofs.Holders.{holders}
use borrow.Author.Rules.{rules}
use Rattle.shape.proofs.tables.key_list_at.Goals as goal

pub returns-in_err-value : goal.returns-in_err-value
returns-in_err-value c = let p = err_from_is_err_and c.from_residual.result c.from_residual.ensures.1 in rw (p.1, p.2) (search (holders, c.in_err-value.ensures, rules))

pub returns : goal.returns
returns c = search (holders, c.in_ok-value.ensures, rules)
