-- What carries it: what is left of the keys lays what all of them lay.
use Rattle.std.proofs.lemmas.Result.{err_from_is_err_and}
use Rattle.shape.proofs.Holders.{keys}
use borrow.Author.Rules.{rules}
use Rattle.shape.proofs.tables.keys_at.Goals as goal

pub returns-in_err-next : goal.returns-in_err-next
returns-in_err-next c = let p = err_from_is_err_and c.from_residual.result c.from_residual.ensures.1 in rw (p.1, p.2) (search (keys, c.in_err-next.ensures, rules))

pub loop-preserved : goal.loop-preserved
loop-preserved c = search (keys, c.in_ok-next.ensures, rules)

pub returns : goal.returns
returns c = search (keys, rules)
