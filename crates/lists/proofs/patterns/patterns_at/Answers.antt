-- What carries it: what the keys that are left are judged to ask, all do. The other goals are found by it alone.
use Rattle.std.proofs.lemmas.Result.{err_from_is_err_and}
use borrow.Author.Rules.{rules}
use Rattle.lists.proofs.Keys.{keys}
use Rattle.lists.proofs.patterns.patterns_at.Goals as goal

pub returns-in_err-next : goal.returns-in_err-next
returns-in_err-next c = let p = err_from_is_err_and c.from_residual.result c.from_residual.ensures.1 in rw (p.1, p.2) (search (keys, c.in_err-next.ensures, rules))
