-- What carries it: a pattern is its value and what stands behind it.
use Rattle.std.proofs.lemmas.Result.{err_from_is_err_and}
use Rattle.lists.proofs.Keys.{patterns}
use borrow.Author.Rules.{rules}
use Rattle.lists.proofs.patterns.pattern_at.Goals as goal

pub returns-in_err-next : goal.returns-in_err-next
returns-in_err-next c = let p = err_from_is_err_and c.from_residual.result c.from_residual.ensures.1 in rw (p.1, p.2) (search (patterns, c.in_err-next.ensures, rules))

pub offset_bounds-nums-at : goal.offset_bounds-nums-at
offset_bounds-nums-at c = search (patterns, c.in_ok-next.ensures, rules)

pub bounds-nums-at : goal.bounds-nums-at
bounds-nums-at c = search (patterns, c.in_ok-next.ensures, rules)

pub returns : goal.returns
returns c = search (patterns, c.in_ok-next.ensures, rules)
