-- What carries it: the lists are the entries, the store behind them, and the packet, with nothing behind that.
use Rattle.std.proofs.lemmas.Result.{err_from_is_err_and}
use Rattle.lists.proofs.Together.{together}
use borrow.Author.Rules.{rules}
use Rattle.lists.proofs.judge_lists.Goals as goal

pub returns-in_err-store : goal.returns-in_err-store
returns-in_err-store c = let p = err_from_is_err_and c.from_residual.result c.from_residual.ensures.1 in rw (p.1, p.2) (search (together, c.in_err-store.ensures, rules))

pub returns-in_err-next : goal.returns-in_err-next
returns-in_err-next c = let p = err_from_is_err_and c.from_residual-in_err-next.result c.from_residual-in_err-next.ensures.1 in rw (p.1, p.2) (search (together, c.in_ok-store.ensures, c.in_err-next.ensures, rules))

pub returns-in_err-last_at : goal.returns-in_err-last_at
returns-in_err-last_at c = let p = err_from_is_err_and c.from_residual-in_err-last_at.result c.from_residual-in_err-last_at.ensures.1 in rw (p.1, p.2) (search (together, c.in_ok-store.ensures, c.in_ok-next.ensures, c.in_err-last_at.ensures, rules))

pub overflow_sub-result : goal.overflow_sub-result
overflow_sub-result c = search (together, c.in_ok-store.ensures, c.in_ok-next.ensures, rules)

pub returns : goal.returns
returns c = search (together, c.in_ok-store.ensures, c.in_ok-next.ensures, c.in_ok-last_at.ensures, rules)
