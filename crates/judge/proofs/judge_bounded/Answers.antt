-- What carries it: the ceiling is exact where it is within, and the lists are the rules'.
use Rattle.std.proofs.lemmas.Result.{err_from_is_err_and}
use Rattle.judge.proofs.Passes.{bounded}
use borrow.Author.Rules.{rules}
use Rattle.judge.proofs.judge_bounded.Goals as goal

pub returns-then-ceiling-gt-MOST_STEPS : goal.returns-then-ceiling-gt-MOST_STEPS
returns-then-ceiling-gt-MOST_STEPS c = search (bounded, rules)

pub returns-in_ok-store : goal.returns-in_ok-store
returns-in_ok-store c = search (bounded, c.in_ok-store.ensures, rules)

pub returns-in_err-store : goal.returns-in_err-store
returns-in_err-store c = let p = err_from_is_err_and c.from_residual.result c.from_residual.ensures.1 in rw (p.1, p.2) (search (bounded, c.in_err-store.ensures, rules))
