-- The states of pairs. What carries it: the steps over a pair; the count falls.
use Rattle.std.proofs.lemmas.Result.{err_from_is_err_and}
use borrow.Author.Rules.{rules}
use Rattle.form.proofs.OfPairs.{pairs}
use Rattle.form.proofs.states.judge_pairs.Goals as goal

pub loop-i-init : goal.loop-i-init
loop-i-init c = search (pairs, rules)

pub overflow_mul-i : goal.overflow_mul-i
overflow_mul-i c = search (pairs, rules)

pub overflow_add-at : goal.overflow_add-at
overflow_add-at c = search (pairs, rules)

pub overflow_add-at-in-loop-i : goal.overflow_add-at-in-loop-i
overflow_add-at-in-loop-i c = search (pairs, rules)

pub judge_later-requires : goal.judge_later-requires
judge_later-requires c = search (pairs, rules)

pub returns-in_err-judge_later : goal.returns-in_err-judge_later
returns-in_err-judge_later c = let p = err_from_is_err_and c.from_residual.result c.from_residual.ensures.1 in rw (p.1, p.2) (search (pairs, c.in_err-judge_later.ensures, rules))

pub loop-i-preserved : goal.loop-i-preserved
loop-i-preserved c = search (pairs, c.in_ok-judge_later.ensures, rules)

pub returns : goal.returns
returns c = search (pairs, rules)
