-- What carries it: what stands behind each tag.
use Rattle.ceiling.proofs.Held.{expr_held, count-inside, callable-inside}
use borrow.Author.Rules.{rules}
use Rattle.ceiling.proofs.operands.of_expr.Goals as goal

pub bounds-source-at-in-13 : goal.bounds-source-at-in-13
bounds-source-at-in-13 c = search (count-inside, rules)

pub bounds-source-at-in-13-2 : goal.bounds-source-at-in-13-2
bounds-source-at-in-13-2 c = search (callable-inside, rules)

pub returns-in-7 : goal.returns-in-7
returns-in-7 c = search (expr_held, rules)

pub returns-in-8 : goal.returns-in-8
returns-in-8 c = search (expr_held, rules)

pub returns-in-9 : goal.returns-in-9
returns-in-9 c = search (expr_held, rules)

pub returns-in-10 : goal.returns-in-10
returns-in-10 c = search (expr_held, rules)

pub returns-in-11 : goal.returns-in-11
returns-in-11 c = search (expr_held, rules)

pub returns-in-12 : goal.returns-in-12
returns-in-12 c = search (expr_held, rules)

pub returns-in-13 : goal.returns-in-13
returns-in-13 c = search (expr_held, rules)

pub returns-in_default : goal.returns-in_default
returns-in_default c = search (expr_held, rules)
