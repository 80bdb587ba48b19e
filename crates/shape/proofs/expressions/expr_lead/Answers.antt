-- What carries it: an expression is its lead and its operands.
use Rattle.shape.proofs.Exprs.{exprs}
use borrow.Author.Rules.{rules}
use Rattle.shape.proofs.expressions.expr_lead.Goals as goal

pub returns-then-at-nums : goal.returns-then-at-nums
returns-then-at-nums c = search (exprs, rules)

pub returns-else-at-nums : goal.returns-else-at-nums
returns-else-at-nums c = search (exprs, rules)
