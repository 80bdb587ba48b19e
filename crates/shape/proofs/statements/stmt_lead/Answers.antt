-- What carries it: a statement is its lead, its operands and its statements.
use Rattle.shape.proofs.Stmts.{stmts}
use borrow.Author.Rules.{rules}
use Rattle.shape.proofs.statements.stmt_lead.Goals as goal

pub returns-then-at-nums : goal.returns-then-at-nums
returns-then-at-nums c = search (stmts, rules)

pub returns-else-at-nums : goal.returns-else-at-nums
returns-else-at-nums c = search (stmts, rules)
