-- What carries it: what stands behind each tag.
use Rattle.ceiling.proofs.Held.{stmt_held}
use borrow.Author.Rules.{rules}
use Rattle.ceiling.proofs.operands.of_stmt.Goals as goal

pub returns-in-1 : goal.returns-in-1
returns-in-1 c = search (stmt_held, rules)

pub returns-in-2 : goal.returns-in-2
returns-in-2 c = search (stmt_held, rules)

pub returns-in-4 : goal.returns-in-4
returns-in-4 c = search (stmt_held, rules)

pub returns-in-6 : goal.returns-in-6
returns-in-6 c = search (stmt_held, rules)

pub returns-in-12 : goal.returns-in-12
returns-in-12 c = search (stmt_held, rules)

pub returns-in_default : goal.returns-in_default
returns-in_default c = search (stmt_held, rules)
