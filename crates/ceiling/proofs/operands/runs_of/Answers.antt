-- What carries it: what stands behind each tag.
use Rattle.ceiling.proofs.Held.{stmt_runs, stmt_inside}
use borrow.Author.Rules.{rules}
use Rattle.ceiling.proofs.operands.runs_of.Goals as goal

pub offset_bounds-source-first : goal.offset_bounds-source-first
offset_bounds-source-first c = search (stmt_inside, rules)

pub bounds-source-first : goal.bounds-source-first
bounds-source-first c = search (stmt_inside, rules)

pub returns-in-2 : goal.returns-in-2
returns-in-2 c = search (stmt_runs, rules)

pub returns-in-3 : goal.returns-in-3
returns-in-3 c = search (stmt_runs, rules)

pub returns-in-4 : goal.returns-in-4
returns-in-4 c = search (stmt_runs, rules)

pub returns-in-5 : goal.returns-in-5
returns-in-5 c = search (stmt_runs, rules)

pub returns-in_default : goal.returns-in_default
returns-in_default c = search (stmt_runs, rules)
