-- What carries it: the kept ceiling of a table is what an apply of it runs.
use Rattle.ceiling.proofs.CountingStmts.{applying}
use borrow.Author.Rules.{rules}
use Rattle.ceiling.proofs.count.applied.Goals as goal

pub returns-then-t-directory : goal.returns-then-t-directory
returns-then-t-directory c = search (applying, rules)

pub returns-else-t-directory : goal.returns-else-t-directory
returns-else-t-directory c = search (applying, rules)

pub returns-else-reach-directory : goal.returns-else-reach-directory
returns-else-reach-directory c = search (applying, rules)
