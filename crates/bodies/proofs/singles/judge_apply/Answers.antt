-- What carries it: a table and a header by their names.
use Rattle.bodies.proofs.Forming.{marking}
use borrow.Author.Rules.{rules}
use Rattle.bodies.proofs.singles.judge_apply.Goals as goal

pub returns-then-source-at : goal.returns-then-source-at
returns-then-source-at c = search (marking, rules)

pub returns-else-source-at : goal.returns-else-source-at
returns-else-source-at c = search (marking, rules)
