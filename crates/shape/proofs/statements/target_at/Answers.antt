-- What carries it: a target is its tag and what stands behind it.
use Rattle.shape.proofs.Targets.{targets}
use borrow.Author.Rules.{rules}
use Rattle.shape.proofs.statements.target_at.Goals as goal

pub returns-then-depth-eq0 : goal.returns-then-depth-eq0
returns-then-depth-eq0 c = search (targets, rules)

pub returns-then-at-nums : goal.returns-then-at-nums
returns-then-at-nums c = search (targets, rules)

pub returns-else-at-nums : goal.returns-else-at-nums
returns-else-at-nums c = search (targets, rules)
