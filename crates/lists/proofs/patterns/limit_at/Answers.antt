-- What carries it: what stands behind a value, by the key's kind.
use Rattle.lists.proofs.Keys.{limits}
use borrow.Author.Rules.{rules}
use Rattle.lists.proofs.patterns.limit_at.Goals as goal

pub returns-then-kind-eq-EXACT : goal.returns-then-kind-eq-EXACT
returns-then-kind-eq-EXACT c = search (limits, rules)

pub returns-then-kind-eq-LPM : goal.returns-then-kind-eq-LPM
returns-then-kind-eq-LPM c = search (limits, rules)

pub returns-else-kind-eq-LPM : goal.returns-else-kind-eq-LPM
returns-else-kind-eq-LPM c = search (limits, rules)
