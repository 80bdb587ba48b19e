-- What carries it: a field fits its width under a valid mark, and no bits under another.
use Rattle.lists.proofs.Fields.{marks}
use borrow.Author.Rules.{rules}
use Rattle.lists.proofs.store.width_under.Goals as goal

pub returns-then-mark-eq1 : goal.returns-then-mark-eq1
returns-then-mark-eq1 c = search (marks, rules)

pub returns-else-mark-eq1 : goal.returns-else-mark-eq1
returns-else-mark-eq1 c = search (marks, rules)
