-- What carries it: a rule that holds, and one that does not.
use Rattle.form.proofs.Steps.{ruling}
use borrow.Author.Rules.{rules}
use Rattle.form.proofs.rule.Goals as goal

pub returns-then-holds : goal.returns-then-holds
returns-then-holds c = search (ruling, rules)

pub returns-else-holds : goal.returns-else-holds
returns-else-holds c = search (ruling, rules)
