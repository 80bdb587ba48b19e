-- What carries it: a rule that holds or does not, and the kinds of bodies.
use Rattle.bodies.proofs.Forming.{ruling}
use borrow.Author.Rules.{rules}
use Rattle.bodies.proofs.forms.rule.Goals as goal

pub returns-then-holds : goal.returns-then-holds
returns-then-holds c = search (ruling, rules)

pub returns-else-holds : goal.returns-else-holds
returns-else-holds c = search (ruling, rules)
