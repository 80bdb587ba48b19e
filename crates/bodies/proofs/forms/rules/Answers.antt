-- What carries it: a rule that holds or does not, and the kinds of bodies.
use Rattle.bodies.proofs.Forming.{ruling}
use borrow.Author.Rules.{rules}
use Rattle.bodies.proofs.forms.rules.Goals as goal

pub returns-then-first : goal.returns-then-first
returns-then-first c = search (ruling, rules)

pub returns-else-first : goal.returns-else-first
returns-else-first c = search (ruling, rules)
