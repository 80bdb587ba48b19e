-- What carries it: a rule that holds or does not, and the kinds of bodies.
use Rattle.bodies.proofs.Forming.{ruling}
use borrow.Author.Rules.{rules}
use Rattle.bodies.proofs.forms.returned.Goals as goal

pub returns-then-eq : goal.returns-then-eq
returns-then-eq c = search (ruling, rules)

pub returns-else-eq : goal.returns-else-eq
returns-else-eq c = search (ruling, rules)
