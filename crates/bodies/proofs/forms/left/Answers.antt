-- What carries it: a rule that holds or does not, and the kinds of bodies.
use Rattle.bodies.proofs.Forming.{ruling}
use borrow.Author.Rules.{rules}
use Rattle.bodies.proofs.forms.left.Goals as goal

pub returns : goal.returns
returns c = search (ruling, rules)
