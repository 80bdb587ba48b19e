-- What carries it: a number that fits a type fits its width.
use Rattle.lists.proofs.Steps.{types}
use borrow.Author.Rules.{rules}
use Rattle.lists.proofs.values.typed_at.Goals as goal

pub returns-then-ty-eq0 : goal.returns-then-ty-eq0
returns-then-ty-eq0 c = search (types, rules)

pub returns-else-ty-eq0 : goal.returns-else-ty-eq0
returns-else-ty-eq0 c = search (types, rules)
