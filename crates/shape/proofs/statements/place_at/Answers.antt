-- What carries it: what stands behind a target's tag.
use Rattle.shape.proofs.Targets.{places}
use borrow.Author.Rules.{rules}
use Rattle.shape.proofs.statements.place_at.Goals as goal

pub returns-in-OneNumber : goal.returns-in-OneNumber
returns-in-OneNumber c = search (places, rules)

pub returns-in-TwoNumbers : goal.returns-in-TwoNumbers
returns-in-TwoNumbers c = search (places, rules)

pub returns-in-NoPlace : goal.returns-in-NoPlace
returns-in-NoPlace c = search (places, rules)
