-- What carries it: one law an arm, by the operator's number.
use Rattle.values.proofs.Operators.{arms}
use borrow.Author.Rules.{rules}
use Rattle.values.proofs.binary.Goals as goal

pub difference-requires : goal.difference-requires
difference-requires c = search (arms, rules)

pub returns-in-0 : goal.returns-in-0
returns-in-0 c = search (arms, rules)

pub returns-in-1 : goal.returns-in-1
returns-in-1 c = search (arms, rules)

pub returns-in-2 : goal.returns-in-2
returns-in-2 c = search (arms, rules)

pub returns-in-3 : goal.returns-in-3
returns-in-3 c = search (arms, rules)

pub returns-in-4 : goal.returns-in-4
returns-in-4 c = search (arms, rules)

pub returns-in-5 : goal.returns-in-5
returns-in-5 c = search (arms, rules)

pub returns-in-6 : goal.returns-in-6
returns-in-6 c = search (arms, rules)

pub returns-in-7 : goal.returns-in-7
returns-in-7 c = search (arms, rules)

pub returns-in-8 : goal.returns-in-8
returns-in-8 c = search (arms, rules)

pub returns-in-9 : goal.returns-in-9
returns-in-9 c = search (arms, rules)

pub returns-in-10 : goal.returns-in-10
returns-in-10 c = search (arms, rules)

pub returns-in_default : goal.returns-in_default
returns-in_default c = search (arms, rules)
