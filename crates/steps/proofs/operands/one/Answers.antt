-- What carries it: the expression that stands at the tag.
use Rattle.steps.proofs.Ones.{ones}
use borrow.Author.Rules.{rules}
use Rattle.steps.proofs.operands.one.Goals as goal

pub negated-requires : goal.negated-requires
negated-requires c = search (ones, rules)

pub complemented-requires : goal.complemented-requires
complemented-requires c = search (ones, rules)

pub bounds-nums-at-in-10 : goal.bounds-nums-at-in-10
bounds-nums-at-in-10 c = search (ones, rules)

pub cast_to-requires : goal.cast_to-requires
cast_to-requires c = search (ones, rules)

pub bounds-nums-at-in_default : goal.bounds-nums-at-in_default
bounds-nums-at-in_default c = search (ones, rules)

pub bounds-nums-at-in_default-2 : goal.bounds-nums-at-in_default-2
bounds-nums-at-in_default-2 c = search (ones, rules)

pub sliced-requires : goal.sliced-requires
sliced-requires c = search (ones, rules)

pub returns-in-7 : goal.returns-in-7
returns-in-7 c = search (ones, rules)

pub returns-in-8 : goal.returns-in-8
returns-in-8 c = search (ones, rules)

pub returns-in-10 : goal.returns-in-10
returns-in-10 c = search (ones, rules)

pub returns-in_default : goal.returns-in_default
returns-in_default c = search (ones, rules)
