-- `numbers::length_of` meets its contract: what is counted and what is left give the number of groups.
use borrow.Author.Rules.{rules}
use Rattle.numbers.proofs.Measuring.{groupings}
use Rattle.numbers.proofs.length_of.Goals as goal

pub overflow_add-taken : goal.overflow_add-taken
overflow_add-taken c = search (groupings, rules)

pub loop-rest-preserved : goal.loop-rest-preserved
loop-rest-preserved c = search (groupings, rules)

pub returns : goal.returns
returns c = search (groupings, rules)
