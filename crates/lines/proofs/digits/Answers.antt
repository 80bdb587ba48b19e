-- `lines::digits` meets its contract: what is counted and what is left give the number of digits.
use borrow.Author.Rules.{rules}
use Rattle.lines.proofs.Figures.{countings}
use Rattle.lines.proofs.digits.Goals as goal

pub overflow_add-count : goal.overflow_add-count
overflow_add-count c = search (countings, rules)

pub loop-rest-preserved : goal.loop-rest-preserved
loop-rest-preserved c = search (countings, rules)

pub returns : goal.returns
returns c = search (countings, rules)
