-- `numbers::number_at` meets its contract: what was read so far and what is left give what stands at the place.
use borrow.Author.Rules.{rules}
use Rattle.numbers.proofs.Within.{withins}
use Rattle.numbers.proofs.number_at.Goals as goal

pub overflow_mul-value : goal.overflow_mul-value
overflow_mul-value c = search (withins, rules)

pub overflow_add-value : goal.overflow_add-value
overflow_add-value c = search (withins, rules)

pub overflow_mul-weight : goal.overflow_mul-weight
overflow_mul-weight c = search (withins, rules)

pub overflow_add-result : goal.overflow_add-result
overflow_add-result c = search (withins, rules)

pub returns-in-Some-Last : goal.returns-in-Some-Last
returns-in-Some-Last c = search (withins, rules)

pub returns-in-None : goal.returns-in-None
returns-in-None c = search (withins, rules)

pub loop-at-preserved : goal.loop-at-preserved
loop-at-preserved c = search (withins, rules)

pub returns : goal.returns
returns c = search (withins, rules)

pub overflow_mul-result : goal.overflow_mul-result
overflow_mul-result c = search (withins, rules)
