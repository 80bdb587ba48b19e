-- What carries it: what stands where the directory says.
use Rattle.program.proofs.Found.{looks}
use borrow.Author.Rules.{rules}
use Rattle.program.proofs.Source.state_of.Goals as goal

pub overflow_add-result-2 : goal.overflow_add-result-2
overflow_add-result-2 c = search (looks, rules)

pub offset_bounds-self-s : goal.offset_bounds-self-s
offset_bounds-self-s c = search (looks, rules)

pub bounds-self-s : goal.bounds-self-s
bounds-self-s c = search (looks, rules)

pub returns : goal.returns
returns c = search (looks, rules)
