-- What carries it: what stands where the directory says.
use Rattle.program.proofs.Found.{looks}
use borrow.Author.Rules.{rules}
use Rattle.program.proofs.Source.global_of.Goals as goal

pub overflow_add-at-2 : goal.overflow_add-at-2
overflow_add-at-2 c = search (looks, rules)

pub offset_bounds-self-g : goal.offset_bounds-self-g
offset_bounds-self-g c = search (looks, rules)

pub bounds-self-g : goal.bounds-self-g
bounds-self-g c = search (looks, rules)

pub offset_bounds-self-at : goal.offset_bounds-self-at
offset_bounds-self-at c = search (looks, rules)

pub bounds-self-at : goal.bounds-self-at
bounds-self-at c = search (looks, rules)

pub returns : goal.returns
returns c = search (looks, rules)
