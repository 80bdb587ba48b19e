-- What carries it: what stands where the directory says.
use Rattle.program.proofs.Found.{looks}
use borrow.Author.Rules.{rules}
use Rattle.program.proofs.Source.header_of.Goals as goal

pub overflow_add-result-2 : goal.overflow_add-result-2
overflow_add-result-2 c = search (looks, rules)

pub offset_bounds-self-h : goal.offset_bounds-self-h
offset_bounds-self-h c = search (looks, rules)

pub bounds-self-h : goal.bounds-self-h
bounds-self-h c = search (looks, rules)

pub returns : goal.returns
returns c = search (looks, rules)
