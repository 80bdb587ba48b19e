-- What carries it: what a global's number says of its header type.
use Rattle.form.proofs.OfGlobals.{globals}
use borrow.Author.Rules.{rules}
use Rattle.form.proofs.globals.judge_global.Goals as goal

pub overflow_add-at-2 : goal.overflow_add-at-2
overflow_add-at-2 c = search (globals, rules)

pub offset_bounds-source-g : goal.offset_bounds-source-g
offset_bounds-source-g c = search (globals, rules)

pub bounds-source-g : goal.bounds-source-g
bounds-source-g c = search (globals, rules)

pub returns : goal.returns
returns c = search (globals, rules)
