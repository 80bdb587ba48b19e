-- What carries it: a global is a variable or a header, by its type.
use Rattle.lists.proofs.Globals.{globals}
use borrow.Author.Rules.{rules}
use Rattle.lists.proofs.store.cell_at.Goals as goal

pub overflow_sub-ty : goal.overflow_sub-ty
overflow_sub-ty c = search (globals, rules)

pub returns-then-ty-le-WIDEST : goal.returns-then-ty-le-WIDEST
returns-then-ty-le-WIDEST c = search (globals, rules)

pub returns-else-ty-le-WIDEST : goal.returns-else-ty-le-WIDEST
returns-else-ty-le-WIDEST c = search (globals, rules)
