-- What carries it: the laws of a number at an index.
use Rattle.shape.proofs.Laws.{leaves}
use borrow.Author.Rules.{rules}
use Rattle.shape.proofs.looks.value_in.Goals as goal

pub returns-then-n-least : goal.returns-then-n-least
returns-then-n-least c = search (leaves, rules)

pub returns-then-most-n : goal.returns-then-most-n
returns-then-most-n c = search (leaves, rules)

pub returns-else-most-n : goal.returns-else-most-n
returns-else-most-n c = search (leaves, rules)

pub returns-else-at-nums : goal.returns-else-at-nums
returns-else-at-nums c = search (leaves, rules)
