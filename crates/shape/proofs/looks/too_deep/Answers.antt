-- What carries it: the laws of a number at an index.
use Rattle.shape.proofs.Laws.{leaves}
use borrow.Author.Rules.{rules}
use Rattle.shape.proofs.looks.too_deep.Goals as goal

pub returns-then-at-nums : goal.returns-then-at-nums
returns-then-at-nums c = search (leaves, rules)

pub returns-else-at-nums : goal.returns-else-at-nums
returns-else-at-nums c = search (leaves, rules)
