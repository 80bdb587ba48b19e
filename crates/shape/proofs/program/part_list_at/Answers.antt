-- What carries it: a list of parts is its count and the parts.
use Rattle.std.proofs.lemmas.Result.{err_from_is_err_and}
use Rattle.shape.proofs.Walking.{list_walks}
use borrow.Author.Rules.{rules}
use Rattle.shape.proofs.program.part_list_at.Goals as goal

pub returns-in_err-value : goal.returns-in_err-value
returns-in_err-value g c = let p = err_from_is_err_and c.from_residual.result c.from_residual.ensures.1 in rw (p.1, p.2) (search (list_walks, c.in_err-value.ensures, rules))

pub parts_at-requires-clause-room : goal.parts_at-requires-clause-room
parts_at-requires-clause-room g c = search (list_walks, c.in_ok-value.ensures, rules)

pub returns : goal.returns
returns g c = search (list_walks, c.in_ok-value.ensures, rules)
