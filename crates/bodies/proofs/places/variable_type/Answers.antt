-- What carries it: what a global's shape and a tag say of the rules' judgement.
use Rattle.std.proofs.lemmas.Result.{err_from_is_err_and}
use Rattle.bodies.proofs.Plain.{shapes}
use borrow.Author.Rules.{rules}
use Rattle.bodies.proofs.places.variable_type.Goals as goal

pub returns-in_err-t : goal.returns-in_err-t
returns-in_err-t c = let p = err_from_is_err_and c.from_residual.result c.from_residual.ensures.1 in rw (p.1, p.2) (search (shapes, c.in_err-t.ensures, rules))

pub seen_type-requires : goal.seen_type-requires
seen_type-requires c = search (shapes, c.in_ok-t.ensures, rules)

pub returns-in-Variable : goal.returns-in-Variable
returns-in-Variable c = search (shapes, c.in_ok-t.ensures, rules)

pub returns-in-Header : goal.returns-in-Header
returns-in-Header c = search (shapes, c.in_ok-t.ensures, rules)
