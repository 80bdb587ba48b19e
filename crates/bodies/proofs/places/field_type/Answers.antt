-- What carries it: what a global's shape and a tag say of the rules' judgement.
use Rattle.std.proofs.lemmas.Result.{err_from_is_err_and}
use Rattle.bodies.proofs.Plain.{shapes}
use borrow.Author.Rules.{rules}
use Rattle.bodies.proofs.places.field_type.Goals as goal

pub returns-in_err-global_named : goal.returns-in_err-global_named
returns-in_err-global_named c = let p = err_from_is_err_and c.from_residual.result c.from_residual.ensures.1 in rw (p.1, p.2) (search (shapes, c.in_err-global_named.ensures, rules))

pub width_type-requires : goal.width_type-requires
width_type-requires c = search (shapes, c.in_ok-global_named.ensures, rules)

pub returns-in-Variable : goal.returns-in-Variable
returns-in-Variable c = search (shapes, c.in_ok-global_named.ensures, rules)

pub returns-in-Header : goal.returns-in-Header
returns-in-Header c = search (shapes, c.in_ok-global_named.ensures, rules)
