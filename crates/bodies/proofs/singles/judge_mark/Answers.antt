-- What carries it: a table and a header by their names.
use Rattle.std.proofs.lemmas.Result.{err_from_is_err_and}
use Rattle.bodies.proofs.Forming.{marking}
use borrow.Author.Rules.{rules}
use Rattle.bodies.proofs.singles.judge_mark.Goals as goal

pub returns-in_err-header_type : goal.returns-in_err-header_type
returns-in_err-header_type c = let p = err_from_is_err_and c.from_residual.result c.from_residual.ensures.1 in rw (p.1, p.2) (search (marking, c.in_err-header_type.ensures, rules))

pub returns : goal.returns
returns c = search (marking, c.in_ok-header_type.ensures, rules)
