-- What carries it: a number passes a test, does not, or is missing.
use Rattle.std.proofs.lemmas.Result.{err_from_is_err_and}
use Rattle.lists.proofs.Steps.{leaves}
use borrow.Author.Rules.{rules}
use Rattle.lists.proofs.values.passing_at.Goals as goal

pub returns-in_err-number : goal.returns-in_err-number
returns-in_err-number g c = λ test h. let p = err_from_is_err_and c.from_residual.result c.from_residual.ensures.1 in rw (p.1, p.2) (search (leaves, c.in_err-number.ensures, rules))

pub returns-then-passes : goal.returns-then-passes
returns-then-passes g c = λ test h. search (leaves, h, c.in_ok-number.ensures, rules)

pub returns : goal.returns
returns g c = λ test h. search (leaves, h, c.in_ok-number.ensures, rules)
