-- What carries it: a statement carries its tag's index.
use Rattle.std.proofs.lemmas.Result.{err_from_is_err_and}
use Rattle.shape.proofs.Starts.{bodies}
use borrow.Author.Rules.{rules}
use Rattle.shape.proofs.program.body_at.Goals as goal

pub returns-in_err-end-clause-lays_directory : goal.returns-in_err-end-clause-lays_directory
returns-in_err-end-clause-lays_directory c = let p = err_from_is_err_and c.from_residual.result c.from_residual.ensures.1 in rw (p.1, p.2) (search (bodies, c.in_err-end.ensures, rules))

pub returns-clause-lays_directory : goal.returns-clause-lays_directory
returns-clause-lays_directory c = search (bodies, c.in_ok-end.ensures, rules)
