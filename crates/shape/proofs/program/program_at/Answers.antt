-- What carries it: a program is its version, its declarations, its definitions and its body.
use Rattle.std.proofs.lemmas.Result.{err_from_is_err_and}
use Rattle.shape.proofs.Programs.{programs}
use borrow.Author.Rules.{rules}
use Rattle.shape.proofs.program.program_at.Goals as goal

pub returns-in_err-value-clause-lays_directory : goal.returns-in_err-value-clause-lays_directory
returns-in_err-value-clause-lays_directory c = let p = err_from_is_err_and c.from_residual.result c.from_residual.ensures.1 in rw (p.1, p.2) (search (programs, c.in_err-value.ensures, rules))

pub returns-in_err-value-clause-lays_ends : goal.returns-in_err-value-clause-lays_ends
returns-in_err-value-clause-lays_ends c = let p = err_from_is_err_and c.from_residual.result c.from_residual.ensures.1 in rw (p.1, p.2) (search (programs, c.in_err-value.ensures, rules))

pub returns-clause-lays_directory : goal.returns-clause-lays_directory
returns-clause-lays_directory c = search (programs, c.in_ok-value.ensures, rules)

pub returns-clause-lays_ends : goal.returns-clause-lays_ends
returns-clause-lays_ends c = search (programs, c.in_ok-value.ensures, rules)
