-- What carries it: a program is its version, its declarations, its definitions and its body.
use Rattle.shape.proofs.Programs.{programs}
use borrow.Author.Rules.{rules}
use Rattle.shape.proofs.scan_program.Goals as goal

pub returns-in-Ok : goal.returns-in-Ok
returns-in-Ok c = search (programs, c.in-Ok.ensures.lays_directory, c.in-Ok.ensures.lays_ends, rules)

pub returns-in-Err : goal.returns-in-Err
returns-in-Err c = search (programs, c.in-Err.ensures.lays_directory, c.in-Err.ensures.lays_ends, rules)
