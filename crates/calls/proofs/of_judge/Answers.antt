-- `calls::of_judge` meets its contract: each case of the answer in five slots.
use borrow.Author.Rules.{rules}
use Rattle.calls.proofs.Telling.{cases}
use Rattle.calls.proofs.of_judge.Goals as goal

pub returns-in-Ok : goal.returns-in-Ok
returns-in-Ok c = search (cases, rules)

pub returns-in-Err : goal.returns-in-Err
returns-in-Err c = search (cases, rules)
