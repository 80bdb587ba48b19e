-- `calls::of_finished` meets its contract: each case of the signal in five slots.
use borrow.Author.Rules.{rules}
use Rattle.calls.proofs.Telling.{cases}
use Rattle.calls.proofs.of_finished.Goals as goal

pub returns-in-Done : goal.returns-in-Done
returns-in-Done c = search (cases, rules)

pub returns-in-Exit : goal.returns-in-Exit
returns-in-Exit c = search (cases, rules)

pub returns-in-Reject : goal.returns-in-Reject
returns-in-Reject c = search (cases, rules)
