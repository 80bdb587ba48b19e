-- What carries it: the signal of each ending.
use Rattle.runner.proofs.Wholly.{signals}
use borrow.Author.Rules.{rules}
use Rattle.runner.proofs.signal_of.Goals as goal

pub returns-in-Onward : goal.returns-in-Onward
returns-in-Onward c = search (signals, rules)

pub returns-in-Returned : goal.returns-in-Returned
returns-in-Returned c = search (signals, rules)

pub returns-in-ReturnedValue : goal.returns-in-ReturnedValue
returns-in-ReturnedValue c = search (signals, rules)

pub returns-in-Exited : goal.returns-in-Exited
returns-in-Exited c = search (signals, rules)

pub returns-in-Rejected : goal.returns-in-Rejected
returns-in-Rejected c = search (signals, rules)
