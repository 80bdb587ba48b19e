-- What carries it: how a call's ending goes on.
use Rattle.steps.proofs.ComesBack.{after_calls}
use borrow.Author.Rules.{rules}
use Rattle.steps.proofs.calls.after_call.Goals as goal

pub returns-in-Onward : goal.returns-in-Onward
returns-in-Onward c = search (after_calls, rules)

pub returns-in-Returned : goal.returns-in-Returned
returns-in-Returned c = search (after_calls, rules)

pub returns-in-ReturnedValue : goal.returns-in-ReturnedValue
returns-in-ReturnedValue c = search (after_calls, rules)

pub returns-in-Exited : goal.returns-in-Exited
returns-in-Exited c = search (after_calls, rules)

pub returns-in-Rejected : goal.returns-in-Rejected
returns-in-Rejected c = search (after_calls, rules)
