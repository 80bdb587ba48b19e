-- What carries it: an exit and a reject write nothing back, every other ending does.
use Rattle.steps.proofs.ComesBack.{back_told}
use borrow.Author.Rules.{rules}
use Rattle.steps.proofs.calls.comes_back.Goals as goal

pub returns-in-Exited : goal.returns-in-Exited
returns-in-Exited c = search (back_told, rules)

pub returns-in-Rejected : goal.returns-in-Rejected
returns-in-Rejected c = search (back_told, rules)
