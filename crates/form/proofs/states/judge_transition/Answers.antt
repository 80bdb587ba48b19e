-- What carries it: a transition by its tag.
use Rattle.form.proofs.OfStates.{transitions}
use borrow.Author.Rules.{rules}
use Rattle.form.proofs.states.judge_transition.Goals as goal

pub returns-in-3 : goal.returns-in-3
returns-in-3 c = search (transitions, rules)

pub returns-in-4 : goal.returns-in-4
returns-in-4 c = search (transitions, rules)

pub returns-in_default : goal.returns-in_default
returns-in_default c = search (transitions, rules)
