-- What carries it: a state that is there and later.
use Rattle.form.proofs.OfPairs.{later}
use borrow.Author.Rules.{rules}
use Rattle.form.proofs.states.judge_later.Goals as goal

pub returns : goal.returns
returns c = search (later, rules)
