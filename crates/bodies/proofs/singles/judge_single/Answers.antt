-- What carries it: what a statement's tag and its operands say of the rules' judgement.
use Rattle.bodies.proofs.Single.{singling}
use borrow.Author.Rules.{rules}
use Rattle.bodies.proofs.singles.judge_single.Goals as goal

pub returns-in-0 : goal.returns-in-0
returns-in-0 c = search (singling, rules)

pub returns-in-5 : goal.returns-in-5
returns-in-5 c = search (singling, rules)

pub returns-in-7 : goal.returns-in-7
returns-in-7 c = search (singling, rules)

pub returns-in-8 : goal.returns-in-8
returns-in-8 c = search (singling, rules)

pub returns-in-11 : goal.returns-in-11
returns-in-11 c = search (singling, rules)

pub returns-in_default : goal.returns-in_default
returns-in_default c = search (singling, rules)
