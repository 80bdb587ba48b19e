-- What carries it: what comes back, where the body's ending lets it.
use Rattle.steps.proofs.ComesBack.{finishing}
use borrow.Author.Rules.{rules}
use Rattle.steps.proofs.calls.finish_call.Goals as goal

pub come_back-requires : goal.come_back-requires
come_back-requires c = search (finishing, rules)

pub returns-then-comes_back : goal.returns-then-comes_back
returns-then-comes_back c = search (finishing, rules)

pub returns-else-comes_back : goal.returns-else-comes_back
returns-else-comes_back c = search (finishing, rules)
