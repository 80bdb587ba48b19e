-- What carries it: whether the slots are enough.
use Rattle.bench.proofs.Running.{rooms}
use borrow.Author.Rules.{rules}
use Rattle.bench.proofs.run_accepted.Goals as goal

pub returns-then-working-lt-WORKING : goal.returns-then-working-lt-WORKING
returns-then-working-lt-WORKING c = search (rooms, rules)
