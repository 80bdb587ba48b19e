-- What carries it: what a statement that runs no other construct comes to, once its step is counted.
use Rattle.runner.proofs.Stmts.{single_runs}
use borrow.Author.Rules.{rules}
use Rattle.runner.proofs.running.run_single.Goals as goal

pub count_step-requires : goal.count_step-requires
count_step-requires c = search (single_runs, rules)

pub single-requires : goal.single-requires
single-requires c = search (single_runs, rules)

pub returns : goal.returns
returns c = search (single_runs, rules)
