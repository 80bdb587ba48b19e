-- What carries it: the value of an expression without operands, once its step is counted.
use Rattle.runner.proofs.Exprs.{leaf_runs}
use borrow.Author.Rules.{rules}
use Rattle.runner.proofs.running.run_leaf.Goals as goal

pub count_step-requires : goal.count_step-requires
count_step-requires c = search (leaf_runs, rules)

pub leaf-requires : goal.leaf-requires
leaf-requires c = search (leaf_runs, rules)

pub returns : goal.returns
returns c = search (leaf_runs, rules)
