-- What carries it: the first stage, what the parser comes to, and what the apply body comes to.
use Rattle.runner.proofs.Wholly.{whole_runs, run-stmt-asks}
use borrow.Author.Rules.{rules}
use Rattle.runner.proofs.run.Goals as goal

pub copy-requires : goal.copy-requires
copy-requires c = search (whole_runs, rules)

pub run_parser-parsed-requires : goal.run_parser-parsed-requires
run_parser-parsed-requires c = search (whole_runs, rules)

pub run_stmt-ended-requires : goal.run_stmt-ended-requires
run_stmt-ended-requires c = run-stmt-asks _ _ _ _ _ _ _ c.requires _ c.copy.ensures _ _ _ _ _ c.run_parser-parsed.ensures c.goes_on.ensures c.if-goes_on.true c.without_frame-scope.ensures

pub returns-then-goes_on : goal.returns-then-goes_on
returns-then-goes_on c = search (whole_runs, rules)

pub returns-else-goes_on : goal.returns-else-goes_on
returns-else-goes_on c = search (whole_runs, rules)
