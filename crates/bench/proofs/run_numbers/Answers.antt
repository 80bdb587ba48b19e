-- What carries it: the judge's verdict on the numbers.
use Rattle.bench.proofs.Running.{runs, verdict-accepted, verdict-runs}
use mathlib.Core.List.{[]}
use borrow.Author.Rules.{rules}
use Rattle.bench.proofs.run_numbers.Goals as goal

pub judge-verdict-requires : goal.judge-verdict-requires
judge-verdict-requires c = search (runs, rules)

pub run_accepted-requires : goal.run_accepted-requires
run_accepted-requires c = verdict-accepted _ _ [] [] c.requires _ _ _ _ _ _ c.judge-verdict.ensures _ c.in-Ok.is _ c.prepare.ensures

pub returns-in-Ok : goal.returns-in-Ok
returns-in-Ok c = verdict-runs _ _ _ _ c.requires _ _ _ _ _ _ c.judge-verdict.ensures _ c.in-Ok.is _ c.prepare.ensures _ _ _ c.run_accepted.ensures

pub returns-in-Err : goal.returns-in-Err
returns-in-Err c = search (runs, rules)
