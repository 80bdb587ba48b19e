-- What carries it: what the judge says of the numbers, with its index become a place.
use Rattle.bench.proofs.Judging.{verdicts}
use borrow.Author.Rules.{rules}
use Rattle.bench.proofs.judge_numbers.Goals as goal

pub judge-verdict-requires : goal.judge-verdict-requires
judge-verdict-requires c = search (verdicts, rules)

pub returns-in-Ok : goal.returns-in-Ok
returns-in-Ok c = search (verdicts, rules)

pub returns-in-Err : goal.returns-in-Err
returns-in-Err c = search (verdicts, rules)
