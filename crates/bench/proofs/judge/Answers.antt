-- `bench::judge` meets its promise: either array has room for all numbers that the bytes may hold.
use borrow.Author.Rules.{rules}
use Rattle.numbers.proofs.Outcomes.{roomy-each, roomy-most}
use Rattle.bench.proofs.judge.Goals as goal

pub judge_in-requires : goal.judge_in-requires
judge_in-requires c = search (roomy-each, roomy-most, rules)

pub judge_in-requires-else-bytes-le-SHORT : goal.judge_in-requires-else-bytes-le-SHORT
judge_in-requires-else-bytes-le-SHORT c = search (roomy-each, roomy-most, rules)
