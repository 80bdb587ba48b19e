-- `bench::run` meets its promise: either array has room for all numbers that the bytes may hold.
use Rattle.numbers.proofs.Outcomes.{roomy-each, roomy-most}
use borrow.Author.Rules.{rules}
use Rattle.bench.proofs.run.Goals as goal

pub run_in-requires : goal.run_in-requires
run_in-requires c = search (roomy-each, roomy-most, rules)

pub run_in-requires-else-bytes-le-SHORT : goal.run_in-requires-else-bytes-le-SHORT
run_in-requires-else-bytes-le-SHORT c = search (roomy-each, roomy-most, rules)
