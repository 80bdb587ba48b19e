-- What carries it: the run that is asked for, and its slots copied and cleared.
use Rattle.bench.proofs.Running.{lents}
use borrow.Author.Rules.{rules}
use Rattle.bench.proofs.run_lent.Goals as goal

pub slice_bounds-run-count : goal.slice_bounds-run-count
slice_bounds-run-count c = search (lents, rules)

pub slice_bounds-run-start : goal.slice_bounds-run-start
slice_bounds-run-start c = search (lents, rules)

pub run-signal-requires : goal.run-signal-requires
run-signal-requires c = search (lents, rules)

pub copy-requires : goal.copy-requires
copy-requires c = search (lents, rules)

pub returns : goal.returns
returns c = search (lents, rules)
