-- `bench::lines` meets its promise: what the run of the file answered and left is what is printed.
use Rattle.bench.proofs.Printing.{printings}
use borrow.Author.Rules.{rules}
use Rattle.bench.proofs.lines.Goals as goal

pub slice_bounds-results-end : goal.slice_bounds-results-end
slice_bounds-results-end c = search (printings, rules)

pub slice_bounds-ended-end : goal.slice_bounds-ended-end
slice_bounds-ended-end c = search (printings, rules)

pub returns-in-Ok : goal.returns-in-Ok
returns-in-Ok c = search (printings, rules)

pub returns-in-Err : goal.returns-in-Err
returns-in-Err c = search (printings, rules)
