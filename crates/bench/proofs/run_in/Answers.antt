-- What carries it: the bytes read as numbers, or are refused by the stream.
use borrow.Author.Rules.{rules}
use Rattle.std.proofs.lemmas.Result.{err_from_is_err_and}
use Rattle.bench.proofs.Running.{runs}
use Rattle.bench.proofs.Judging.{readings}
use Rattle.bench.proofs.run_in.Goals as goal

pub slice_bounds-run_numbers-end : goal.slice_bounds-run_numbers-end
slice_bounds-run_numbers-end c = search (runs, readings, c.in_ok-count.was, rules)

pub slice_bounds-run_numbers-end-2 : goal.slice_bounds-run_numbers-end-2
slice_bounds-run_numbers-end-2 c = search (runs, readings, c.in_ok-count.was, rules)

pub run_numbers-requires : goal.run_numbers-requires
run_numbers-requires c = search (runs, readings, c.in_ok-count.was, rules)

pub returns-in_err-count : goal.returns-in_err-count
returns-in_err-count c =
    let p = err_from_is_err_and c.from_residual.result c.from_residual.ensures.1 in
    rw (p.1, p.2) (search (runs, readings, c.in_err-count.was, rules))
