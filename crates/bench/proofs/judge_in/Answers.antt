-- `bench::judge_in` meets its contract: the bytes read as the numbers that are judged, or are refused by the stream.
use borrow.Author.Rules.{rules}
use Rattle.std.proofs.lemmas.Result.{err_from_is_err_and}
use Rattle.bench.proofs.Judging.{readings}
use Rattle.bench.proofs.judge_in.Goals as goal

pub slice_bounds-judge_numbers-end : goal.slice_bounds-judge_numbers-end
slice_bounds-judge_numbers-end c = search (readings, c.in_ok-count.was, rules)

pub slice_bounds-judge_numbers-end-2 : goal.slice_bounds-judge_numbers-end-2
slice_bounds-judge_numbers-end-2 c = search (readings, c.in_ok-count.was, rules)

pub judge_numbers-requires : goal.judge_numbers-requires
judge_numbers-requires c = search (readings, c.in_ok-count.was, rules)

pub returns-in_err-count : goal.returns-in_err-count
returns-in_err-count c =
    let p = err_from_is_err_and c.from_residual.result c.from_residual.ensures.1 in
    rw (p.1, p.2) (search (readings, c.in_err-count.was, rules))
