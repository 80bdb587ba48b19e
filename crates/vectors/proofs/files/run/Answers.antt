-- `vectors::files::run` is safe: the lines that are counted lie within the bytes lent.
use borrow.Author.Rules.{rules}
use Rattle.numbers.proofs.Room.{part-whole}
use Rattle.vectors.proofs.Within.{lines-within}
use Rattle.vectors.proofs.files.run.Goals as goal

pub slice_bounds-result-end : goal.slice_bounds-result-end
slice_bounds-result-end g c = search (lines-within, rules)

pub slice_bounds-text-end-in-Ok : goal.slice_bounds-text-end-in-Ok
slice_bounds-text-end-in-Ok g c = search (lines-within, part-whole, rules)
