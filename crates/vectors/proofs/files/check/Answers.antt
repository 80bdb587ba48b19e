-- `vectors::files::check` is safe: the numbers that are counted lie within the slots.
use borrow.Author.Rules.{rules}
use Rattle.numbers.proofs.Outcomes.{numbers-within}
use Rattle.numbers.proofs.Room.{part-whole}
use Rattle.vectors.proofs.files.check.Goals as goal

pub slice_bounds-slots-end : goal.slice_bounds-slots-end
slice_bounds-slots-end g c = search (numbers-within, rules)

pub slice_bounds-numbers-end : goal.slice_bounds-numbers-end
slice_bounds-numbers-end g c = search (numbers-within, part-whole, rules)
