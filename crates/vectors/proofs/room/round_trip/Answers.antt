-- `vectors::room::round_trip` is safe: the bytes that are counted lie within those lent.
use borrow.Author.Rules.{rules}
use Rattle.vectors.proofs.Within.{bytes-within}
use Rattle.vectors.proofs.room.round_trip.Goals as goal

pub slice_bounds-read_back-end : goal.slice_bounds-read_back-end
slice_bounds-read_back-end g c = search (bytes-within, rules)
