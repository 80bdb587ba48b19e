-- What carries it: the widths that are left, and the bits of those before them.
use Rattle.bodies.proofs.Extracting.{adding}
use borrow.Author.Rules.{rules}
use Rattle.bodies.proofs.places.whole_bytes.Goals as goal

pub overflow_add-next-end : goal.overflow_add-next-end
overflow_add-next-end c = search (adding, rules)

pub loop-next-init : goal.loop-next-init
loop-next-init c = search (adding, rules)

pub offset_bounds-nums-next : goal.offset_bounds-nums-next
offset_bounds-nums-next c = search (adding, rules)

pub bounds-nums-next : goal.bounds-nums-next
bounds-nums-next c = search (adding, rules)

pub overflow_add-bits : goal.overflow_add-bits
overflow_add-bits c = search (adding, rules)

pub loop-next-preserved : goal.loop-next-preserved
loop-next-preserved c = search (adding, rules)

pub returns : goal.returns
returns c = search (adding, rules)
