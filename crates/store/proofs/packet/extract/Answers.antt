-- What carries it: what a filled header makes of the state.
use native.Mathlib.Omega.{arith}
use Rattle.store.proofs.Extracting.{extractings, extract-room}
use borrow.Author.Rules.{rules}
use Rattle.store.proofs.packet.extract.Goals as goal

pub header_type-header-requires : goal.header_type-header-requires
header_type-header-requires c = search (extractings, rules)

pub overflow_add-widths : goal.overflow_add-widths
overflow_add-widths c = omega (arith, extract-room _ _ _ _ _ c.requires _ c.header_type-header.ensures)

pub offset_bounds-source-header : goal.offset_bounds-source-header
offset_bounds-source-header c = omega (arith, extract-room _ _ _ _ _ c.requires _ c.header_type-header.ensures)

pub bounds-source-header : goal.bounds-source-header
bounds-source-header c = omega (arith, extract-room _ _ _ _ _ c.requires _ c.header_type-header.ensures)

pub count_bits-bytes-requires : goal.count_bits-bytes-requires
count_bits-bytes-requires c = search (extractings, rules)

pub overflow_add-mark : goal.overflow_add-mark
overflow_add-mark c = omega (arith, extract-room _ _ _ _ _ c.requires _ c.header_type-header.ensures)

pub offset_bounds-source-g : goal.offset_bounds-source-g
offset_bounds-source-g c = omega (arith, extract-room _ _ _ _ _ c.requires _ c.header_type-header.ensures)

pub bounds-source-g : goal.bounds-source-g
bounds-source-g c = omega (arith, extract-room _ _ _ _ _ c.requires _ c.header_type-header.ensures)

pub offset_bounds-slots-mark : goal.offset_bounds-slots-mark
offset_bounds-slots-mark c = omega (arith, extract-room _ _ _ _ _ c.requires _ c.header_type-header.ensures)

pub bounds-slots-mark : goal.bounds-slots-mark
bounds-slots-mark c = omega (arith, extract-room _ _ _ _ _ c.requires _ c.header_type-header.ensures)

pub overflow_add-mark-else-source-position : goal.overflow_add-mark-else-source-position
overflow_add-mark-else-source-position c = omega (arith, extract-room _ _ _ _ _ c.requires _ c.header_type-header.ensures)

pub fill_fields-requires : goal.fill_fields-requires
fill_fields-requires c = search (extractings, rules)

pub returns-then-source-position : goal.returns-then-source-position
returns-then-source-position c = search (extractings, rules)

pub returns-else-source-position : goal.returns-else-source-position
returns-else-source-position c = search (extractings, rules)
