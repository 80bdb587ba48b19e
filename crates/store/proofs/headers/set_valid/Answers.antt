-- What carries it: what a mark that is set makes of the header.
use Rattle.store.proofs.Marking.{marks, header-room}
use native.Mathlib.Omega.{arith}
use borrow.Author.Rules.{rules}
use Rattle.store.proofs.headers.set_valid.Goals as goal

pub overflow_add-mark : goal.overflow_add-mark
overflow_add-mark c = omega (arith, header-room _ _ _ c.requires)

pub offset_bounds-directory-g : goal.offset_bounds-directory-g
offset_bounds-directory-g c = omega (arith, header-room _ _ _ c.requires)

pub bounds-directory-g : goal.bounds-directory-g
bounds-directory-g c = omega (arith, header-room _ _ _ c.requires)

pub offset_bounds-slots-mark : goal.offset_bounds-slots-mark
offset_bounds-slots-mark c = omega (arith, header-room _ _ _ c.requires)

pub bounds-slots-mark : goal.bounds-slots-mark
bounds-slots-mark c = omega (arith, header-room _ _ _ c.requires)

pub returns : goal.returns
returns c = search (marks, rules)
