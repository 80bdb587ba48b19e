-- What carries it: what cleared slots make of the header.
use Rattle.store.proofs.Marking.{marks, header-room}
use native.Mathlib.Omega.{arith}
use borrow.Author.Rules.{rules}
use Rattle.store.proofs.headers.set_invalid.Goals as goal

pub overflow_add-g : goal.overflow_add-g
overflow_add-g c = omega (arith, header-room _ _ _ c.requires)

pub offset_bounds-directory-g : goal.offset_bounds-directory-g
offset_bounds-directory-g c = omega (arith, header-room _ _ _ c.requires)

pub bounds-directory-g : goal.bounds-directory-g
bounds-directory-g c = omega (arith, header-room _ _ _ c.requires)

pub overflow_add-g-2 : goal.overflow_add-g-2
overflow_add-g-2 c = omega (arith, header-room _ _ _ c.requires)

pub overflow_add-g-3 : goal.overflow_add-g-3
overflow_add-g-3 c = omega (arith, header-room _ _ _ c.requires)

pub offset_bounds-directory-g-2 : goal.offset_bounds-directory-g-2
offset_bounds-directory-g-2 c = omega (arith, header-room _ _ _ c.requires)

pub bounds-directory-g-2 : goal.bounds-directory-g-2
bounds-directory-g-2 c = omega (arith, header-room _ _ _ c.requires)

pub clear-requires : goal.clear-requires
clear-requires c = search (marks, rules)

pub returns : goal.returns
returns c = search (marks, rules)
