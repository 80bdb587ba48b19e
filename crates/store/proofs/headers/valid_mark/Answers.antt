-- What carries it: where a header's mark stands.
use Rattle.store.proofs.Marking.{marks, header-room}
use native.Mathlib.Omega.{arith}
use borrow.Author.Rules.{rules}
use Rattle.store.proofs.headers.valid_mark.Goals as goal

pub overflow_add-result : goal.overflow_add-result
overflow_add-result c = omega (arith, header-room _ _ _ c.requires)

pub offset_bounds-directory-g : goal.offset_bounds-directory-g
offset_bounds-directory-g c = omega (arith, header-room _ _ _ c.requires)

pub bounds-directory-g : goal.bounds-directory-g
bounds-directory-g c = omega (arith, header-room _ _ _ c.requires)

pub offset_bounds-slots-directory : goal.offset_bounds-slots-directory
offset_bounds-slots-directory c = omega (arith, header-room _ _ _ c.requires)

pub bounds-slots-directory : goal.bounds-slots-directory
bounds-slots-directory c = omega (arith, header-room _ _ _ c.requires)

pub returns : goal.returns
returns c = search (marks, rules)
