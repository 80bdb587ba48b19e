-- What carries it: the bounds of a slice that has an answer are inside.
use Rattle.values.proofs.Results.{parts, slice-asks}
use native.Mathlib.Omega.{arith}
use borrow.Author.Rules.{rules}
use Rattle.values.proofs.sliced.Goals as goal

pub overflow_sub-high : goal.overflow_sub-high
overflow_sub-high c = search (parts, rules)

pub overflow_add-high : goal.overflow_add-high
overflow_add-high c = omega (arith, slice-asks _ _ _ _ c.requires)

pub slice-requires : goal.slice-requires
slice-requires c = search (parts, rules)

pub returns : goal.returns
returns c = search (parts, rules)
