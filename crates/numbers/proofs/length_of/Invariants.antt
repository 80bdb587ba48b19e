-- `numbers::length_of` meets its contract: what is counted and what is left give the number of groups.
use Rattle.numbers.proofs.Measuring.{Grouping}
use Rattle.numbers.proofs.length_of.Given as goal

abbrev pub invariant-loop-rest : goal.invariant-loop-rest
invariant-loop-rest l = Grouping l.number l.rest l.taken

abbrev pub decreases-loop-rest : goal.decreases-loop-rest
decreases-loop-rest l = l.rest
