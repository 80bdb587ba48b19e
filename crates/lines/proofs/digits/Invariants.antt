-- `lines::digits` meets its contract: what is counted and what is left give the number of digits.
use Rattle.lines.proofs.Figures.{Counting}
use Rattle.lines.proofs.digits.Given as goal

abbrev pub invariant-loop-rest : goal.invariant-loop-rest
invariant-loop-rest l = Counting l.number l.rest l.count

abbrev pub decreases-loop-rest : goal.decreases-loop-rest
decreases-loop-rest l = l.rest
