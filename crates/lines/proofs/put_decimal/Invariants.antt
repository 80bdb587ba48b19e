-- `lines::put_decimal` meets its contract: what is put and what is left to put give the bytes' later contents.
use Rattle.lines.proofs.Figures.{Putting}
use Rattle.lines.proofs.put_decimal.Given as goal

abbrev pub invariant-loop-rest : goal.invariant-loop-rest
invariant-loop-rest l = Putting l.number l.place l.initial.bytes l.bytes l.at l.rest

abbrev pub decreases-loop-rest : goal.decreases-loop-rest
decreases-loop-rest l = l.rest
