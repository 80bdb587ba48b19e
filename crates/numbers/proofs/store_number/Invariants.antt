-- `numbers::store_number` meets its contract: what is stored and what is left to store give the bytes' later contents.
use Rattle.numbers.proofs.Storing.{Putting}
use Rattle.numbers.proofs.store_number.Given as goal

abbrev pub invariant-loop-rest : goal.invariant-loop-rest
invariant-loop-rest l = Putting l.number l.place l.initial.bytes l.bytes l.at l.rest

abbrev pub decreases-loop-rest : goal.decreases-loop-rest
decreases-loop-rest l = l.rest
