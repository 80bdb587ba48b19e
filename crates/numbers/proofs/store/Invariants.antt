-- `numbers::store` meets its contract: what is stored and what is left to store give the bytes' later contents.
use Rattle.numbers.proofs.Storing.{Storing}
use Rattle.numbers.proofs.store.Given as goal

abbrev pub invariant-loop-number : goal.invariant-loop-number
invariant-loop-number l = Storing l.numbers l.initial.bytes l.bytes l.at l.number-index
