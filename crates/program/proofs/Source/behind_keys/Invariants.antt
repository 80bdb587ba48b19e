-- What carries it: what is left of the keys ends where all of them do.
use Rattle.program.proofs.Found.{KeysLeft}
use Rattle.program.proofs.Source.behind_keys.Given as goal

abbrev pub invariant-loop : goal.invariant-loop
invariant-loop l = KeysLeft l.self.ends.now l.at l.count l.counter l.next
