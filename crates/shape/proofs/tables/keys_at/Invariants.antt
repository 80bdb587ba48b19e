-- What carries it: what is left of the keys lays what all of them lay.
use Rattle.rules.specs.Reading.{read_key}
use Rattle.shape.specs.Parts.{lay_keys}
use Rattle.shape.proofs.Lays.{Pending}
use Rattle.shape.proofs.tables.keys_at.Given as goal

abbrev pub invariant-loop : goal.invariant-loop
invariant-loop l = Pending (read_key l.version) lay_keys l.count l.nums l.at l.initial.ends l.counter l.next l.ends
