-- What carries it: the fields so far.
use native.Mathlib.Omega.{arith}
use Rattle.store.proofs.Streaming.{fieldings, field_room}
use borrow.Author.Rules.{rules}
use Rattle.store.proofs.packet.fill_fields.Goals as goal

pub loop-i-init : goal.loop-i-init
loop-i-init c = search (fieldings, rules)

pub read_bits-requires : goal.read_bits-requires
read_bits-requires c = search (fieldings, rules)

pub overflow_add-first : goal.overflow_add-first
overflow_add-first c = omega (arith, field_room _ _ _ _ _ _ _ _ _ c.loop-i.invariant c.loop-i-test.true)

pub loop-i-preserved : goal.loop-i-preserved
loop-i-preserved c = search (fieldings, rules)
