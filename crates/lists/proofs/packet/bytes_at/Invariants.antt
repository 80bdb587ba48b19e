-- What carries it: what is read of the bytes that are left is read of all.
use Rattle.lists.proofs.Packets.{BytesLeft}
use Rattle.lists.proofs.packet.bytes_at.Given as goal

abbrev pub invariant-loop : goal.invariant-loop
invariant-loop l = BytesLeft l.nums l.count l.at l.counter l.next
