-- What carries it: the packet is read, and nothing is left behind it.
use Rattle.std.proofs.lemmas.Result.{err_from_is_err_and}
use Rattle.lists.proofs.Packets.{packets}
use borrow.Author.Rules.{rules}
use Rattle.lists.proofs.packet.last_at.Goals as goal

pub returns-in_err-next : goal.returns-in_err-next
returns-in_err-next c = let p = err_from_is_err_and c.from_residual.result c.from_residual.ensures.1 in rw (p.1, p.2) (search (packets, c.in_err-next.ensures, rules))

pub returns-then-next-nums : goal.returns-then-next-nums
returns-then-next-nums c = search (packets, c.in_ok-next.ensures, rules)

pub returns-else-next-nums : goal.returns-else-next-nums
returns-else-next-nums c = search (packets, c.in_ok-next.ensures, rules)
