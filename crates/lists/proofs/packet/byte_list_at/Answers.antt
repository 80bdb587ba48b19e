-- What carries it: a list's count, and its bytes behind it.
use Rattle.std.proofs.lemmas.Result.{err_from_is_err_and}
use Rattle.lists.proofs.Packets.{packets}
use borrow.Author.Rules.{rules}
use Rattle.lists.proofs.packet.byte_list_at.Goals as goal

pub returns-in_err-count : goal.returns-in_err-count
returns-in_err-count c = let p = err_from_is_err_and c.from_residual.result c.from_residual.ensures.1 in rw (p.1, p.2) (search (packets, c.in_err-count.ensures, rules))

pub returns-then-count-le-MOST_PACKET : goal.returns-then-count-le-MOST_PACKET
returns-then-count-le-MOST_PACKET c = search (packets, c.in_ok-count.ensures, rules)

pub returns-else-count-le-MOST_PACKET : goal.returns-else-count-le-MOST_PACKET
returns-else-count-le-MOST_PACKET c = search (packets, c.in_ok-count.ensures, rules)
