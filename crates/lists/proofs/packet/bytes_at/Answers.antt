-- What carries it: what is read of the bytes that are left is read of all.
use Rattle.std.proofs.lemmas.Result.{err_from_is_err_and}
use Rattle.lists.proofs.Packets.{bytes}
use borrow.Author.Rules.{rules}
use Rattle.lists.proofs.packet.bytes_at.Goals as goal

pub returns-in_err-next : goal.returns-in_err-next
returns-in_err-next c = let p = err_from_is_err_and c.from_residual.result c.from_residual.ensures.1 in rw (p.1, p.2) (search (bytes, c.in_err-next.ensures, rules))

pub loop-preserved : goal.loop-preserved
loop-preserved c = search (bytes, c.in_ok-next.ensures, rules)

pub returns : goal.returns
returns c = search (bytes, rules)
