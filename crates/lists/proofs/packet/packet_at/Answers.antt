-- What carries it: a packet is read where the version has a parser.
use Rattle.lists.proofs.Packets.{packets}
use borrow.Author.Rules.{rules}
use Rattle.lists.proofs.packet.packet_at.Goals as goal

pub returns-then-has_parser : goal.returns-then-has_parser
returns-then-has_parser c = search (packets, rules)

pub returns-else-has_parser : goal.returns-else-has_parser
returns-else-has_parser c = search (packets, rules)
