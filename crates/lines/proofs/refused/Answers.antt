-- `lines::refused` meets its promise: the line's length decides the answer, and with it whether the line is put.
use borrow.Author.Rules.{rules}
use Rattle.lines.proofs.Whole.{refusals}
use Rattle.lines.proofs.refused.Goals as goal

pub put_line-requires : goal.put_line-requires
put_line-requires c = search (refusals, rules)

pub returns-then-bytes-length : goal.returns-then-bytes-length
returns-then-bytes-length c = search (refusals, rules)

pub returns : goal.returns
returns c = search (refusals, rules)
