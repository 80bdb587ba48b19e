-- `words::parts::join` meets its contract: nothing is shifted out, by the law `joined-whole`.
-- Assumes nothing.
use Rattle.std.proofs.Common.{rules}
use Rattle.words.proofs.Pieces.{joined-whole, joined_word}
use Rattle.words.proofs.parts.join.Goals as goal

pub overflow_add-result : goal.overflow_add-result
overflow_add-result c = search (joined_word, rules)

pub returns : goal.returns
returns c = search (joined-whole, rules)
