-- `lines::put_word` meets its contract: the word is copied to the front.
use borrow.Author.Rules.{rules}
use Rattle.lines.proofs.Storing.{word-put}
use Rattle.lines.proofs.put_word.Goals as goal

pub returns : goal.returns
returns c = search (word-put, rules)
