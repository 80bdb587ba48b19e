-- `mark::lines` meets its contract: the bytes suffice for every file.
use borrow.Author.Rules.{rules}
use Rattle.mark.proofs.Marking.{marked}
use Rattle.mark.proofs.lines.Goals as goal

pub returns : goal.returns
returns c = search (marked, rules)
