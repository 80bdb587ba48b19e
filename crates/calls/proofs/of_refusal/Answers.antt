-- `calls::of_refusal` meets its contract: a refusal in five slots.
use borrow.Author.Rules.{rules}
use Rattle.calls.proofs.Telling.{cases}
use Rattle.calls.proofs.of_refusal.Goals as goal

pub returns : goal.returns
returns c = search (cases, rules)
