-- What carries it: the first of two, by whether there is one before.
use borrow.Author.Rules.{rules}
use Rattle.form.proofs.OfKeys.{firsts}
use Rattle.form.proofs.keys.first_bool.Goals as goal

pub returns-in-Some : goal.returns-in-Some
returns-in-Some c = search (firsts, rules)

pub returns-then-t-eq0 : goal.returns-then-t-eq0
returns-then-t-eq0 c = search (firsts, rules)

pub returns-else-t-eq0 : goal.returns-else-t-eq0
returns-else-t-eq0 c = search (firsts, rules)
