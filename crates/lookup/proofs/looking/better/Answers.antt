-- What carries it: when an entry beats an earlier one.
use Rattle.lookup.proofs.Betters.{betters}
use borrow.Author.Rules.{rules}
use Rattle.lookup.proofs.looking.better.Goals as goal
use Rattle.lookup.proofs.looking.better.Goals.{else-longest-via-then-longest+else-earlier-prefix, else-longest-via-else-longest}

pub returns-then-earlier-prefix : goal.returns-then-earlier-prefix
returns-then-earlier-prefix c = search (betters, rules)

pub returns-else-longest : goal.returns-else-longest
returns-else-longest c = elim c.else-longest.branch [
  | else-longest-via-then-longest+else-earlier-prefix w ↦ search (betters, rules)
  | else-longest-via-else-longest w ↦ search (betters, rules)
]

pub returns-in-None : goal.returns-in-None
returns-in-None c = search (betters, rules)
