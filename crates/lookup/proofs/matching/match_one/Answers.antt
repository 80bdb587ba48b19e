-- What carries it: what stands where, by the kind of the key.
use Rattle.lookup.proofs.Ones.{ones, prefix-fits}
use borrow.Author.Rules.{rules}
use Rattle.lookup.proofs.matching.match_one.Goals as goal

pub bounds-source-at-then-kind-eq-LPM : goal.bounds-source-at-then-kind-eq-LPM
bounds-source-at-then-kind-eq-LPM c = search (ones, rules)

pub prefix_matches-requires : goal.prefix_matches-requires
prefix_matches-requires c = search (prefix-fits _ _ _ _ _ _ _ c.requires c.if-kind-eq-LPM.true, rules)

pub bounds-source-at-else-kind-eq-LPM : goal.bounds-source-at-else-kind-eq-LPM
bounds-source-at-else-kind-eq-LPM c = search (ones, rules)

pub returns-then-kind-eq-EXACT : goal.returns-then-kind-eq-EXACT
returns-then-kind-eq-EXACT c = search (ones, rules)

pub returns-then-kind-eq-LPM : goal.returns-then-kind-eq-LPM
returns-then-kind-eq-LPM c = search (ones, rules)

pub returns-else-kind-eq-LPM : goal.returns-else-kind-eq-LPM
returns-else-kind-eq-LPM c = search (ones, rules)
