-- What carries it: what is told of the keys that are left is told of all.
use Rattle.lookup.proofs.All.{all}
use borrow.Author.Rules.{rules}
use borrow.Author.Tests.{not-true, not-false}
use Rattle.lookup.proofs.matching.match_from.Goals as goal

pub loop-j-init : goal.loop-j-init
loop-j-init c = search (all, rules)

pub match_one-one-requires : goal.match_one-one-requires
match_one-one-requires c = search (all, rules)

pub returns-then-not-one : goal.returns-then-not-one
returns-then-not-one c =
    let missed : _ = not-true _ c.if-not-one.true in
    search (all, rules)

pub overflow_add-key : goal.overflow_add-key
overflow_add-key c = search (all, rules)

pub offset_bounds-source-key : goal.offset_bounds-source-key
offset_bounds-source-key c = search (all, rules)

pub bounds-source-key : goal.bounds-source-key
bounds-source-key c = search (all, rules)

pub loop-j-preserved : goal.loop-j-preserved
loop-j-preserved c =
    let matches : _ = not-false _ c.if-not-one.false in
    search (all, rules)

pub returns : goal.returns
returns c = search (all, rules)
