-- What carries it: what is told of the keys that are left is told of all.
use borrow.Author.Rules.{rules}
use Rattle.lookup.proofs.KeyKinds.{any-keys}
use Rattle.lookup.proofs.looking.any_key.Goals as goal

pub offset_bounds-source-key : goal.offset_bounds-source-key
offset_bounds-source-key c = search (any-keys, rules)

pub bounds-source-key : goal.bounds-source-key
bounds-source-key c = search (any-keys, rules)

pub returns-then-source-key : goal.returns-then-source-key
returns-then-source-key c = search (any-keys, rules)

pub overflow_add-key : goal.overflow_add-key
overflow_add-key c = search (any-keys, rules)

pub offset_bounds-source-key-in-loop : goal.offset_bounds-source-key-in-loop
offset_bounds-source-key-in-loop c = search (any-keys, rules)

pub bounds-source-key-in-loop : goal.bounds-source-key-in-loop
bounds-source-key-in-loop c = search (any-keys, rules)

pub loop-preserved : goal.loop-preserved
loop-preserved c = search (any-keys, rules)

pub returns : goal.returns
returns c = search (any-keys, rules)
