-- What carries it: a place by its tag.
use Rattle.store.proofs.Naming.{targets}
use borrow.Author.Rules.{rules}
use Rattle.store.proofs.write_place.Goals as goal

pub put_field-requires : goal.put_field-requires
put_field-requires c = search (targets, rules)
