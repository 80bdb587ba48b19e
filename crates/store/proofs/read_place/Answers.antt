-- What carries it: a place by its tag.
use Rattle.store.proofs.Naming.{readings}
use borrow.Author.Rules.{rules}
use Rattle.store.proofs.read_place.Goals as goal

pub held_field-requires : goal.held_field-requires
held_field-requires c = search (readings, rules)
