-- What carries it: what is left of the items scans to what all of them do.
use Rattle.shape.proofs.Listings.{Remaining}
use Rattle.shape.proofs.items.items_at.Given as goal

abbrev pub invariant-loop : goal.invariant-loop
invariant-loop g l = Remaining (goal.F-post g l.item) l.count l.at l.counter l.next
