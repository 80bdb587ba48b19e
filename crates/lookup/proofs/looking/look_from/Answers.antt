-- What carries it: what is told of the entries that are left is told of all.
use Rattle.lookup.proofs.Looks.{looks, looking-on, looking-other, looking-settled}
use borrow.Author.Rules.{rules}
use Rattle.lookup.proofs.looking.look_from.Goals as goal
use Rattle.lookup.proofs.looking.look_from.Goals.{then-source-at+else-settled, else-source-at}

pub offset_bounds-source-at : goal.offset_bounds-source-at
offset_bounds-source-at c = search (looks, rules)

pub bounds-source-at : goal.bounds-source-at
bounds-source-at c = search (looks, rules)

pub step-found-requires : goal.step-found-requires
step-found-requires c = search (looks, rules)

pub returns-then-settled : goal.returns-then-settled
returns-then-settled c = looking-settled _ _ _ _ _ _ _ _ _ _ _ _ c.loop-slot.invariant c.loop-slot-test.true _ _ c.step-found.ensures c.settled.ensures c.if-settled.true

pub loop-slot-preserved : goal.loop-slot-preserved
loop-slot-preserved c = elim c.if-source-at.branch [
  | then-source-at+else-settled w ↦ rw w.found-is (looking-on _ _ _ _ _ _ _ _ _ _ _ _ c.loop-slot.invariant c.loop-slot-test.true _ w.step-found.ensures)
  | else-source-at w ↦ rw w.found-is (looking-other _ _ _ _ _ _ _ _ _ _ _ _ c.loop-slot.invariant c.loop-slot-test.true w.if-source-at.false)
]

pub returns : goal.returns
returns c = search (looks, rules)
