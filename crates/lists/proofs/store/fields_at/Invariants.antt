-- What carries it: what the fields that are left are judged to be, all are.
use Rattle.lists.proofs.Fields.{FieldsLeft}
use Rattle.lists.proofs.store.fields_at.Given as goal

abbrev pub invariant-loop-i : goal.invariant-loop-i
invariant-loop-i l = FieldsLeft l.nums l.width l.mark l.count l.at l.i l.next
