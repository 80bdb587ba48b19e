-- The cycle of expressions and lists of them. What carries it: the steps of Exprs; the depth falls from an expression to
-- its operands, and a list is a loop over what is left of it.
use Prim.Native.Nat.{◌+◌}
use Rattle.rules.specs.Reading.{read_expr}
use Rattle.shape.specs.Leads.{lay_exprs}
use Rattle.shape.proofs.Lays.{Pending}
use Rattle.shape.proofs.expressions.+expressions.Given as goal

abbrev pub decreases-scan_expr : goal.decreases-scan_expr
decreases-scan_expr l = l.depth + l.depth

abbrev pub decreases-scan_exprs : goal.decreases-scan_exprs
decreases-scan_exprs l = l.depth + l.depth + 1

abbrev pub invariant-scan_exprs-loop : goal.invariant-scan_exprs-loop
invariant-scan_exprs-loop l = Pending (read_expr l.version l.depth) lay_exprs l.count l.nums l.at l.initial.ends l.counter l.next l.ends
