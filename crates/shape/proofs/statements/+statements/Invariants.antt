-- The cycle of statements and lists of them. What carries it: the steps of Stmts; the depth falls from a statement to its
-- members, and a list is a loop over what is left of it.
use Prim.Native.Nat.{◌+◌}
use Rattle.rules.specs.Reading.{read_stmt}
use Rattle.shape.specs.Leads.{lay_members}
use Rattle.shape.proofs.Lays.{Pending}
use Rattle.shape.proofs.statements.+statements.Given as goal

abbrev pub decreases-scan_stmt : goal.decreases-scan_stmt
decreases-scan_stmt l = l.depth + l.depth

abbrev pub decreases-scan_stmts : goal.decreases-scan_stmts
decreases-scan_stmts l = l.depth + l.depth + 1

abbrev pub invariant-scan_stmts-loop : goal.invariant-scan_stmts-loop
invariant-scan_stmts-loop l = Pending (read_stmt l.version l.depth) lay_members l.count l.nums l.at l.initial.ends l.counter l.next l.ends
