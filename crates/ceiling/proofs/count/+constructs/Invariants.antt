-- The cycle. What carries it: the steps of Counting and CountingStmts; the callable number falls, then the levels left.
use Prim.Native.Nat.{◌+◌, ◌*◌}
use Rattle.ceiling.proofs.Rank.{rank}
use Rattle.ceiling.proofs.Counting.{Summed}
use Rattle.ceiling.proofs.CountingStmts.{SummedStmts}
use Rattle.program.specs.In.{In}
use Rattle.ceiling.proofs.count.+constructs.Given as goal

abbrev pub decreases-count_branches : goal.decreases-count_branches
decreases-count_branches l = rank l.reach (4 * l.depth + 3)

abbrev pub decreases-count_call : goal.decreases-count_call
decreases-count_call l = rank l.reach 0

abbrev pub decreases-count_expr : goal.decreases-count_expr
decreases-count_expr l = rank l.reach (4 * l.depth)

abbrev pub decreases-count_exprs : goal.decreases-count_exprs
decreases-count_exprs l = rank l.reach (4 * l.depth + 1)

abbrev pub decreases-count_run : goal.decreases-count_run
decreases-count_run l = rank l.reach (4 * l.depth + 1)

abbrev pub decreases-count_stmt : goal.decreases-count_stmt
decreases-count_stmt l = rank l.reach (4 * l.depth + 2)

abbrev pub decreases-count_stmts : goal.decreases-count_stmts
decreases-count_stmts l = rank l.reach (4 * l.depth + 3)

abbrev pub invariant-count_exprs-loop : goal.invariant-count_exprs-loop
invariant-count_exprs-loop l = In Summed l.source l.initial.kept l.reach l.depth l.at l.count l.kept l.total l.next l.counter

abbrev pub invariant-count_stmts-loop : goal.invariant-count_stmts-loop
invariant-count_stmts-loop l = In SummedStmts l.source l.tables l.initial.kept l.reach l.depth l.at l.count l.kept l.total l.next l.counter
