-- The cycle of statements. What carries it: the steps of Stating; the depth falls, and the members of a block are a
-- loop over them.
use Rattle.program.specs.In.{In}
use Rattle.bodies.proofs.Judging.{rank}
use Rattle.bodies.proofs.Stating.{Pending}
use Rattle.bodies.proofs.stmts.+statements.Given as goal

abbrev pub decreases-judge_branches : goal.decreases-judge_branches
decreases-judge_branches l = rank l.depth 3

abbrev pub decreases-judge_if : goal.decreases-judge_if
decreases-judge_if l = rank l.depth 1

abbrev pub decreases-judge_stmt : goal.decreases-judge_stmt
decreases-judge_stmt l = rank l.depth 2

abbrev pub decreases-judge_stmts : goal.decreases-judge_stmts
decreases-judge_stmts l = rank l.depth 3

abbrev pub invariant-judge_stmts-loop : goal.invariant-judge_stmts-loop
invariant-judge_stmts-loop l =
    In Pending l.source l.scope l.depth l.at l.count l.counter l.next l.returns
