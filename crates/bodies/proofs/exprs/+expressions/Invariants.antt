-- The cycle of expressions, calls and arguments. What carries it: the steps of Judging, Operating and Passing; the depth
-- falls, and at one depth the count of arguments.
use Prim.Native.Nat.{◌+◌}
use Rattle.bodies.proofs.Judging.{rank}
use Rattle.bodies.proofs.exprs.+expressions.Given as goal

abbrev pub decreases-judge_args : goal.decreases-judge_args
decreases-judge_args l = rank l.depth (l.count + 3)

abbrev pub decreases-judge_call : goal.decreases-judge_call
decreases-judge_call l = rank l.depth 1

abbrev pub decreases-judge_expr : goal.decreases-judge_expr
decreases-judge_expr l = rank l.depth 2

abbrev pub decreases-judge_operands : goal.decreases-judge_operands
decreases-judge_operands l = rank l.depth 1
