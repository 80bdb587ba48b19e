-- The cycle. What carries it: the laws of each construct; the callable number falls, then the level of the construct.
use Prim.Native.Nat.{◌+◌, ◌*◌}
use lib.ListN.{get_or}
use Rattle.runner.proofs.Rank.{rank}
use Rattle.runner.proofs.Blocks.{Blocking}
use Rattle.runner.proofs.running.+constructs.Given as goal

abbrev pub decreases-run_action : goal.decreases-run_action
decreases-run_action l = rank (get_or l.source.now.directory.now 42 0) 1450

abbrev pub decreases-run_apply : goal.decreases-run_apply
decreases-run_apply l = rank l.scope.now.reach (2000 + 32 * l.depth + 19)

abbrev pub decreases-run_arg : goal.decreases-run_arg
decreases-run_arg l = rank l.scope.now.reach (32 * l.depth + 21)

abbrev pub decreases-run_args : goal.decreases-run_args
decreases-run_args l = rank l.scope.now.reach (32 * l.depth + 22 + l.count)

abbrev pub decreases-run_assign : goal.decreases-run_assign
decreases-run_assign l = rank l.scope.now.reach (2000 + 32 * l.depth + 19)

abbrev pub decreases-run_block : goal.decreases-run_block
decreases-run_block l = rank l.scope.now.reach (2000 + 32 * l.depth + 19)

abbrev pub decreases-run_body : goal.decreases-run_body
decreases-run_body l = rank l.f 4000

abbrev pub decreases-run_call : goal.decreases-run_call
decreases-run_call l = rank l.scope.now.reach (32 * l.depth + 18)

abbrev pub decreases-run_call_stmt : goal.decreases-run_call_stmt
decreases-run_call_stmt l = rank l.scope.now.reach (2000 + 32 * l.depth + 19)

abbrev pub decreases-run_expr : goal.decreases-run_expr
decreases-run_expr l = rank l.scope.now.reach (32 * l.depth + 20)

abbrev pub decreases-run_if : goal.decreases-run_if
decreases-run_if l = rank l.scope.now.reach (2000 + 32 * l.depth + 19)

abbrev pub decreases-run_keys : goal.decreases-run_keys
decreases-run_keys l = rank l.scope.now.reach (1400 + l.count)

abbrev pub decreases-run_one : goal.decreases-run_one
decreases-run_one l = rank l.scope.now.reach (32 * l.depth + 19)

abbrev pub decreases-run_return : goal.decreases-run_return
decreases-run_return l = rank l.scope.now.reach (2000 + 32 * l.depth + 19)

abbrev pub decreases-run_stmt : goal.decreases-run_stmt
decreases-run_stmt l = rank l.scope.now.reach (2000 + 32 * l.depth + 20)

abbrev pub decreases-run_stmts : goal.decreases-run_stmts
decreases-run_stmts l = rank l.scope.now.reach (2000 + 32 * l.depth + 21)

abbrev pub decreases-run_table : goal.decreases-run_table
decreases-run_table l = rank l.scope.now.reach 1500

abbrev pub decreases-run_two : goal.decreases-run_two
decreases-run_two l = rank l.scope.now.reach (32 * l.depth + 19)

abbrev pub decreases-run_value : goal.decreases-run_value
decreases-run_value l = rank l.scope.now.reach (32 * l.depth + 19)

abbrev pub decreases-run_verify : goal.decreases-run_verify
decreases-run_verify l = rank l.scope.now.reach (2000 + 32 * l.depth + 19)

abbrev pub invariant-run_stmts-loop : goal.invariant-run_stmts-loop
invariant-run_stmts-loop l = Blocking l.source.nums.now l.source.directory.now l.source.ends.now l.scope l.initial.slots l.slots l.initial.frame l.frame l.depth l.at l.count l.next l.counter
