-- The cycle. What carries it: the laws of each construct; the callable number falls, then the level of the construct.
use mathlib.Core.Path.{refl}
use Prim.Native.Nat.{◌<◌}
use lib.ListN.{length}
use native.Mathlib.Omega.{arith}
use borrow.Author.Rules.{rules}
use Rattle.runner.proofs.Exprs.{one_runs, two_runs, expr_runs, two-fall, two-on, two-right, two-runs, two-stops}
use Rattle.runner.proofs.Args.{arg_runs, args_runs, args-fall, args-rest}
use Rattle.runner.proofs.Calls.{call_runs, call-args, call-args-fall, call-body, call-falls, call-finish, call-lent, call-own-low, call-runs}
use Rattle.runner.proofs.Bodies.{body_runs}
use Rattle.runner.proofs.Values.{value_runs, call_stmt_runs}
use Rattle.runner.proofs.Stmts.{stmt_runs, tagged_runs, assign_runs, if_runs, return_runs, assign-write, branch-fall, if-first-branch, if-low, if-runs-second, if-second}
use Rattle.runner.proofs.Verifying.{verify_runs}
use Rattle.runner.proofs.Blocks.{block_runs, member_runs, member-inside}
use Rattle.runner.proofs.Applying.{apply_runs}
use Rattle.runner.proofs.Keying.{keys_runs, keys-fall, keys-rest, keys-runs}
use Rattle.runner.proofs.Actions.{action_runs, action-body, action-falls}
use Rattle.runner.proofs.Tabling.{table_runs, action-fall, default-action, default-runs, entry-action, table-look}
use Rattle.runner.proofs.running.+constructs.Goals as goal

pub run_action-overflow_add-f : goal.run_action-overflow_add-f
run_action-overflow_add-f t c = search (action_runs, rules)

pub run_action-overflow_add-f-2 : goal.run_action-overflow_add-f-2
run_action-overflow_add-f-2 t c = search (action_runs, rules)

pub run_action-offset_bounds-source-actions : goal.run_action-offset_bounds-source-actions
run_action-offset_bounds-source-actions t c = search (action_runs, rules)

pub run_action-bounds-source-actions : goal.run_action-bounds-source-actions
run_action-bounds-source-actions t c = search (action_runs, rules)

pub run_action-head_of-head-requires : goal.run_action-head_of-head-requires
run_action-head_of-head-requires t c = search (action_runs, rules)

pub run_action-copy-requires : goal.run_action-copy-requires
run_action-copy-requires t c = search (action_runs, rules)

pub run_action-run_body-ended-requires : goal.run_action-run_body-ended-requires
run_action-run_body-ended-requires t c = (action-falls _ _ _ _ _ _ _ _ c.requires _ c.decreases, action-body _ _ _ _ _ _ _ _ _ _ _ _ c.head_of-head.ensures c.requires _ c.copy.ensures)

pub run_action-returns : goal.run_action-returns
run_action-returns t c = search (action_runs, rules)

pub run_apply-count_step-requires : goal.run_apply-count_step-requires
run_apply-count_step-requires t c = search (apply_runs, tagged_runs, rules)

pub run_apply-run_table-requires : goal.run_apply-run_table-requires
run_apply-run_table-requires t c = search (apply_runs, tagged_runs, rules)

pub run_apply-returns : goal.run_apply-returns
run_apply-returns t c = search (apply_runs, tagged_runs, rules)

pub run_arg-count_step-requires : goal.run_arg-count_step-requires
run_arg-count_step-requires t c = search (arg_runs, rules)

pub run_arg-run_expr-a-requires : goal.run_arg-run_expr-a-requires
run_arg-run_expr-a-requires t c = search (arg_runs, rules)

pub run_arg-returns-then-source-param-eq-OUT : goal.run_arg-returns-then-source-param-eq-OUT
run_arg-returns-then-source-param-eq-OUT t c = search (arg_runs, rules)

pub run_arg-returns-else-source-param-eq-OUT : goal.run_arg-returns-else-source-param-eq-OUT
run_arg-returns-else-source-param-eq-OUT t c = search (arg_runs, rules)

pub run_args-run_arg-number-requires : goal.run_args-run_arg-number-requires
run_args-run_arg-number-requires t c = search (args_runs, rules)

pub run_args-offset_bounds-source-at : goal.run_args-offset_bounds-source-at
run_args-offset_bounds-source-at t c = search (args_runs, rules)

pub run_args-bounds-source-at : goal.run_args-bounds-source-at
run_args-bounds-source-at t c = search (args_runs, rules)

pub run_args-overflow_add-param : goal.run_args-overflow_add-param
run_args-overflow_add-param t c = search (args_runs, rules)

pub run_args-run_args-requires : goal.run_args-run_args-requires
run_args-run_args-requires t c = (args-fall _ _ _ _ _ _ _ _ _ _ _ c.requires c.if-count-ne0.true _ c.decreases, args-rest _ _ _ _ _ _ _ _ _ _ _ c.requires c.if-count-ne0.true _ _ _ _ c.run_arg-number.ensures refl)

pub run_args-returns-then-count-ne0 : goal.run_args-returns-then-count-ne0
run_args-returns-then-count-ne0 t c = search (args_runs, rules)

pub run_args-returns-else-count-ne0 : goal.run_args-returns-else-count-ne0
run_args-returns-else-count-ne0 t c = search (args_runs, rules)

pub run_assign-count_step-requires : goal.run_assign-count_step-requires
run_assign-count_step-requires t c = search (assign_runs, tagged_runs, rules)

pub run_assign-run_expr-a-requires : goal.run_assign-run_expr-a-requires
run_assign-run_expr-a-requires t c = search (assign_runs, tagged_runs, rules)

pub run_assign-write_place-requires : goal.run_assign-write_place-requires
run_assign-write_place-requires t c = assign-write _ _ _ _ _ _ _ _ c.requires _ c.count_step.ensures _ refl _ _ _ c.run_expr-a.ensures

pub run_assign-returns : goal.run_assign-returns
run_assign-returns t c = search (assign_runs, tagged_runs, rules)

pub run_block-count_step-requires : goal.run_block-count_step-requires
run_block-count_step-requires t c = search (block_runs, tagged_runs, rules)

pub run_block-returns : goal.run_block-returns
run_block-returns t c = search (block_runs, tagged_runs, rules)

pub run_body-head_of-head-requires : goal.run_body-head_of-head-requires
run_body-head_of-head-requires t c = search (body_runs, rules)

pub run_body-frame_of-body-requires : goal.run_body-frame_of-body-requires
run_body-frame_of-body-requires t c = search (body_runs, rules)

pub run_body-overflow_add-count : goal.run_body-overflow_add-count
run_body-overflow_add-count t c = search (body_runs, rules)

pub run_body-clear-requires : goal.run_body-clear-requires
run_body-clear-requires t c = search (body_runs, rules)

pub run_body-run_stmt-requires : goal.run_body-run_stmt-requires
run_body-run_stmt-requires t c = search (body_runs, rules)

pub run_body-returns : goal.run_body-returns
run_body-returns t c = search (body_runs, rules)

pub run_call-head_of-head-requires : goal.run_call-head_of-head-requires
run_call-head_of-head-requires t c = search (call_runs, rules)

pub run_call-run_args-requires : goal.run_call-run_args-requires
run_call-run_args-requires t c = (call-args-fall _ _ _ _ _ _ _ _ _ _ _ _ _ c.head_of-head.ensures c.own_slots-own.ensures c.requires _ c.decreases, call-args _ _ _ _ _ _ _ _ _ _ _ _ _ c.head_of-head.ensures c.own_slots-own.ensures c.requires)

pub run_call-offset_bounds-frame-own : goal.run_call-offset_bounds-frame-own
run_call-offset_bounds-frame-own t c = omega (arith, call-own-low _ _ _ _ _ _ _ _ _ _ _ _ _ c.head_of-head.ensures c.own_slots-own.ensures c.requires)

pub run_call-slice_bounds-run_body-count : goal.run_call-slice_bounds-run_body-count
run_call-slice_bounds-run_body-count t c = search (call_runs, rules)

pub run_call-slice_bounds-run_body-start : goal.run_call-slice_bounds-run_body-start
run_call-slice_bounds-run_body-start t c = call-lent _ _ _ _ _ _ _ _ _ _ _ _ _ c.head_of-head.ensures c.own_slots-own.ensures c.requires _ _ c.run_args.ensures

pub run_call-run_body-ended-requires : goal.run_call-run_body-ended-requires
run_call-run_body-ended-requires t c = (call-falls _ _ _ _ _ _ _ _ c.requires _ c.decreases, call-body _ _ _ _ _ _ _ _ _ _ _ _ _ c.head_of-head.ensures c.own_slots-own.ensures c.requires _ _ c.run_args.ensures _ refl)

pub run_call-finish_call-requires : goal.run_call-finish_call-requires
run_call-finish_call-requires t c = call-finish _ _ _ _ _ _ _ _ _ _ _ _ _ c.head_of-head.ensures c.own_slots-own.ensures c.requires _ _ c.run_args.ensures _ _ _ _ _ refl c.run_body-ended.ensures refl

pub run_call-returns : goal.run_call-returns
run_call-returns t c = call-runs _ _ _ _ _ _ _ _ _ _ _ _ _ c.head_of-head.ensures c.own_slots-own.ensures _ _ _ _ _ _ _ _ _ c.run_args.ensures c.run_body-ended.ensures c.finish_call.ensures refl refl

pub run_call_stmt-count_step-requires : goal.run_call_stmt-count_step-requires
run_call_stmt-count_step-requires t c = search (call_stmt_runs, tagged_runs, rules)

pub run_call_stmt-run_call-ended-requires : goal.run_call_stmt-run_call-ended-requires
run_call_stmt-run_call-ended-requires t c = search (call_stmt_runs, tagged_runs, rules)

pub run_call_stmt-returns : goal.run_call_stmt-returns
run_call_stmt-returns t c = search (call_stmt_runs, tagged_runs, rules)

pub run_expr-run_one-requires : goal.run_expr-run_one-requires
run_expr-run_one-requires t c = search (expr_runs, rules)

pub run_expr-run_one-requires-in-8 : goal.run_expr-run_one-requires-in-8
run_expr-run_one-requires-in-8 t c = search (expr_runs, rules)

pub run_expr-run_two-requires : goal.run_expr-run_two-requires
run_expr-run_two-requires t c = search (expr_runs, rules)

pub run_expr-run_one-requires-in-10 : goal.run_expr-run_one-requires-in-10
run_expr-run_one-requires-in-10 t c = search (expr_runs, rules)

pub run_expr-run_one-requires-in-11 : goal.run_expr-run_one-requires-in-11
run_expr-run_one-requires-in-11 t c = search (expr_runs, rules)

pub run_expr-run_two-requires-in-12 : goal.run_expr-run_two-requires-in-12
run_expr-run_two-requires-in-12 t c = search (expr_runs, rules)

pub run_expr-run_value-requires : goal.run_expr-run_value-requires
run_expr-run_value-requires t c = search (expr_runs, rules)

pub run_expr-run_leaf-requires : goal.run_expr-run_leaf-requires
run_expr-run_leaf-requires t c = search (expr_runs, rules)

pub run_if-count_step-requires : goal.run_if-count_step-requires
run_if-count_step-requires t c = search (if_runs, tagged_runs, rules)

pub run_if-run_expr-c-requires : goal.run_if-run_expr-c-requires
run_if-run_expr-c-requires t c = search (if_runs, tagged_runs, rules)

pub run_if-bounds-source-at : goal.run_if-bounds-source-at
run_if-bounds-source-at t c = search (if_runs, tagged_runs, rules)

pub run_if-offset_bounds-source-first : goal.run_if-offset_bounds-source-first
run_if-offset_bounds-source-first t c = omega (arith, if-low _ _ _ _ _ _ _ _ c.requires _ refl)

pub run_if-bounds-source-first : goal.run_if-bounds-source-first
run_if-bounds-source-first t c = search (if_runs, tagged_runs, rules)

pub run_if-run_stmt-requires : goal.run_if-run_stmt-requires
run_if-run_stmt-requires t c = (branch-fall _ _ _ _ _ _ _ _ _ c.requires _ c.decreases, if-second _ _ _ _ _ _ _ _ c.requires _ c.count_step.ensures _ _ _ c.run_expr-c.ensures _ _ c.if-c-eq0.true refl refl)

pub run_if-run_stmt-requires-else-c-eq0 : goal.run_if-run_stmt-requires-else-c-eq0
run_if-run_stmt-requires-else-c-eq0 t c = (branch-fall _ _ _ _ _ _ _ _ _ c.requires _ c.decreases, if-first-branch _ _ _ _ _ _ _ _ c.requires _ c.count_step.ensures _ _ _ c.run_expr-c.ensures _ c.if-c-eq0.false refl)

pub run_if-returns-then-c-eq0 : goal.run_if-returns-then-c-eq0
run_if-returns-then-c-eq0 t c = if-runs-second _ _ _ _ _ _ _ _ c.requires _ c.count_step.ensures _ _ _ c.run_expr-c.ensures _ _ _ _ _ c.if-c-eq0.true refl refl c.run_stmt.ensures

pub run_if-returns-else-c-eq0 : goal.run_if-returns-else-c-eq0
run_if-returns-else-c-eq0 t c = search (if_runs, tagged_runs, rules)

pub run_keys-overflow_add-key : goal.run_keys-overflow_add-key
run_keys-overflow_add-key t c = search (keys_runs, rules)

pub run_keys-run_expr-a-requires : goal.run_keys-run_expr-a-requires
run_keys-run_expr-a-requires t c = search (keys_runs, rules)

pub run_keys-offset_bounds-source-key : goal.run_keys-offset_bounds-source-key
run_keys-offset_bounds-source-key t c = search (keys_runs, rules)

pub run_keys-bounds-source-key : goal.run_keys-bounds-source-key
run_keys-bounds-source-key t c = search (keys_runs, rules)

pub run_keys-run_keys-requires : goal.run_keys-run_keys-requires
run_keys-run_keys-requires t c = (keys-fall _ _ _ _ _ _ _ _ _ _ c.requires c.if-count-ne0.true _ c.decreases, keys-rest _ _ _ _ _ _ _ _ _ _ c.requires c.if-count-ne0.true _ _ _ _ c.run_expr-a.ensures refl)

pub run_keys-returns-then-count-ne0 : goal.run_keys-returns-then-count-ne0
run_keys-returns-then-count-ne0 t c = keys-runs _ _ _ _ _ _ _ _ _ _ _ _ _ _ _ _ _ c.if-count-ne0.true c.run_expr-a.ensures refl c.run_keys.ensures

pub run_keys-returns-else-count-ne0 : goal.run_keys-returns-else-count-ne0
run_keys-returns-else-count-ne0 t c = search (keys_runs, rules)

pub run_one-count_step-requires : goal.run_one-count_step-requires
run_one-count_step-requires t c = search (one_runs, rules)

pub run_one-overflow_add-first : goal.run_one-overflow_add-first
run_one-overflow_add-first t c = search (one_runs, rules)

pub run_one-overflow_sub-depth : goal.run_one-overflow_sub-depth
run_one-overflow_sub-depth t c = search (one_runs, rules)

pub run_one-run_expr-a-requires : goal.run_one-run_expr-a-requires
run_one-run_expr-a-requires t c = search (one_runs, rules)

pub run_one-one-requires : goal.run_one-one-requires
run_one-one-requires t c = search (one_runs, rules)

pub run_one-returns : goal.run_one-returns
run_one-returns t c = search (one_runs, rules)

pub run_return-count_step-requires : goal.run_return-count_step-requires
run_return-count_step-requires t c = search (return_runs, tagged_runs, rules)

pub run_return-run_expr-a-requires : goal.run_return-run_expr-a-requires
run_return-run_expr-a-requires t c = search (return_runs, tagged_runs, rules)

pub run_return-returns : goal.run_return-returns
run_return-returns t c = search (return_runs, tagged_runs, rules)

pub run_stmt-run_assign-requires : goal.run_stmt-run_assign-requires
run_stmt-run_assign-requires t c = search (stmt_runs, rules)

pub run_stmt-run_if-requires : goal.run_stmt-run_if-requires
run_stmt-run_if-requires t c = search (stmt_runs, rules)

pub run_stmt-run_block-requires : goal.run_stmt-run_block-requires
run_stmt-run_block-requires t c = search (stmt_runs, rules)

pub run_stmt-run_call_stmt-requires : goal.run_stmt-run_call_stmt-requires
run_stmt-run_call_stmt-requires t c = search (stmt_runs, rules)

pub run_stmt-run_apply-requires : goal.run_stmt-run_apply-requires
run_stmt-run_apply-requires t c = search (stmt_runs, rules)

pub run_stmt-run_return-requires : goal.run_stmt-run_return-requires
run_stmt-run_return-requires t c = search (stmt_runs, rules)

pub run_stmt-run_verify-requires : goal.run_stmt-run_verify-requires
run_stmt-run_verify-requires t c = search (stmt_runs, rules)

pub run_stmt-run_single-requires : goal.run_stmt-run_single-requires
run_stmt-run_single-requires t c = search (stmt_runs, rules)

pub run_table-table_of-parts-requires : goal.run_table-table_of-parts-requires
run_table-table_of-parts-requires t c = search (table_runs, rules)

pub run_table-overflow_add-table : goal.run_table-overflow_add-table
run_table-overflow_add-table t c = search (table_runs, rules)

pub run_table-offset_bounds-source-table : goal.run_table-offset_bounds-source-table
run_table-offset_bounds-source-table t c = search (table_runs, rules)

pub run_table-bounds-source-table : goal.run_table-bounds-source-table
run_table-bounds-source-table t c = search (table_runs, rules)

pub run_table-run_keys-requires : goal.run_table-run_keys-requires
run_table-run_keys-requires t c = search (table_runs, rules)

pub run_table-look_up-requires : goal.run_table-look_up-requires
run_table-look_up-requires t c = table-look _ _ _ _ _ _ _ _ _ _ c.table_of-parts.ensures _ _ _ c.run_keys.ensures c.requires

pub run_table-run_action-requires : goal.run_table-run_action-requires
run_table-run_action-requires t c = (action-fall _ _ _ _ _ _ _ c.requires _ c.decreases, default-action _ _ _ _ _ _ _ _ _ _ c.table_of-parts.ensures _ _ _ c.run_keys.ensures c.requires _ c.look_up.ensures c.in_default.is)

pub run_table-returns-in_default : goal.run_table-returns-in_default
run_table-returns-in_default t c = default-runs _ _ _ _ _ _ _ _ _ _ c.table_of-parts.ensures _ _ _ c.run_keys.ensures _ c.look_up.ensures _ _ _ c.in_default.is c.run_action.ensures

pub run_table-run_action-requires-2 : goal.run_table-run_action-requires-2
run_table-run_action-requires-2 t c = (action-fall _ _ _ _ _ _ _ c.requires _ c.decreases, entry-action _ _ _ _ _ _ _ _ _ _ c.table_of-parts.ensures _ _ _ c.run_keys.ensures c.requires _ c.look_up.ensures _ c.in-Found.is)

pub run_table-returns : goal.run_table-returns
run_table-returns t c = search (table_runs, rules)

pub run_two-count_step-requires : goal.run_two-count_step-requires
run_two-count_step-requires t c = search (two_runs, rules)

pub run_two-overflow_add-first : goal.run_two-overflow_add-first
run_two-overflow_add-first t c = search (two_runs, rules)

pub run_two-overflow_sub-depth : goal.run_two-overflow_sub-depth
run_two-overflow_sub-depth t c = search (two_runs, rules)

pub run_two-run_expr-a-requires : goal.run_two-run_expr-a-requires
run_two-run_expr-a-requires t c = search (two_runs, rules)

pub run_two-offset_bounds-source-first : goal.run_two-offset_bounds-source-first
run_two-offset_bounds-source-first t c = search (two_runs, rules)

pub run_two-bounds-source-first : goal.run_two-bounds-source-first
run_two-bounds-source-first t c = search (two_runs, rules)

pub run_two-overflow_sub-depth-else-stops_early : goal.run_two-overflow_sub-depth-else-stops_early
run_two-overflow_sub-depth-else-stops_early t c = search (two_runs, rules)

pub run_two-run_expr-b-requires : goal.run_two-run_expr-b-requires
run_two-run_expr-b-requires t c = (two-fall _ _ _ _ _ _ _ _ _ c.requires _ c.decreases, two-right _ _ _ _ _ _ _ _ _ c.requires _ c.count_step.ensures _ _ _ c.run_expr-a.ensures _ c.stops_early.ensures c.if-stops_early.false _ refl)

pub run_two-two-requires : goal.run_two-two-requires
run_two-two-requires t c = two-on _ _ _ _ _ _ _ _ _ c.requires _ c.count_step.ensures _ _ _ c.run_expr-a.ensures _ c.stops_early.ensures c.if-stops_early.false _ _ _ _ refl c.run_expr-b.ensures

pub run_two-returns-then-stops_early : goal.run_two-returns-then-stops_early
run_two-returns-then-stops_early t c = two-stops _ _ _ _ _ _ _ _ _ c.requires _ c.count_step.ensures _ _ _ c.run_expr-a.ensures _ c.stops_early.ensures c.if-stops_early.true

pub run_two-returns-else-stops_early : goal.run_two-returns-else-stops_early
run_two-returns-else-stops_early t c = two-runs _ _ _ _ _ _ _ _ _ c.requires _ c.count_step.ensures _ _ _ c.run_expr-a.ensures _ c.stops_early.ensures c.if-stops_early.false _ _ _ _ refl c.run_expr-b.ensures _ c.two.ensures

pub run_value-count_step-requires : goal.run_value-count_step-requires
run_value-count_step-requires t c = search (value_runs, rules)

pub run_value-run_call-ended-requires : goal.run_value-run_call-ended-requires
run_value-run_call-ended-requires t c = search (value_runs, rules)

pub run_value-returns : goal.run_value-returns
run_value-returns t c = search (value_runs, rules)

pub run_verify-count_step-requires : goal.run_verify-count_step-requires
run_verify-count_step-requires t c = search (verify_runs, tagged_runs, rules)

pub run_verify-run_expr-a-requires : goal.run_verify-run_expr-a-requires
run_verify-run_expr-a-requires t c = search (verify_runs, tagged_runs, rules)

pub run_verify-bounds-source-at : goal.run_verify-bounds-source-at
run_verify-bounds-source-at t c = search (verify_runs, tagged_runs, rules)

pub run_verify-returns-then-a-eq0 : goal.run_verify-returns-then-a-eq0
run_verify-returns-then-a-eq0 t c = search (verify_runs, tagged_runs, rules)

pub run_verify-returns-else-a-eq0 : goal.run_verify-returns-else-a-eq0
run_verify-returns-else-a-eq0 t c = search (verify_runs, tagged_runs, rules)

pub run_block-run_stmts-requires : goal.run_block-run_stmts-requires
run_block-run_stmts-requires t c = search (block_runs, tagged_runs, rules)

pub run_stmts-loop-init : goal.run_stmts-loop-init
run_stmts-loop-init t c = search (member_runs, rules)

pub run_stmts-run_stmt-ended-requires : goal.run_stmts-run_stmt-ended-requires
run_stmts-run_stmt-ended-requires t c = search (member_runs, rules)

pub run_stmts-returns-in_default : goal.run_stmts-returns-in_default
run_stmts-returns-in_default t c = search (member_runs, rules)

pub run_stmts-offset_bounds-source-next : goal.run_stmts-offset_bounds-source-next
run_stmts-offset_bounds-source-next t c =
    let inside : c.loop.next < length c.args.source.now.ends.now
    = member-inside _ _ _ _ _ _ _ _ _ _ _ _ _ c.loop.invariant c.loop-test.true c.requires in
    search rules

pub run_stmts-bounds-source-next : goal.run_stmts-bounds-source-next
run_stmts-bounds-source-next t c = member-inside _ _ _ _ _ _ _ _ _ _ _ _ _ c.loop.invariant c.loop-test.true c.requires

pub run_stmts-loop-preserved : goal.run_stmts-loop-preserved
run_stmts-loop-preserved t c = search (member_runs, rules)

pub run_stmts-returns : goal.run_stmts-returns
run_stmts-returns t c = search (member_runs, rules)
