-- The cycle of the parser. What carries it: the laws of states, transitions and selects; a state entered is a step.
use mathlib.Core.Path.{refl}
use native.Mathlib.Omega.{arith}
use Rattle.runner.proofs.Entering.{state_runs, state-fall, state-inside, state-transition}
use Rattle.runner.proofs.Leading.{lead_runs}
use Rattle.runner.proofs.Selecting.{select_runs, chosen-asks, chosen-fall, chosen-runs, later-room, pairs-low, unmatched-runs}
use borrow.Author.Rules.{rules}
use Rattle.runner.proofs.parser.+states.Goals as goal

pub run_state-count_step-requires : goal.run_state-count_step-requires
run_state-count_step-requires t c = search (state_runs, rules)

pub run_state-state_of-at-requires : goal.run_state-state_of-at-requires
run_state-state_of-at-requires t c = search (state_runs, rules)

pub run_state-run_stmt-ended-requires : goal.run_state-run_stmt-ended-requires
run_state-run_stmt-ended-requires t c = search (state_runs, rules)

pub run_state-offset_bounds-source-at : goal.run_state-offset_bounds-source-at
run_state-offset_bounds-source-at t c = search (state_runs, rules)

pub run_state-bounds-source-at : goal.run_state-bounds-source-at
run_state-bounds-source-at t c = state-inside _ _ _ _ _ _ _ _ c.count_step.ensures _ c.state_of-at.ensures c.requires

pub run_state-run_transition-requires : goal.run_state-run_transition-requires
run_state-run_transition-requires t c = (state-fall _ _ _ _ _ _ _ _ c.count_step.ensures _ c.state_of-at.ensures c.requires _ _ _ c.run_stmt-ended.ensures _ c.decreases, state-transition _ _ _ _ _ _ _ _ c.count_step.ensures _ c.state_of-at.ensures c.requires _ _ _ c.run_stmt-ended.ensures _ _ c.goes_on.ensures c.if-goes_on.true refl)

pub run_state-returns-then-goes_on : goal.run_state-returns-then-goes_on
run_state-returns-then-goes_on t c = search (state_runs, rules)

pub run_state-returns-else-goes_on : goal.run_state-returns-else-goes_on
run_state-returns-else-goes_on t c = search (state_runs, rules)

pub run_transition-offset_bounds-source-at : goal.run_transition-offset_bounds-source-at
run_transition-offset_bounds-source-at t c = search (lead_runs, rules)

pub run_transition-bounds-source-at : goal.run_transition-bounds-source-at
run_transition-bounds-source-at t c = search (lead_runs, rules)

pub run_transition-bounds-source-at-in-2 : goal.run_transition-bounds-source-at-in-2
run_transition-bounds-source-at-in-2 t c = search (lead_runs, rules)

pub run_transition-bounds-source-at-in-3 : goal.run_transition-bounds-source-at-in-3
run_transition-bounds-source-at-in-3 t c = search (lead_runs, rules)

pub run_transition-run_state-requires : goal.run_transition-run_state-requires
run_transition-run_state-requires t c = search (lead_runs, rules)

pub run_transition-returns-in-0 : goal.run_transition-returns-in-0
run_transition-returns-in-0 t c = search (lead_runs, rules)

pub run_transition-returns-in-1 : goal.run_transition-returns-in-1
run_transition-returns-in-1 t c = search (lead_runs, rules)

pub run_transition-returns-in-2 : goal.run_transition-returns-in-2
run_transition-returns-in-2 t c = search (lead_runs, rules)

pub run_transition-returns-in-3 : goal.run_transition-returns-in-3
run_transition-returns-in-3 t c = search (lead_runs, rules)

pub run_select-run_expr-a-requires : goal.run_select-run_expr-a-requires
run_select-run_expr-a-requires t c = search (select_runs, rules)

pub run_select-bounds-source-at : goal.run_select-bounds-source-at
run_select-bounds-source-at t c = search (select_runs, rules)

pub run_select-offset_bounds-source-pairs : goal.run_select-offset_bounds-source-pairs
run_select-offset_bounds-source-pairs t c = search (select_runs, rules)

pub run_select-bounds-source-pairs : goal.run_select-bounds-source-pairs
run_select-bounds-source-pairs t c = search (select_runs, rules)

pub run_select-first_equal-requires : goal.run_select-first_equal-requires
run_select-first_equal-requires t c = search (select_runs, rules)

pub run_select-overflow_add-pairs-2 : goal.run_select-overflow_add-pairs-2
run_select-overflow_add-pairs-2 t c = omega (arith, pairs-low _ _ _ _ _ _ _ c.requires _ refl)

pub run_select-returns-in_default : goal.run_select-returns-in_default
run_select-returns-in_default t c = unmatched-runs _ _ _ _ _ _ _ c.requires _ refl _ _ _ c.run_expr-a.ensures _ refl c.in_default.ensures

pub run_select-overflow_add-later : goal.run_select-overflow_add-later
run_select-overflow_add-later t c = omega (arith, later-room _ _ _ _ _ _ _ c.requires _ refl _ _ _ refl c.in-Some.ensures)

pub run_select-overflow_mul-later : goal.run_select-overflow_mul-later
run_select-overflow_mul-later t c = omega (arith, later-room _ _ _ _ _ _ _ c.requires _ refl _ _ _ refl c.in-Some.ensures)

pub run_select-overflow_add-later-2 : goal.run_select-overflow_add-later-2
run_select-overflow_add-later-2 t c = omega (arith, later-room _ _ _ _ _ _ _ c.requires _ refl _ _ _ refl c.in-Some.ensures)

pub run_select-offset_bounds-source-pairs-2 : goal.run_select-offset_bounds-source-pairs-2
run_select-offset_bounds-source-pairs-2 t c = omega (arith, later-room _ _ _ _ _ _ _ c.requires _ refl _ _ _ refl c.in-Some.ensures)

pub run_select-bounds-source-pairs-2 : goal.run_select-bounds-source-pairs-2
run_select-bounds-source-pairs-2 t c = omega (arith, later-room _ _ _ _ _ _ _ c.requires _ refl _ _ _ refl c.in-Some.ensures)

pub run_select-run_state-requires : goal.run_select-run_state-requires
run_select-run_state-requires t c = (chosen-fall _ _ _ _ _ _ _ c.requires _ refl _ _ _ c.run_expr-a.ensures _ c.decreases, chosen-asks _ _ _ _ _ _ _ c.requires _ refl _ _ _ c.run_expr-a.ensures _ refl _ c.in-Some.ensures _ refl)

pub run_select-returns : goal.run_select-returns
run_select-returns t c = chosen-runs _ _ _ _ _ _ _ c.requires _ refl _ _ _ c.run_expr-a.ensures _ refl _ c.in-Some.ensures _ _ _ _ refl c.run_state.ensures

pub run_transition-run_select-requires : goal.run_transition-run_select-requires
run_transition-run_select-requires t c = search (lead_runs, rules)
