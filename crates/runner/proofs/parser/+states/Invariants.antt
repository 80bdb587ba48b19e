-- The cycle of the parser. What carries it: the laws of states, transitions and selects; a state entered is a step.
use Rattle.runner.proofs.States.{left}
use Rattle.runner.proofs.parser.+states.Given as goal

abbrev pub decreases-run_select : goal.decreases-run_select
decreases-run_select l = left l.slots.now 1

abbrev pub decreases-run_state : goal.decreases-run_state
decreases-run_state l = left l.slots.now 0

abbrev pub decreases-run_transition : goal.decreases-run_transition
decreases-run_transition l = left l.slots.now 2
