-- The states one before the other. What carries it: each fills its slot, and fewer are left.

use Rattle.ceiling.proofs.states.+count_states.Given as goal

abbrev pub decreases-count_states : goal.decreases-count_states
decreases-count_states l = l.s
