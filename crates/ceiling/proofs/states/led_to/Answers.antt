-- What carries it: a slot holds what a state adds, and no state is beyond the slots.
use Rattle.ceiling.proofs.CountingStates.{leading}
use borrow.Author.Rules.{rules}
use Rattle.ceiling.proofs.states.led_to.Goals as goal

pub returns-else-slot-lt-MOST_STATES : goal.returns-else-slot-lt-MOST_STATES
returns-else-slot-lt-MOST_STATES c = search (leading, rules)
