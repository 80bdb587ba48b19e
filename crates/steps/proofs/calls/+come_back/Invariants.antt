-- What carries it: one argument, then those behind it; their count falls.

use Rattle.steps.proofs.calls.+come_back.Given as goal

abbrev pub decreases-come_back : goal.decreases-come_back
decreases-come_back l = l.count
