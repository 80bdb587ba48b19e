-- What carries it: states one after the other.
use Rattle.rules.specs.Form.{judge_states}
use Rattle.program.specs.Looks.{states_of}
use Rattle.program.specs.In.{In}
use Rattle.form.proofs.Walking.{Walked}
use Rattle.form.proofs.states.judge_states.Given as goal

abbrev pub invariant-loop-n : goal.invariant-loop-n
invariant-loop-n l = In (Walked states_of judge_states) l.source 0 l.n
