-- What carries it: callables one after the other.
use Rattle.rules.specs.Form.{judge_callables}
use Rattle.program.specs.Looks.{callables_of}
use Rattle.program.specs.In.{In}
use Rattle.form.proofs.Walking.{Walked}
use Rattle.form.proofs.callables.judge_callables.Given as goal

abbrev pub invariant-loop-n : goal.invariant-loop-n
invariant-loop-n l = In (Walked callables_of judge_callables) l.source 0 l.n
