-- What carries it: globals one after the other.
use Rattle.program.specs.Looks.{globals_of}
use Rattle.program.specs.In.{In}
use Rattle.form.specs.Parts.{globals_are}
use Rattle.form.proofs.Walking.{Walked}
use Rattle.form.proofs.globals.judge_globals.Given as goal

abbrev pub invariant-loop-g : goal.invariant-loop-g
invariant-loop-g l = In (Walked globals_of globals_are) l.source 0 l.g
