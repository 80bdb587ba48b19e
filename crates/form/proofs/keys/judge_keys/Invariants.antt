-- What carries it: keys one after the other, and the first bool before them.
use Rattle.program.specs.In.{In}
use Rattle.form.proofs.OfKeys.{Keying}
use Rattle.form.proofs.keys.judge_keys.Given as goal

abbrev pub invariant-loop-i : goal.invariant-loop-i
invariant-loop-i l = In Keying l.source l.at l.count l.slot l.initial.widths l.i l.next l.boolean l.widths
