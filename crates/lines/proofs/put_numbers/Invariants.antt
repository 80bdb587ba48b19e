-- `lines::put_numbers` meets its contract: what is put and what is left to put give the bytes' later contents.
use lib.ListN.{drop}
use Rattle.rules.specs.Lines.{behind_blanks}
use Rattle.lines.proofs.Storing.{Storing}
use Rattle.lines.proofs.put_numbers.Given as goal

abbrev pub invariant-loop-number : goal.invariant-loop-number
invariant-loop-number l = Storing (behind_blanks l.numbers) l.place l.initial.bytes (behind_blanks (drop l.number-index l.numbers)) l.at l.bytes
