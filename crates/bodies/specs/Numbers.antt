-- A fault as one of any number.
use Rattle.rules.specs.declared.Fault.{Fault}
use Rattle.rules.specs.Answers.{number_of}
use Rattle.bodies.specs.declared.Numbered.{Numbered}

abbrev pub numbered : Fault → Numbered
numbered wrong = record { number = number_of wrong.reason; index = wrong.index }
