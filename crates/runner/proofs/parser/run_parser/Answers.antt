-- What carries it: with no state nothing happens; with some, the stage of state 0.
use native.Mathlib.Omega.{arith}
use Rattle.runner.proofs.Starting.{parser_runs, packet-room}
use borrow.Author.Rules.{rules}
use Rattle.runner.proofs.parser.run_parser.Goals as goal

pub overflow_add-slots : goal.overflow_add-slots
overflow_add-slots c = omega (arith, packet-room _ _ _ _ _ _ _ c.requires c.if-source-eq0.false)

pub overflow_add-slots-else-source-eq0 : goal.overflow_add-slots-else-source-eq0
overflow_add-slots-else-source-eq0 c = omega (arith, packet-room _ _ _ _ _ _ _ c.requires c.if-source-eq0.false)

pub run_state-requires : goal.run_state-requires
run_state-requires c = search (parser_runs, rules)

pub returns-then-source-eq0 : goal.returns-then-source-eq0
returns-then-source-eq0 c = search (parser_runs, rules)

pub returns-else-source-eq0 : goal.returns-else-source-eq0
returns-else-source-eq0 c = search (parser_runs, rules)
