-- What carries it: the list of states, where the version has a parser.
use Rattle.shape.proofs.Starts.{reads-parts}
use Rattle.shape.proofs.Transitions.{states-past, states-ends, state_lists}
use borrow.Author.Rules.{rules}
use Rattle.shape.proofs.program.states_at.Goals as goal

pub returns-then-has_parser-clause-lays_directory : goal.returns-then-has_parser-clause-lays_directory
returns-then-has_parser-clause-lays_directory c = states-past _ _ _ _ c.has_parser.ensures c.if-has_parser.true c.part_list_at.ensures (reads-parts _ _ _ λ at e e₂ r p. search rules)

pub returns-then-has_parser-clause-lays_ends : goal.returns-then-has_parser-clause-lays_ends
returns-then-has_parser-clause-lays_ends c = states-ends _ _ _ _ c.has_parser.ensures c.if-has_parser.true c.part_list_at.ensures (reads-parts _ _ _ λ at e e₂ r p. search rules)

pub returns-else-has_parser-clause-lays_directory : goal.returns-else-has_parser-clause-lays_directory
returns-else-has_parser-clause-lays_directory c = search (state_lists, rules)

pub returns-else-has_parser-clause-lays_ends : goal.returns-else-has_parser-clause-lays_ends
returns-else-has_parser-clause-lays_ends c = search (state_lists, rules)
