-- What carries it: the form by the version.
use Rattle.shape.proofs.Targets.{parser_forms}
use borrow.Author.Rules.{rules}
use Rattle.shape.proofs.statements.parser_form.Goals as goal

pub returns-then-has_parser : goal.returns-then-has_parser
returns-then-has_parser c = search (parser_forms, rules)

pub returns-else-has_parser : goal.returns-else-has_parser
returns-else-has_parser c = search (parser_forms, rules)
