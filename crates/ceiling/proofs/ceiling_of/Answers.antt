-- What carries it: the tables first, then the parser, then the apply body.
use Rattle.ceiling.proofs.Whole.{counted-whole, parser-then, body-then}
use borrow.Author.Rules.{rules}
use Rattle.ceiling.proofs.ceiling_of.Goals as goal

pub count_parser-parser-requires : goal.count_parser-parser-requires
count_parser-parser-requires c = parser-then _ _ _ _ _ c.count_tables.ensures c.requires

pub count_stmt-run-requires : goal.count_stmt-run-requires
count_stmt-run-requires c = body-then _ _ _ _ _ c.count_tables.ensures _ _ c.count_parser-parser.ensures c.requires

pub returns : goal.returns
returns c = search (counted-whole, rules)
