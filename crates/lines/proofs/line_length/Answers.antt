-- `lines::line_length` meets its contract: a number has at most twenty digits.
use borrow.Author.Rules.{rules}
use Rattle.lines.proofs.Measuring.{line}
use Rattle.lines.proofs.line_length.Goals as goal

pub overflow_add-result : goal.overflow_add-result
overflow_add-result c = search (line, rules)

pub overflow_add-result-2 : goal.overflow_add-result-2
overflow_add-result-2 c = search (line, rules)

pub overflow_add-result-3 : goal.overflow_add-result-3
overflow_add-result-3 c = search (line, rules)

pub returns : goal.returns
returns c = search (line, rules)
