-- `lines::word_length` meets its contract: the words are the rules'.
use Rattle.lines.proofs.Measuring.{wording}
use borrow.Author.Rules.{rules}
use Rattle.lines.proofs.word_length.Goals as goal

pub overflow_add-result-in-Reject : goal.overflow_add-result-in-Reject
overflow_add-result-in-Reject c = search (wording, rules)

pub returns-in-Done : goal.returns-in-Done
returns-in-Done c = search (wording, rules)

pub returns-in-Exit : goal.returns-in-Exit
returns-in-Exit c = search (wording, rules)

pub returns-in-Reject : goal.returns-in-Reject
returns-in-Reject c = search (wording, rules)
