-- `lines::ended` meets its promise: the measure decides the answer, and with it whether the lines are put.
use Rattle.lines.proofs.Whole.{endings}
use Rattle.std.proofs.lemmas.Result.{err_from_is_err_and}
use borrow.Author.Rules.{rules}
use Rattle.lines.proofs.ended.Goals as goal

pub line_length-line-requires : goal.line_length-line-requires
line_length-line-requires c = search (endings, rules)

pub put_signal-requires : goal.put_signal-requires
put_signal-requires c = search (endings, c.in_ok-length.was, rules)

pub put_store-requires : goal.put_store-requires
put_store-requires c = search (endings, c.in_ok-length.was, rules)

pub returns : goal.returns
returns c = search (endings, c.in_ok-length.was, rules)

pub returns-in_err-length : goal.returns-in_err-length
returns-in_err-length c =
    let p = err_from_is_err_and c.from_residual.result c.from_residual.ensures.1 in
    rw (p.1, p.2) (search (endings, c.in_err-length.was, rules))
