-- What carries it: the program that the scan found stands, and the passes are the rules' judging.
use Rattle.std.proofs.lemmas.Result.{err_from_is_err_and}
use Rattle.judge.proofs.Passes.{judged}
use borrow.Author.Rules.{rules}
use Rattle.judge.proofs.judge.Goals as goal

pub judge_program-requires : goal.judge_program-requires
judge_program-requires c = search (judged, c.in_ok-scan_program.ensures, rules)

pub returns : goal.returns
returns c = search (judged, c.in_ok-scan_program.ensures, rules)

pub returns-in_err-scan_program : goal.returns-in_err-scan_program
returns-in_err-scan_program c = let p = err_from_is_err_and c.from_residual.result c.from_residual.ensures.1 in rw (p.1, p.2) (search (judged, c.in_err-scan_program.ensures, rules))
