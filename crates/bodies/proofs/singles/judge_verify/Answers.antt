-- What carries it: what a statement's tag and its operands say of the rules' judgement.
use Rattle.std.proofs.lemmas.Result.{err_from_is_err_and}
use Rattle.bodies.proofs.Single.{holding}
use borrow.Author.Rules.{rules}
use Rattle.bodies.proofs.singles.judge_verify.Goals as goal

pub returns-in_err-t : goal.returns-in_err-t
returns-in_err-t c = let p = err_from_is_err_and c.from_residual.result c.from_residual.ensures.1 in rw (p.1, p.2) (search (holding, c.in_err-t.ensures, rules))

pub returns : goal.returns
returns c = search (holding, c.in_ok-t.ensures, rules)
