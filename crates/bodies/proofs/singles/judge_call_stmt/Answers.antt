-- What carries it: what a statement's tag and its operands say of the rules' judgement.
use Rattle.std.proofs.lemmas.Result.{err_from_is_err_and}
use Rattle.bodies.proofs.Single.{holding}
use borrow.Author.Rules.{rules}
use Rattle.bodies.proofs.singles.judge_call_stmt.Goals as goal

pub returns-in_err-kind : goal.returns-in_err-kind
returns-in_err-kind c = let p = err_from_is_err_and c.from_residual.result c.from_residual.ensures.1 in rw (p.1, p.2) (search (holding, c.in_err-kind.ensures, rules))

pub returns : goal.returns
returns c = search (holding, c.in_ok-kind.ensures, rules)
