-- What carries it: what a statement's tag and its operands say of the rules' judgement.
use Rattle.std.proofs.lemmas.Result.{err_from_is_err_and}
use Rattle.bodies.proofs.Single.{assigning}
use borrow.Author.Rules.{rules}
use Rattle.bodies.proofs.singles.judge_assign.Goals as goal

pub judge_leaf-requires : goal.judge_leaf-requires
judge_leaf-requires c = search (assigning, rules)

pub returns-in_err-t : goal.returns-in_err-t
returns-in_err-t c = let p = err_from_is_err_and c.from_residual.result c.from_residual.ensures.1 in rw (p.1, p.2) (search (assigning, c.in_err-t.ensures, rules))

pub returns-in_err-u : goal.returns-in_err-u
returns-in_err-u c = let p = err_from_is_err_and c.from_residual-in_err-u.result c.from_residual-in_err-u.ensures.1 in rw (p.1, p.2) (search (assigning, c.in_ok-t.ensures, c.in_err-u.ensures, rules))

pub writable_at-writable-requires : goal.writable_at-writable-requires
writable_at-writable-requires c = search (assigning, rules)

pub returns : goal.returns
returns c = search (assigning, c.in_ok-t.ensures, c.in_ok-u.ensures, rules)
