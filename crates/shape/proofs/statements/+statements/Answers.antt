-- The cycle of statements and lists of them. What carries it: the steps of Stmts; the depth falls from a statement to its
-- members, and a list is a loop over what is left of it.
use Rattle.std.proofs.lemmas.Result.{err_from_is_err_and}
use borrow.Author.Rules.{rules}
use Rattle.shape.proofs.Stmts.{stmt_steps, stmt_lists}
use Rattle.shape.proofs.statements.+statements.Goals as goal

pub scan_stmt-returns-in_err-next : goal.scan_stmt-returns-in_err-next
scan_stmt-returns-in_err-next t c = let p = err_from_is_err_and c.from_residual.result c.from_residual.ensures.1 in rw (p.1, p.2) (search (stmt_steps, c.in_err-next.ensures, rules))

pub scan_stmt-returns-in_err-after : goal.scan_stmt-returns-in_err-after
scan_stmt-returns-in_err-after t c = let p = err_from_is_err_and c.from_residual-in_err-after.result c.from_residual-in_err-after.ensures.1 in rw (p.1, p.2) (search (stmt_steps, c.in_ok-next.ensures, c.in_err-after.ensures, rules))

pub scan_stmt-returns-in_err-end : goal.scan_stmt-returns-in_err-end
scan_stmt-returns-in_err-end t c = let p = err_from_is_err_and c.from_residual-in_err-end.result c.from_residual-in_err-end.ensures.1 in rw (p.1, p.2) (search (stmt_steps, c.in_ok-next.ensures, c.in_ok-after.ensures, c.in_err-end.ensures, rules))

pub scan_stmt-offset_bounds-ends-at : goal.scan_stmt-offset_bounds-ends-at
scan_stmt-offset_bounds-ends-at t c = search (stmt_steps, c.in_ok-next.ensures, rules)

pub scan_stmt-bounds-ends-at : goal.scan_stmt-bounds-ends-at
scan_stmt-bounds-ends-at t c = search (stmt_steps, c.in_ok-next.ensures, rules)

pub scan_stmt-returns-then-depth-eq0 : goal.scan_stmt-returns-then-depth-eq0
scan_stmt-returns-then-depth-eq0 t c = search (stmt_steps, rules)

pub scan_stmt-returns-in_ok-end : goal.scan_stmt-returns-in_ok-end
scan_stmt-returns-in_ok-end t c = search (stmt_steps, c.in_ok-next.ensures, c.in_ok-after.ensures, c.in_ok-end.ensures, rules)

pub scan_stmts-returns-in_err-next : goal.scan_stmts-returns-in_err-next
scan_stmts-returns-in_err-next t c = let p = err_from_is_err_and c.from_residual.result c.from_residual.ensures.1 in rw (p.1, p.2) (search (stmt_lists, c.in_err-next.ensures, rules))

pub scan_stmts-loop-preserved : goal.scan_stmts-loop-preserved
scan_stmts-loop-preserved t c = search (stmt_lists, c.in_ok-next.ensures, rules)

pub scan_stmts-returns : goal.scan_stmts-returns
scan_stmts-returns t c = search (stmt_lists, rules)
