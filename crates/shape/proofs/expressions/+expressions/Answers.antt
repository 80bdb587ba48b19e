-- The cycle of expressions and lists of them. What carries it: the steps of Exprs; the depth falls from an expression to
-- its operands, and a list is a loop over what is left of it.
use Rattle.std.proofs.lemmas.Result.{err_from_is_err_and}
use borrow.Author.Rules.{rules}
use Rattle.shape.proofs.Exprs.{expr_steps, expr_lists}
use Rattle.shape.proofs.expressions.+expressions.Goals as goal

pub scan_expr-returns-in_err-next : goal.scan_expr-returns-in_err-next
scan_expr-returns-in_err-next t c = let p = err_from_is_err_and c.from_residual.result c.from_residual.ensures.1 in rw (p.1, p.2) (search (expr_steps, c.in_err-next.ensures, rules))

pub scan_expr-returns-in_err-end : goal.scan_expr-returns-in_err-end
scan_expr-returns-in_err-end t c = let p = err_from_is_err_and c.from_residual-in_err-end.result c.from_residual-in_err-end.ensures.1 in rw (p.1, p.2) (search (expr_steps, c.in_ok-next.ensures, c.in_err-end.ensures, rules))

pub scan_expr-offset_bounds-ends-at : goal.scan_expr-offset_bounds-ends-at
scan_expr-offset_bounds-ends-at t c = search (expr_steps, c.in_ok-next.ensures, rules)

pub scan_expr-bounds-ends-at : goal.scan_expr-bounds-ends-at
scan_expr-bounds-ends-at t c = search (expr_steps, c.in_ok-next.ensures, rules)

pub scan_expr-returns-then-depth-eq0 : goal.scan_expr-returns-then-depth-eq0
scan_expr-returns-then-depth-eq0 t c = search (expr_steps, rules)

pub scan_expr-returns-in_ok-end : goal.scan_expr-returns-in_ok-end
scan_expr-returns-in_ok-end t c = search (expr_steps, c.in_ok-next.ensures, c.in_ok-end.ensures, rules)

pub scan_exprs-returns-in_err-next : goal.scan_exprs-returns-in_err-next
scan_exprs-returns-in_err-next t c = let p = err_from_is_err_and c.from_residual.result c.from_residual.ensures.1 in rw (p.1, p.2) (search (expr_lists, c.in_err-next.ensures, rules))

pub scan_exprs-loop-preserved : goal.scan_exprs-loop-preserved
scan_exprs-loop-preserved t c = search (expr_lists, c.in_ok-next.ensures, rules)

pub scan_exprs-returns : goal.scan_exprs-returns
scan_exprs-returns t c = search (expr_lists, rules)
