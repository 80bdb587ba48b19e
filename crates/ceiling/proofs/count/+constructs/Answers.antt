-- The cycle. What carries it: the steps of Counting and CountingStmts; the callable number falls, then the levels left.
use borrow.Author.Rules.{rules}
use Rattle.ceiling.proofs.Counting.{counting}
use Rattle.ceiling.proofs.CountingStmts.{counting_stmts}
use Rattle.ceiling.proofs.count.+constructs.Goals as goal

pub count_branches-count_stmt-one-requires : goal.count_branches-count_stmt-one-requires
count_branches-count_stmt-one-requires t c = search (counting, counting_stmts, rules)

pub count_branches-count_stmt-other-requires : goal.count_branches-count_stmt-other-requires
count_branches-count_stmt-other-requires t c = search (counting, counting_stmts, rules)

pub count_branches-returns : goal.count_branches-returns
count_branches-returns t c = search (counting, counting_stmts, rules)

pub count_call-frame_of-frame-requires : goal.count_call-frame_of-frame-requires
count_call-frame_of-frame-requires t c = search (counting, counting_stmts, rules)

pub count_call-count_stmt-body-requires : goal.count_call-count_stmt-body-requires
count_call-count_stmt-body-requires t c = search (counting, counting_stmts, rules)

pub count_call-returns-then-known-eq0 : goal.count_call-returns-then-known-eq0
count_call-returns-then-known-eq0 t c = search (counting, counting_stmts, rules)

pub count_call-returns-else-known-eq0 : goal.count_call-returns-else-known-eq0
count_call-returns-else-known-eq0 t c = search (counting, counting_stmts, rules)

pub count_call-returns-else-number-reach : goal.count_call-returns-else-number-reach
count_call-returns-else-number-reach t c = search (counting, counting_stmts, rules)

pub count_expr-count_exprs-inside-requires : goal.count_expr-count_exprs-inside-requires
count_expr-count_exprs-inside-requires t c = search (counting, counting_stmts, rules)

pub count_expr-count_call-called-requires : goal.count_expr-count_call-called-requires
count_expr-count_call-called-requires t c = search (counting, counting_stmts, rules)

pub count_expr-add-requires : goal.count_expr-add-requires
count_expr-add-requires t c = search (counting, counting_stmts, rules)

pub count_expr-returns-in-Some : goal.count_expr-returns-in-Some
count_expr-returns-in-Some t c = search (counting, counting_stmts, rules)

pub count_expr-returns-in-None : goal.count_expr-returns-in-None
count_expr-returns-in-None t c = search (counting, counting_stmts, rules)

pub count_exprs-count_expr-one-requires : goal.count_exprs-count_expr-one-requires
count_exprs-count_expr-one-requires t c = search (counting, counting_stmts, rules)

pub count_exprs-behind-next-requires : goal.count_exprs-behind-next-requires
count_exprs-behind-next-requires t c = search (counting, counting_stmts, rules)

pub count_exprs-loop-preserved : goal.count_exprs-loop-preserved
count_exprs-loop-preserved t c = search (counting, counting_stmts, rules)

pub count_exprs-returns : goal.count_exprs-returns
count_exprs-returns t c = search (counting, counting_stmts, rules)

pub count_run-count_branches-requires : goal.count_run-count_branches-requires
count_run-count_branches-requires t c = search (counting, counting_stmts, rules)

pub count_run-count_stmts-requires : goal.count_run-count_stmts-requires
count_run-count_stmts-requires t c = search (counting, counting_stmts, rules)

pub count_run-count_call-requires : goal.count_run-count_call-requires
count_run-count_call-requires t c = search (counting, counting_stmts, rules)

pub count_run-returns-in-Branches : goal.count_run-returns-in-Branches
count_run-returns-in-Branches t c = search (counting, counting_stmts, rules)

pub count_run-returns-in-Members : goal.count_run-returns-in-Members
count_run-returns-in-Members t c = search (counting, counting_stmts, rules)

pub count_run-returns-in-Body : goal.count_run-returns-in-Body
count_run-returns-in-Body t c = search (counting, counting_stmts, rules)

pub count_run-returns-in-Applied : goal.count_run-returns-in-Applied
count_run-returns-in-Applied t c = search (counting, counting_stmts, rules)

pub count_run-returns-in-Nothing : goal.count_run-returns-in-Nothing
count_run-returns-in-Nothing t c = search (counting, counting_stmts, rules)

pub count_stmt-count_exprs-inside-requires : goal.count_stmt-count_exprs-inside-requires
count_stmt-count_exprs-inside-requires t c = search (counting, counting_stmts, rules)

pub count_stmt-count_run-run-requires : goal.count_stmt-count_run-run-requires
count_stmt-count_run-run-requires t c = search (counting, counting_stmts, rules)

pub count_stmt-add-requires : goal.count_stmt-add-requires
count_stmt-add-requires t c = search (counting, counting_stmts, rules)

pub count_stmt-returns : goal.count_stmt-returns
count_stmt-returns t c = search (counting, counting_stmts, rules)

pub count_stmts-count_stmt-one-requires : goal.count_stmts-count_stmt-one-requires
count_stmts-count_stmt-one-requires t c = search (counting, counting_stmts, rules)

pub count_stmts-behind-next-requires : goal.count_stmts-behind-next-requires
count_stmts-behind-next-requires t c = search (counting, counting_stmts, rules)

pub count_stmts-loop-preserved : goal.count_stmts-loop-preserved
count_stmts-loop-preserved t c = search (counting, counting_stmts, rules)

pub count_stmts-returns : goal.count_stmts-returns
count_stmts-returns t c = search (counting, counting_stmts, rules)
