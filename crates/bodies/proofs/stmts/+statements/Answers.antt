-- The cycle of statements. What carries it: the steps of Stating; the depth falls, and the members of a block are a
-- loop over what is left of them.
use Rattle.std.proofs.lemmas.Result.{err_from_is_err_and}
use borrow.Author.Rules.{rules}
use Rattle.bodies.proofs.Stating.{stating, branching, choosing, pending, sinking}
use Rattle.bodies.proofs.stmts.+statements.Goals as goal

pub judge_branches-judge_stmt-requires : goal.judge_branches-judge_stmt-requires
judge_branches-judge_stmt-requires t c = search (stating, branching, choosing, pending, sinking, rules)

pub judge_branches-returns-in_err-a : goal.judge_branches-returns-in_err-a
judge_branches-returns-in_err-a t c = let p = err_from_is_err_and c.from_residual.result c.from_residual.ensures.1 in rw (p.1, p.2) (search (stating, branching, choosing, pending, sinking, c.in_err-a.ensures, rules))

pub judge_branches-judge_stmt-requires-2 : goal.judge_branches-judge_stmt-requires-2
judge_branches-judge_stmt-requires-2 t c = search (stating, branching, choosing, pending, sinking, rules)

pub judge_branches-returns-in_err-b : goal.judge_branches-returns-in_err-b
judge_branches-returns-in_err-b t c = let p = err_from_is_err_and c.from_residual-in_err-b.result c.from_residual-in_err-b.ensures.1 in rw (p.1, p.2) (search (stating, branching, choosing, pending, sinking, c.in_ok-a.ensures, c.in_err-b.ensures, rules))

pub judge_branches-returns : goal.judge_branches-returns
judge_branches-returns t c = search (stating, branching, choosing, pending, sinking, c.in_ok-a.ensures, c.in_ok-b.ensures, rules)

pub judge_if-returns-in_err-t : goal.judge_if-returns-in_err-t
judge_if-returns-in_err-t t c = let p = err_from_is_err_and c.from_residual.result c.from_residual.ensures.1 in rw (p.1, p.2) (search (stating, branching, choosing, pending, sinking, c.in_err-t.ensures, rules))

pub judge_if-bounds-source-at : goal.judge_if-bounds-source-at
judge_if-bounds-source-at t c = search (stating, branching, choosing, pending, sinking, c.in_ok-t.ensures, rules)

pub judge_if-judge_branches-branches-requires : goal.judge_if-judge_branches-branches-requires
judge_if-judge_branches-branches-requires t c = search (stating, branching, choosing, pending, sinking, rules)

pub judge_if-returns : goal.judge_if-returns
judge_if-returns t c = search (stating, branching, choosing, pending, sinking, c.in_ok-t.ensures, rules)

pub judge_stmt-judge_if-requires : goal.judge_stmt-judge_if-requires
judge_stmt-judge_if-requires t c = search (stating, branching, choosing, pending, sinking, rules)

pub judge_stmt-judge_stmts-requires : goal.judge_stmt-judge_stmts-requires
judge_stmt-judge_stmts-requires t c = search (stating, branching, choosing, pending, sinking, rules)

pub judge_stmt-returns-then-tag-eq3 : goal.judge_stmt-returns-then-tag-eq3
judge_stmt-returns-then-tag-eq3 t c = search (stating, branching, choosing, pending, sinking, rules)

pub judge_stmts-loop-init : goal.judge_stmts-loop-init
judge_stmts-loop-init t c = search (stating, branching, choosing, pending, sinking, rules)

pub judge_stmts-judge_stmt-requires : goal.judge_stmts-judge_stmt-requires
judge_stmts-judge_stmt-requires t c = search (stating, branching, choosing, pending, sinking, rules)

pub judge_stmts-returns-in_err-each : goal.judge_stmts-returns-in_err-each
judge_stmts-returns-in_err-each t c = let p = err_from_is_err_and c.from_residual.result c.from_residual.ensures.1 in rw (p.1, p.2) (search (stating, branching, choosing, pending, sinking, c.in_err-each.ensures, rules))

pub judge_stmts-offset_bounds-source-next : goal.judge_stmts-offset_bounds-source-next
judge_stmts-offset_bounds-source-next t c = search (stating, branching, choosing, pending, sinking, c.in_ok-each.ensures, rules)

pub judge_stmts-bounds-source-next : goal.judge_stmts-bounds-source-next
judge_stmts-bounds-source-next t c = search (stating, branching, choosing, pending, sinking, c.in_ok-each.ensures, rules)

pub judge_stmts-loop-preserved : goal.judge_stmts-loop-preserved
judge_stmts-loop-preserved t c = search (stating, branching, choosing, pending, sinking, c.in_ok-each.ensures, rules)

pub judge_stmts-returns : goal.judge_stmts-returns
judge_stmts-returns t c = search (stating, branching, choosing, pending, sinking, rules)
