-- The cycle of expressions, calls and arguments. What carries it: the steps of Judging, Operating and Passing; the depth
-- falls, and at one depth the count of arguments.
use Rattle.std.proofs.lemmas.Result.{err_from_is_err_and}
use borrow.Author.Rules.{rules}
use Rattle.bodies.proofs.Operating.{operating}
use Rattle.bodies.proofs.Judging.{descending, judging}
use Rattle.bodies.proofs.Passing.{calling, args-ask, passing}
use Rattle.bodies.proofs.exprs.+expressions.Goals as goal

pub judge_args-judge_expr-requires : goal.judge_args-judge_expr-requires
judge_args-judge_expr-requires t c = search (judging, operating, calling, passing, descending, rules)

pub judge_args-returns-in_err-t : goal.judge_args-returns-in_err-t
judge_args-returns-in_err-t t c = let p = err_from_is_err_and c.from_residual.result c.from_residual.ensures.1 in rw (p.1, p.2) (search (judging, operating, calling, passing, descending, c.in_err-t.ensures, rules))

pub judge_args-offset_bounds-source-at : goal.judge_args-offset_bounds-source-at
judge_args-offset_bounds-source-at t c = search (judging, operating, calling, passing, descending, rules)

pub judge_args-bounds-source-at : goal.judge_args-bounds-source-at
judge_args-bounds-source-at t c = search (judging, operating, calling, passing, descending, rules)

pub judge_args-judge_args-requires : goal.judge_args-judge_args-requires
judge_args-judge_args-requires t c = search (judging, operating, calling, passing, descending, rules)

pub judge_args-returns-in_err-behind : goal.judge_args-returns-in_err-behind
judge_args-returns-in_err-behind t c = let p = err_from_is_err_and c.from_residual-in_err-behind.result c.from_residual-in_err-behind.ensures.1 in rw (p.1, p.2) (search (judging, operating, calling, passing, descending, c.in_ok-t.ensures, c.in_err-behind.ensures, rules))

pub judge_args-writable_at-writable-requires : goal.judge_args-writable_at-writable-requires
judge_args-writable_at-writable-requires t c = search (judging, operating, calling, passing, descending, rules)

pub judge_args-returns-then-count-eq0 : goal.judge_args-returns-then-count-eq0
judge_args-returns-then-count-eq0 t c = search (judging, operating, calling, passing, descending, rules)

pub judge_args-returns-in_ok-behind : goal.judge_args-returns-in_ok-behind
judge_args-returns-in_ok-behind t c = search (judging, operating, calling, passing, descending, c.in_ok-t.ensures, c.in_ok-behind.ensures, rules)

pub judge_call-head_of-head-requires : goal.judge_call-head_of-head-requires
judge_call-head_of-head-requires t c = search (judging, operating, calling, passing, descending, rules)

pub judge_call-judge_args-requires : goal.judge_call-judge_args-requires
judge_call-judge_args-requires t c = (search (descending, rules), args-ask _ _ _ _ _ _ c.requires c.if-f-scope.true _ _ _ _ c.head_of-head.ensures)

pub judge_call-returns-in_err-agreed : goal.judge_call-returns-in_err-agreed
judge_call-returns-in_err-agreed t c = let p = err_from_is_err_and c.from_residual.result c.from_residual.ensures.1 in rw (p.1, p.2) (search (judging, operating, calling, passing, descending, c.in_err-agreed.ensures, rules))

pub judge_call-settle-requires : goal.judge_call-settle-requires
judge_call-settle-requires t c = search (judging, operating, calling, passing, descending, rules)

pub judge_call-returns-in_ok-agreed : goal.judge_call-returns-in_ok-agreed
judge_call-returns-in_ok-agreed t c = search (judging, operating, calling, passing, descending, c.in_ok-agreed.ensures, rules)

pub judge_call-returns-else-f-scope : goal.judge_call-returns-else-f-scope
judge_call-returns-else-f-scope t c = search (judging, operating, calling, passing, descending, rules)

pub judge_expr-judge_call-requires : goal.judge_expr-judge_call-requires
judge_expr-judge_call-requires t c = search (judging, operating, calling, passing, descending, rules)

pub judge_expr-returns-in_err-kind : goal.judge_expr-returns-in_err-kind
judge_expr-returns-in_err-kind t c = let p = err_from_is_err_and c.from_residual.result c.from_residual.ensures.1 in rw (p.1, p.2) (search (judging, operating, calling, passing, descending, c.in_err-kind.ensures, rules))

pub judge_expr-value_type-requires : goal.judge_expr-value_type-requires
judge_expr-value_type-requires t c = search (judging, operating, calling, passing, descending, c.in_ok-kind.ensures, rules)

pub judge_expr-judge_operands-requires : goal.judge_expr-judge_operands-requires
judge_expr-judge_operands-requires t c = search (judging, operating, calling, passing, descending, rules)

pub judge_expr-returns-then-tag-lt7 : goal.judge_expr-returns-then-tag-lt7
judge_expr-returns-then-tag-lt7 t c = search (judging, operating, calling, passing, descending, rules)

pub judge_expr-returns-in_ok-kind : goal.judge_expr-returns-in_ok-kind
judge_expr-returns-in_ok-kind t c = search (judging, operating, calling, passing, descending, c.in_ok-kind.ensures, rules)

pub judge_operands-judge_expr-requires : goal.judge_operands-judge_expr-requires
judge_operands-judge_expr-requires t c = search (judging, operating, calling, passing, descending, rules)

pub judge_operands-returns-in_err-t : goal.judge_operands-returns-in_err-t
judge_operands-returns-in_err-t t c = let p = err_from_is_err_and c.from_residual.result c.from_residual.ensures.1 in rw (p.1, p.2) (search (judging, operating, calling, passing, descending, c.in_err-t.ensures, rules))

pub judge_operands-offset_bounds-source-first : goal.judge_operands-offset_bounds-source-first
judge_operands-offset_bounds-source-first t c = search (judging, operating, calling, passing, descending, rules)

pub judge_operands-bounds-source-first : goal.judge_operands-bounds-source-first
judge_operands-bounds-source-first t c = search (judging, operating, calling, passing, descending, rules)

pub judge_operands-judge_expr-requires-then-operands : goal.judge_operands-judge_expr-requires-then-operands
judge_operands-judge_expr-requires-then-operands t c = search (judging, operating, calling, passing, descending, rules)

pub judge_operands-returns-in_err-u : goal.judge_operands-returns-in_err-u
judge_operands-returns-in_err-u t c = let p = err_from_is_err_and c.from_residual-in_err-u.result c.from_residual-in_err-u.ensures.1 in rw (p.1, p.2) (search (judging, operating, calling, passing, descending, c.in_ok-t.ensures, c.in_err-u.ensures, rules))

pub judge_operands-two_type-requires : goal.judge_operands-two_type-requires
judge_operands-two_type-requires t c = search (judging, operating, calling, passing, descending, c.in_ok-t.ensures, c.in_ok-u.ensures, rules)

pub judge_operands-one_type-requires : goal.judge_operands-one_type-requires
judge_operands-one_type-requires t c = search (judging, operating, calling, passing, descending, c.in_ok-t.ensures, rules)

pub judge_operands-returns-in_ok-u : goal.judge_operands-returns-in_ok-u
judge_operands-returns-in_ok-u t c = search (judging, operating, calling, passing, descending, c.in_ok-t.ensures, c.in_ok-u.ensures, rules)

pub judge_operands-returns-else-operands : goal.judge_operands-returns-else-operands
judge_operands-returns-else-operands t c = search (judging, operating, calling, passing, descending, c.in_ok-t.ensures, rules)
