-- What carries it: what is left of the parts walks what all of them do.
use Rattle.std.proofs.lemmas.Result.{err_from_is_err_and}
use Rattle.shape.proofs.Walking.{walking-none, walking-past, walking-fault}
use Rattle.shape.proofs.program.parts_at.Goals as goal

pub returns-in_err-next : goal.returns-in_err-next
returns-in_err-next g c = let p = err_from_is_err_and c.from_residual.result c.from_residual.ensures.1 in rw (p.1, p.2) (walking-fault c.loop-entry.invariant c.loop-entry-test.true c.in_err-next.ensures)

pub loop-entry-preserved : goal.loop-entry-preserved
loop-entry-preserved g c = walking-past c.loop-entry.invariant c.loop-entry-test.true c.in_ok-next.ensures

pub returns : goal.returns
returns g c = walking-none c.loop-entry.invariant c.loop-entry-test.false
