-- What carries it: keys one after the other, and the first bool before them.
use Rattle.std.proofs.lemmas.Result.{err_from_is_err_and}
use borrow.Author.Rules.{rules}
use Rattle.form.proofs.OfKeys.{keyed}
use Rattle.form.proofs.keys.judge_keys.Goals as goal

pub loop-i-init : goal.loop-i-init
loop-i-init c = search (keyed, rules)

pub overflow_add-key : goal.overflow_add-key
overflow_add-key c = search (keyed, rules)

pub key_type-requires : goal.key_type-requires
key_type-requires c = search (keyed, rules)

pub returns-in_err-t : goal.returns-in_err-t
returns-in_err-t c = let p = err_from_is_err_and c.from_residual.result c.from_residual.ensures.1 in rw (p.1, p.2) (search (keyed, c.in_err-t.ensures, rules))

pub offset_bounds-source-key : goal.offset_bounds-source-key
offset_bounds-source-key c = search (keyed, rules)

pub bounds-source-key : goal.bounds-source-key
bounds-source-key c = search (keyed, rules)

pub loop-i-preserved : goal.loop-i-preserved
loop-i-preserved c = search (keyed, c.in_ok-t.ensures, rules)

pub returns : goal.returns
returns c = search (keyed, rules)
