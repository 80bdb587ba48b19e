-- What carries it: what the shape of a global says of the rules' judgement.
use Rattle.std.proofs.lemmas.Result.{err_from_is_err_and}
use Rattle.bodies.proofs.Extracting.{extracting}
use borrow.Author.Rules.{rules}
use Rattle.bodies.proofs.singles.judge_extract.Goals as goal

pub returns-in_err-global_named : goal.returns-in_err-global_named
returns-in_err-global_named c = let p = err_from_is_err_and c.from_residual.result c.from_residual.ensures.1 in rw (p.1, p.2) (search (extracting, c.in_err-global_named.ensures, rules))

pub whole_bytes-whole-requires : goal.whole_bytes-whole-requires
whole_bytes-whole-requires c = search (extracting, c.in_ok-global_named.ensures, rules)

pub returns-in-Variable : goal.returns-in-Variable
returns-in-Variable c = search (extracting, c.in_ok-global_named.ensures, rules)

pub returns-in-Header : goal.returns-in-Header
returns-in-Header c = search (extracting, c.in_ok-global_named.ensures, rules)
