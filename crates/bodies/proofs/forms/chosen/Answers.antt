-- What carries it: a fault of the branches is handed on, and one of the if's own is made of the rule's.
use Rattle.std.proofs.lemmas.Result.{err_from_is_err_and}
use Rattle.bodies.proofs.Forming.{ruling}
use borrow.Author.Rules.{rules}
use Rattle.bodies.proofs.forms.chosen.Goals as goal

pub returns-in_err-returns : goal.returns-in_err-returns
returns-in_err-returns g c = let p = err_from_is_err_and c.from_residual.result c.from_residual.ensures.1 in rw (p.1, p.2) (search (ruling, rules))

pub returns-in_err-rule : goal.returns-in_err-rule
returns-in_err-rule g c = let p = err_from_is_err_and c.from_residual-in_err-rule.result c.from_residual-in_err-rule.ensures.1 in rw p.1 (search (ruling, rules))

pub returns : goal.returns
returns g c = search (ruling, rules)
