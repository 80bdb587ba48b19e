-- `lines::put_decimal` meets its contract: what is put and what is left to put give the bytes' later contents.
use borrow.Author.Rules.{rules}
use Rattle.lines.proofs.Figures.{puttings}
use Rattle.lines.proofs.put_decimal.Goals as goal

pub overflow_sub-at : goal.overflow_sub-at
overflow_sub-at c = search (puttings, rules)

pub loop-rest-init : goal.loop-rest-init
loop-rest-init c = search (puttings, rules)

pub overflow_sub-at-in-loop-rest : goal.overflow_sub-at-in-loop-rest
overflow_sub-at-in-loop-rest c = search (puttings, rules)

pub loop-rest-preserved : goal.loop-rest-preserved
loop-rest-preserved c = search (puttings, rules)

pub returns : goal.returns
returns c = search (puttings, rules)
