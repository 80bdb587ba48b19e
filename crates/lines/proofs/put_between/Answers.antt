-- `lines::put_between` meets its contract: the first number by itself, and the others behind blanks.
use borrow.Author.Rules.{rules}
use Rattle.lines.proofs.Numbers.{betweens}
use Rattle.lines.proofs.put_between.Goals as goal

pub put_decimal-next-requires : goal.put_decimal-next-requires
put_decimal-next-requires c = search (betweens, rules)

pub put_numbers-requires : goal.put_numbers-requires
put_numbers-requires c = search (betweens, rules)

pub returns-then-store-eq0 : goal.returns-then-store-eq0
returns-then-store-eq0 c = search (betweens, rules)

pub returns-else-store-eq0 : goal.returns-else-store-eq0
returns-else-store-eq0 c = search (betweens, rules)
