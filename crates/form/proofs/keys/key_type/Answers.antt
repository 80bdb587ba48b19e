-- What carries it: keys see what the apply body sees.
use Rattle.form.proofs.OfKeys.{typing}
use borrow.Author.Rules.{rules}
use Rattle.form.proofs.keys.key_type.Goals as goal

pub judge_expr-requires : goal.judge_expr-requires
judge_expr-requires c = search (typing, rules)

pub returns : goal.returns
returns c = search (typing, rules)
