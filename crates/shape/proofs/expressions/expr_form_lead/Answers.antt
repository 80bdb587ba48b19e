-- What carries it: the lead of each form.
use Rattle.shape.proofs.Tags.{expr_leads}
use borrow.Author.Rules.{rules}
use Rattle.shape.proofs.expressions.expr_form_lead.Goals as goal

pub returns-in-Number : goal.returns-in-Number
returns-in-Number c = search (expr_leads, rules)

pub returns-in-Field : goal.returns-in-Field
returns-in-Field c = search (expr_leads, rules)

pub returns-in-Literal : goal.returns-in-Literal
returns-in-Literal c = search (expr_leads, rules)

pub returns-in-Operand : goal.returns-in-Operand
returns-in-Operand c = search (expr_leads, rules)

pub returns-in-Binary : goal.returns-in-Binary
returns-in-Binary c = search (expr_leads, rules)

pub returns-in-Cast : goal.returns-in-Cast
returns-in-Cast c = search (expr_leads, rules)

pub returns-in-Slice : goal.returns-in-Slice
returns-in-Slice c = search (expr_leads, rules)

pub returns-in-Operands : goal.returns-in-Operands
returns-in-Operands c = search (expr_leads, rules)

pub returns-in-Call : goal.returns-in-Call
returns-in-Call c = search (expr_leads, rules)

pub returns-in-Unlisted : goal.returns-in-Unlisted
returns-in-Unlisted c = search (expr_leads, rules)
