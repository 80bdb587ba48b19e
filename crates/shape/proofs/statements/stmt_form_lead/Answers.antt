-- What carries it: the lead of each form.
use Rattle.shape.proofs.Targets.{stmt_leads}
use borrow.Author.Rules.{rules}
use Rattle.shape.proofs.statements.stmt_form_lead.Goals as goal

pub returns-in-Bare : goal.returns-in-Bare
returns-in-Bare c = search (stmt_leads, rules)

pub returns-in-Assign : goal.returns-in-Assign
returns-in-Assign c = search (stmt_leads, rules)

pub returns-in-If : goal.returns-in-If
returns-in-If c = search (stmt_leads, rules)

pub returns-in-Block : goal.returns-in-Block
returns-in-Block c = search (stmt_leads, rules)

pub returns-in-CallStmt : goal.returns-in-CallStmt
returns-in-CallStmt c = search (stmt_leads, rules)

pub returns-in-Named : goal.returns-in-Named
returns-in-Named c = search (stmt_leads, rules)

pub returns-in-Returned : goal.returns-in-Returned
returns-in-Returned c = search (stmt_leads, rules)

pub returns-in-Verified : goal.returns-in-Verified
returns-in-Verified c = search (stmt_leads, rules)

pub returns-in-NoStmt : goal.returns-in-NoStmt
returns-in-NoStmt c = search (stmt_leads, rules)
