-- What carries it: the list of tags, number by number.
use Rattle.shape.specs.Leads.{stmt_form, stmt_form_of}
use Rattle.shape.proofs.Targets.{stmt_forms}
use borrow.Author.Rules.{rules}
use Rattle.shape.proofs.statements.stmt_form.Goals as goal

pub returns-in-0 : goal.returns-in-0
unfolding stmt_form stmt_form_of
returns-in-0 c = search (stmt_forms, rules)

pub returns-in-1 : goal.returns-in-1
unfolding stmt_form stmt_form_of
returns-in-1 c = search (stmt_forms, rules)

pub returns-in-2 : goal.returns-in-2
unfolding stmt_form stmt_form_of
returns-in-2 c = search (stmt_forms, rules)

pub returns-in-3 : goal.returns-in-3
unfolding stmt_form stmt_form_of
returns-in-3 c = search (stmt_forms, rules)

pub returns-in-4 : goal.returns-in-4
unfolding stmt_form stmt_form_of
returns-in-4 c = search (stmt_forms, rules)

pub returns-in-5 : goal.returns-in-5
unfolding stmt_form stmt_form_of
returns-in-5 c = search (stmt_forms, rules)

pub returns-in-6 : goal.returns-in-6
unfolding stmt_form stmt_form_of
returns-in-6 c = search (stmt_forms, rules)

pub returns-in-7 : goal.returns-in-7
unfolding stmt_form stmt_form_of
returns-in-7 c = search (stmt_forms, rules)

pub returns-in-8 : goal.returns-in-8
unfolding stmt_form stmt_form_of
returns-in-8 c = search (stmt_forms, rules)

pub returns-in-9 : goal.returns-in-9
unfolding stmt_form stmt_form_of
returns-in-9 c = search (stmt_forms, rules)

pub returns-in-10 : goal.returns-in-10
unfolding stmt_form stmt_form_of
returns-in-10 c = search (stmt_forms, rules)

pub returns-in-11 : goal.returns-in-11
unfolding stmt_form stmt_form_of
returns-in-11 c = search (stmt_forms, rules)

pub returns-in-12 : goal.returns-in-12
unfolding stmt_form stmt_form_of
returns-in-12 c = search (stmt_forms, rules)

pub returns-in_default : goal.returns-in_default
unfolding stmt_form stmt_form_of
returns-in_default c = search (stmt_forms, rules)
