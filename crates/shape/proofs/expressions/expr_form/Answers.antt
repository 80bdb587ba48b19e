-- What carries it: the list of tags, number by number.
use Rattle.shape.specs.Leads.{expr_form, form_of}
use Rattle.shape.proofs.Tags.{forms}
use borrow.Author.Rules.{rules}
use Rattle.shape.proofs.expressions.expr_form.Goals as goal

pub returns-in-0 : goal.returns-in-0
unfolding expr_form form_of
returns-in-0 c = search (forms, rules)

pub returns-in-1 : goal.returns-in-1
unfolding expr_form form_of
returns-in-1 c = search (forms, rules)

pub returns-in-2 : goal.returns-in-2
unfolding expr_form form_of
returns-in-2 c = search (forms, rules)

pub returns-in-3 : goal.returns-in-3
unfolding expr_form form_of
returns-in-3 c = search (forms, rules)

pub returns-in-4 : goal.returns-in-4
unfolding expr_form form_of
returns-in-4 c = search (forms, rules)

pub returns-in-5 : goal.returns-in-5
unfolding expr_form form_of
returns-in-5 c = search (forms, rules)

pub returns-in-6 : goal.returns-in-6
unfolding expr_form form_of
returns-in-6 c = search (forms, rules)

pub returns-in-7 : goal.returns-in-7
unfolding expr_form form_of
returns-in-7 c = search (forms, rules)

pub returns-in-8 : goal.returns-in-8
unfolding expr_form form_of
returns-in-8 c = search (forms, rules)

pub returns-in-9 : goal.returns-in-9
unfolding expr_form form_of
returns-in-9 c = search (forms, rules)

pub returns-in-10 : goal.returns-in-10
unfolding expr_form form_of
returns-in-10 c = search (forms, rules)

pub returns-in-11 : goal.returns-in-11
unfolding expr_form form_of
returns-in-11 c = search (forms, rules)

pub returns-in-12 : goal.returns-in-12
unfolding expr_form form_of
returns-in-12 c = search (forms, rules)

pub returns-in-13 : goal.returns-in-13
unfolding expr_form form_of
returns-in-13 c = search (forms, rules)

pub returns-in_default : goal.returns-in_default
unfolding expr_form form_of
returns-in_default c = search (forms, rules)
