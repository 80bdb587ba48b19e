-- What carries it: the list of tags, number by number.
use Rattle.rules.specs.Reading.{place_tag_of}
use Rattle.shape.specs.Leads.{place_form, place_form_of}
use Rattle.shape.proofs.Targets.{place_forms}
use borrow.Author.Rules.{rules}
use Rattle.shape.proofs.statements.place_form.Goals as goal

pub returns-in-2 : goal.returns-in-2
unfolding place_form place_form_of place_tag_of
returns-in-2 c = search (place_forms, rules)

pub returns-in-3 : goal.returns-in-3
unfolding place_form place_form_of place_tag_of
returns-in-3 c = search (place_forms, rules)

pub returns-in-4 : goal.returns-in-4
unfolding place_form place_form_of place_tag_of
returns-in-4 c = search (place_forms, rules)

pub returns-in-5 : goal.returns-in-5
unfolding place_form place_form_of place_tag_of
returns-in-5 c = search (place_forms, rules)

pub returns-in_default : goal.returns-in_default
unfolding place_form place_form_of place_tag_of
returns-in_default c = search (place_forms, rules)
