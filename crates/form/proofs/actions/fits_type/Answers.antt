-- What carries it: a bool is below 2, bits fit their width.
use Rattle.form.proofs.OfNumerals.{fitting}
use borrow.Author.Rules.{rules}
use Rattle.form.proofs.actions.fits_type.Goals as goal

pub returns-then-ty-eq0 : goal.returns-then-ty-eq0
returns-then-ty-eq0 c = search (fitting, rules)

pub returns-else-ty-eq0 : goal.returns-else-ty-eq0
returns-else-ty-eq0 c = search (fitting, rules)
