-- What carries it: how each part of a program scans.
use Rattle.shape.proofs.Parts.{parts}
use borrow.Author.Rules.{rules}
use Rattle.shape.proofs.items.numeral_at.Goals as goal

pub returns : goal.returns
returns c = search (parts, rules)
