-- What carries it: how each part of a program scans.
use Rattle.shape.proofs.Parts.{global-either}
use borrow.Author.Rules.{rules}
use Rattle.shape.proofs.declarations.global_at.Goals as goal

pub returns : goal.returns
returns c = global-either _ _ _ _ _ _ c.number_in.ensures c.or_else.ensures (λ f p. search rules)
