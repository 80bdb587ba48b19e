-- A table's rule: a table that computes to the list of a rule's first values holds the rule's value at each place.
-- Assumes nothing.
use Rattle.std.proofs.Common.{◌≡◌, ℕ, zero, suc, ◌<◌, List, [], ◌∷◌, get_or, refl, le_of_suc-le-suc, not-suc-le-zero}

abbrev pub first_values : (ℕ → ℕ) → ℕ → List ℕ
first_values rule zero = []
first_values rule (suc count) = rule 0 ∷ first_values (λ place. rule (suc place)) count

pub entry : (rule : ℕ → ℕ) (count place : ℕ) → place < count → get_or (first_values rule count) place 0 ≡ rule place
entry rule zero place h = absurd (not-suc-le-zero h)
entry rule (suc count) zero h = refl
entry rule (suc count) (suc place) h = entry (λ place. rule (suc place)) count place (le_of_suc-le-suc h)
