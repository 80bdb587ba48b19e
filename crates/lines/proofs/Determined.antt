-- The promise determines the outcome: for all inputs, two outcomes that it allows are equal.
use Rattle.std.specs.Prelude.{Result}
use mathlib.Core.List.{List}
use mathlib.Core.Path.{◌≡◌, sym, ◌∙◌}
use Prim.Native.Nat.{ℕ}
use Rattle.rules.specs.declared.Refusal.{Refusal}
use Rattle.rules.proofs.Same.{write_same}
use Rattle.lines.specs.Promises.{Prints}

pub prints-determined : (text bytes : List ℕ) (a b : Result ℕ Refusal) (x y : List ℕ) →
    Prints text bytes a x → Prints text bytes b y → (a ≡ b) × (x ≡ y)
prints-determined text bytes a b x y p q = (write_same a b (p.says ∙ sym q.says), p.leaves ∙ sym q.leaves)
