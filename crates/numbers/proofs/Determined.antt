-- The promises determine the outcome: for all inputs, two outcomes that a promise allows are equal.
use Rattle.std.specs.Prelude.{Result}
use mathlib.Core.List.{List}
use mathlib.Core.Path.{◌≡◌, sym, ◌∙◌}
use Prim.Native.Nat.{ℕ}
use Rattle.rules.specs.declared.Refusal.{Refusal}
use Rattle.rules.specs.Numbers.{place_of}
use Rattle.rules.proofs.Same.{read_same, write_same}
use Rattle.numbers.specs.Promises.{Reads, Writes}

pub read-determined : (bytes slots : List ℕ) (a b : Result ℕ Refusal) (x y : List ℕ) →
    Reads bytes slots a x → Reads bytes slots b y → (a ≡ b) × (x ≡ y)
read-determined bytes slots a b x y p q = (read_same a b (p.says ∙ sym q.says), p.leaves ∙ sym q.leaves)

pub write-determined : (ns bytes : List ℕ) (a b : Result ℕ Refusal) (x y : List ℕ) →
    Writes ns bytes a x → Writes ns bytes b y → (a ≡ b) × (x ≡ y)
write-determined ns bytes a b x y p q = (write_same a b (p.says ∙ sym q.says), p.leaves ∙ sym q.leaves)

pub place-determined : (bytes : List ℕ) (index a b : ℕ) → a ≡ place_of bytes index → b ≡ place_of bytes index → a ≡ b
place-determined bytes index a b p q = p ∙ sym q
