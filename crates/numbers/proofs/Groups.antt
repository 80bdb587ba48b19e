-- What the code finds a byte to be is what the rules say.
use Rattle.std.specs.Prelude.{Option, None, Some}
use mathlib.Core.Path.{◌≡◌, sym, ap, ◌∙◌}
use Prim.Native.Nat.{ℕ, ◌-◌, ◌<◌, ◌≤◌}
use Rattle.rules.specs.Numbers.{last, tenth, ends_with, group_of}
use Rattle.rules.proofs.Codec as codec
use Rattle.numbers.specs.declared.Group.{Group}
use Rattle.numbers.specs.declared.Group.TheVariants.{More, Last}
use Rattle.numbers.specs.Parts.{of_group}

pub tenth-one : (byte : ℕ) → byte ≡ 1 → of_group (Some (Last 1)) ≡ tenth byte
unfolding of_group
tenth-one byte e = sym (codec.tenth-last byte e)

pub tenth-other : (byte : ℕ) → (byte ≡ 1 → ⊥) → of_group None ≡ tenth byte
unfolding of_group
tenth-other byte n = sym (codec.tenth-wrong byte n)

module _ (before byte : ℕ) where
  pub ends_some : (byte ≡ 0 → ⊥) → of_group (Some (Last byte)) ≡ ends_with before byte
  unfolding of_group
  ends_some n = sym (codec.ends_last before byte n)

  pub ends-only : byte ≡ 0 → before ≡ 0 → of_group (Some (Last 0)) ≡ ends_with before byte
  unfolding of_group
  ends-only z e = ap last (sym z) ∙ sym (codec.ends-first before byte e)

  pub ends-longer : byte ≡ 0 → (before ≡ 0 → ⊥) → of_group None ≡ ends_with before byte
  unfolding of_group
  ends-longer z n = sym (codec.ends-wrong before byte z n)

  pub group-tenth : (r : Option Group) → before ≡ 9 → of_group r ≡ tenth byte → of_group r ≡ group_of before byte
  group-tenth r e q = q ∙ sym (codec.group-tenth before byte e)

  pub group-top : (before ≡ 9 → ⊥) → 128 ≤ byte → of_group (Some (More (byte - 128))) ≡ group_of before byte
  unfolding of_group
  group-top n h = sym (codec.group-more before byte n h)

  pub group-low : (r : Option Group) → (before ≡ 9 → ⊥) → byte < 128 → of_group r ≡ ends_with before byte →
      of_group r ≡ group_of before byte
  group-low r n h q = q ∙ sym (codec.group-ends before byte n h)

pub ruleset groups = (tenth-one, tenth-other, ends_some, ends-only, ends-longer, group-tenth, group-top, group-low)
