-- A place by its tag: it stands in the frame or in the store.
use Rattle.program.specs.declared.Scope as coded
use mathlib.Core.Path.{◌≡◌, refl, ◌∙◌}
use mathlib.Core.List.{List}
use Prim.Native.Nat.{ℕ, ◌<◌}
use lib.ListN.{length, get_or}
use Rattle.rules.specs.Syntax.{Place, local, parameter, global, field}
use Rattle.program.specs.Codes.{place_tag}
use Rattle.values.specs.declared.Value.{Value}
use Rattle.store.specs.Places.{field_tag, AsksPlace, ReadsPlace, AsksFramed, ReadsFramed, AsksStored, ReadsStored}
use Rattle.store.specs.Changes.{WritesFramed, AsksCell, WritesCell, AsksWrite, Writes}

last-tag : (p : Place) → (place_tag p ≡ 2 → ⊥) → (place_tag p ≡ 3 → ⊥) → (place_tag p ≡ 4 → ⊥) → place_tag p ≡ 5
unfolding place_tag
last-tag (local i) x y z = absurd (x refl)
last-tag (parameter i) x y z = absurd (y refl)
last-tag (global g) x y z = absurd (z refl)
last-tag (field g f) x y z = refl

module _ (nums directory ends : List ℕ) (scope : coded.Scope) (slots frame : List ℕ) (at : ℕ)
    (asks : AsksPlace nums directory ends scope slots frame at) where
  pub tag-inside : at < length nums
  tag-inside = asks.names.tag.inside

  pub asks-framed : (tag : ℕ) → get_or nums at 0 ≡ tag → AsksFramed tag nums scope frame at
  asks-framed tag e = record {
    directory = directory;
    ends = ends;
    slots = slots;
    asks = asks;
    is = e;
  }

  pub asks-stored : (tag : ℕ) → get_or nums at 0 ≡ tag → AsksStored tag nums directory ends slots at
  asks-stored tag e = record { scope = scope; frame = frame; asks = asks; is = e }

  pub asks-field : (get_or nums at 0 ≡ 2 → ⊥) → (get_or nums at 0 ≡ 3 → ⊥) → (get_or nums at 0 ≡ 4 → ⊥)
      → AsksStored field_tag nums directory ends slots at
  asks-field x y z =
      let e : get_or nums at 0 ≡ place_tag asks.place = asks.names.tag.is in
      asks-stored field_tag (e ∙ last-tag asks.place (λ q. x (e ∙ q)) (λ q. y (e ∙ q)) (λ q. z (e ∙ q)))

module _ (nums directory ends : List ℕ) (scope : coded.Scope) (slots frame : List ℕ) (at : ℕ) (r : Value) where
  pub reads-framed : ReadsFramed nums scope frame at r → ReadsPlace nums directory ends scope slots frame at r
  reads-framed h = h.framed directory ends slots

  pub reads-stored : ReadsStored nums directory ends slots at r
      → ReadsPlace nums directory ends scope slots frame at r
  reads-stored h = h.stored scope frame

pub ruleset readings = (tag-inside, asks-framed, asks-stored, asks-field, reads-framed, reads-stored)

-- the same where it is written
module _ (nums directory : List ℕ) (scope : coded.Scope) (slots frame : List ℕ) (at : ℕ) (asks : AsksWrite nums directory scope slots frame at)
  where
    pub target-inside : at < length nums
    target-inside = asks.asks.names.tag.inside

    pub target-framed : (tag : ℕ) → get_or nums at 0 ≡ tag → AsksFramed tag nums scope frame at
    target-framed tag e =
        asks-framed nums directory asks.ends scope slots frame at asks.asks tag e

    pub target-stored : (tag : ℕ) → get_or nums at 0 ≡ tag → AsksCell tag nums directory slots at
    target-stored tag e = record {
      ends = asks.ends;
      asks = asks-stored nums directory asks.ends scope slots frame at asks.asks tag e;
    }

    pub target-field : (get_or nums at 0 ≡ 2 → ⊥) → (get_or nums at 0 ≡ 3 → ⊥) → (get_or nums at 0 ≡ 4 → ⊥)
        → AsksCell field_tag nums directory slots at
    target-field x y z = record {
      ends = asks.ends;
      asks = asks-field nums directory asks.ends scope slots frame at asks.asks x y z;
    }

module _ (nums directory : List ℕ) (scope : coded.Scope) (slots frame : List ℕ) (at number : ℕ) where
  pub writes-framed : (frame' : List ℕ) → WritesFramed nums scope frame frame' at number
      → Writes nums directory scope slots slots frame frame' at number
  writes-framed frame' h = record { written = λ ends. h.framed directory ends slots }

  pub writes-cell : (slots' : List ℕ) → WritesCell nums directory slots slots' at number
      → Writes nums directory scope slots slots' frame frame at number
  writes-cell slots' h = record { written = λ ends. h.stored ends scope frame }

pub ruleset targets = (target-inside, target-framed, target-stored, target-field, writes-framed, writes-cell)
