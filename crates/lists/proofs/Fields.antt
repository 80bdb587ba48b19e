-- The fields of a header: each fits its width, and is 0 where the header is invalid.
use mathlib.Core.Bool.{Bool, true, false, ◌&&◌, ◌||◌}
use mathlib.Core.Option.{some}
use mathlib.Core.Path.{◌≡◌, refl, ◌∙◌}
use mathlib.Core.List.{List, [], ◌∷◌}
use Prim.Native.Nat.{ℕ, zero, suc, ◌+◌, ◌-◌, ◌^◌, ◌≤◌, ◌<◌}
use native.Mathlib.Omega.{arith}
use native.Mathlib.Nat.{add-zero, sub-zero}
use lib.ListN.{length, get_or, drop}
use lib.Dec.{eqb, ltb}
use lib.Pow.{pow_pos}
use borrow.Author.Tests.{ne_eqb, lt-ltb, le-ltb}
use Rattle.rules.specs.Words.{widest, fits_width}
use Rattle.rules.specs.Reading.{pure, looked_up}
use Rattle.rules.specs.Form.{only_if}
use Rattle.rules.specs.Lists.{passing, read_fields}
use Rattle.shape.specs.Scans.{Scan, Past, Fault}
use Rattle.shape.specs.Scans.{forget, scan_of}
use Rattle.program.specs.Stands.{HoldsWithin, StandsWidths}
use Rattle.lists.specs.Parts.{width_under, Fielded, AsksFields, JudgesFields}
use Rattle.lists.proofs.Places.{placed-passing}
use Rattle.lists.proofs.Steps.{then-fault, then-past, alike-made, alike-scan}

-- a field fits its width under a valid mark, and no bits under another
pub under-valid : (mark width : ℕ) → mark ≡ 1 → width ≡ width_under mark width
unfolding width_under
under-valid mark width e = rw e

pub under-invalid : (mark width : ℕ) → (mark ≡ 1 → ⊥) → 0 ≡ width_under mark width
unfolding width_under
under-invalid mark width x = rw (width_under, ne_eqb mark 1 x)

pub ruleset marks = (under-valid, under-invalid)

pub under-most : (mark width : ℕ) → width ≤ widest → width_under mark width ≤ widest
unfolding width_under
under-most mark width h = go (eqb mark 1)
  where
    go : (b : Bool) → elim b [ true ↦ width | false ↦ 0 ] ≤ widest
    go true = h
    go false = omega arith

field-test : (mark width n : ℕ)
    → fits_width (width_under mark width) n ≡ (fits_width width n && (eqb mark 1 || eqb n 0))
unfolding width_under fits_width
field-test mark width n = go (eqb mark 1) n
  where
    right : (b : Bool) → b ≡ (b && true)
    right true = refl
    right false = refl

    wrong : (b : Bool) → false ≡ (b && false)
    wrong true = refl
    wrong false = refl

    go : (b : Bool) (n : ℕ)
        → ltb n (2 ^ elim b [ true ↦ width | false ↦ 0 ]) ≡ (ltb n (2 ^ width) && (b || eqb n 0))
    go true n = right (ltb n (2 ^ width))
    go false zero = rw (lt-ltb 0 (2 ^ width) (pow_pos width))
    go false (suc n) = rw (le-ltb (suc n) 1 (omega arith), ne_eqb (suc n) 0 (λ e. absurd (omega (arith, e))))
        (wrong (ltb (suc n) (2 ^ width)))

-- two tests that say the same pass the same
same_tests : (fault : ℕ) (f g : ℕ → Bool) → ((n : ℕ) → f n ≡ g n) → (nums : List ℕ) (at : ℕ)
    → scan_of (passing fault f) nums at ≡ scan_of (passing fault g) nums at
unfolding scan_of passing looked_up
same_tests fault f g e nums at = go (drop at nums)
  where
    go : (left : List ℕ)
        → forget (looked_up fault (λ n. only_if (f n) (some n)) left at)
        ≡ forget (looked_up fault (λ n. only_if (g n) (some n)) left at)
    go [] = refl
    go (n ∷ left) = rw (e n)

-- fields of which some are left have a first
record First (nums : List ℕ) (width count : ℕ) (ws : List ℕ) : Type 0 where
  pub first : ℕ
  pub others : List ℕ
  pub same : ws ≡ first ∷ others
  pub holds : HoldsWithin 1 widest nums width first
  pub rest : Fielded nums (width + 1) (count - 1) others

first_field : (nums : List ℕ) (width count : ℕ) (ws : List ℕ) → Fielded nums width count ws → (count ≡ 0 → ⊥)
    → First nums width count ws
unfolding StandsWidths
first_field nums width count [] h more = absurd (more h.counted)
first_field nums width count (w ∷ ws) h more = record {
  first = w;
  others = ws;
  same = refl;
  holds = h.stands.0;
  rest = record { stands = h.stands.1; counted = omega (arith, h.counted) };
}

-- what the step over a field asks
module _ (nums : List ℕ) (width count : ℕ) (h : AsksFields nums width count) (more : count ≡ 0 → ⊥) where
  asked-field : First nums width count h.widths
  asked-field = first_field nums width count h.widths h.fielded more

  pub width-inside : width < length nums
  width-inside = asked-field.holds.holds.inside

  pub width-most : (mark under : ℕ) → under ≡ width_under mark (get_or nums width 0) → under ≤ widest
  width-most mark under e =
      rw e (under-most mark (get_or nums width 0) (rw asked-field.holds.holds.is asked-field.holds.at_most))

  pub fields-left : AsksFields nums (width + 1) (count - 1)
  fields-left = record { widths = asked-field.others; fielded = asked-field.rest; numbers = h.numbers }

-- the fields of a header, one after the other
module _ (nums : List ℕ) (width mark count at : ℕ) where
  pub fields-none : count ≡ 0 → JudgesFields nums width mark count at (Past at)
  unfolding read_fields scan_of forget pure
  fields-none e = record { judged = go }
    where
      go : (ws : List ℕ) → Fielded nums width count ws → Past at ≡ scan_of (read_fields (eqb mark 1) ws) nums at
      go [] h = refl
      go (w ∷ ws) h = absurd (omega (arith, e, h.counted))

  module _ (under : ℕ) (u : under ≡ width_under mark (get_or nums width 0)) (a : Scan) (more : count ≡ 0 → ⊥)
      (q : a ≡ scan_of (passing 11 (fits_width under)) nums at)
    where
      field-scan : (w : ℕ) → HoldsWithin 1 widest nums width w
          → a ≡ scan_of (passing 11 (λ n. fits_width w n && (eqb mark 1 || eqb n 0))) nums at
      field-scan w h =
          let e : under ≡ width_under mark w = u ∙ rw h.holds.is in
          q ∙ same_tests 11 (fits_width under) _ (λ n. rw e (field-test mark w n)) nums at

      pub fields-past : (n : ℕ) (r : Scan) → a ≡ Past n → JudgesFields nums (width + 1) mark (count - 1) n r
          → JudgesFields nums width mark count at r
      unfolding read_fields
      fields-past n r p g = record {
        judged = λ ws h.
            let o : First nums width count ws = first_field nums width count ws h more in
            let s : r ≡ scan_of (read_fields (eqb mark 1) o.others) nums n
            = g.judged o.others o.rest in
            rw o.same
            (then-past _ _ nums at n a r (placed-passing 11 _) (field-scan o.first o.holds) p
            λ x. alike-scan nums n r (alike-made (read_fields (eqb mark 1) o.others) _) s);
      }

      pub fields-fault : (f i : ℕ) → a ≡ Fault f i → JudgesFields nums width mark count at (Fault f i)
      unfolding read_fields
      fields-fault f i p = record {
        judged = λ ws h.
            let o : First nums width count ws = first_field nums width count ws h more in
            rw o.same (then-fault _ _ nums at f i a (field-scan o.first o.holds) p);
      }

-- so many fields, of which some are done: what the rest is judged to be, all are
pub record FieldsLeft (nums : List ℕ) (width mark count at done next : ℕ) : Type 0 where
  pub asks : AsksFields nums width count → AsksFields nums (width + done) (count - done)
  pub rest : (r : Scan) → JudgesFields nums (width + done) mark (count - done) next r
      → JudgesFields nums width mark count at r

pub widths-first : (nums : List ℕ) (width mark count at : ℕ) → FieldsLeft nums width mark count at 0 at
widths-first nums width mark count at =
    record { asks = λ h. rw (sub-zero, add-zero) h; rest = λ r h. rw (sub-zero, add-zero) at h }

module _ (nums : List ℕ) (width mark count at done next : ℕ) (w : FieldsLeft nums width mark count at done next) where
  module _ (m : done < count) where
    more : count - done ≡ 0 → ⊥
    more e = omega (arith, e)

    fewer : count - done - 1 ≡ count - (done + 1)
    fewer = omega arith

    further : width + done + 1 ≡ width + (done + 1)
    further = omega arith

    module _ (h : AsksFields nums width count) where
      pub widths-inside : width + done < length nums
      widths-inside = width-inside nums (width + done) (count - done) (w.asks h) more

      pub widths-next : width + done < 2 ^ 64
      widths-next = omega (arith, widths-inside, h.numbers)

      pub widths-most : (under : ℕ) → under ≡ width_under mark (get_or nums (width + done) 0) → under ≤ widest
      widths-most under e = width-most nums (width + done) (count - done) (w.asks h) more mark under e

    module _ (under : ℕ) (u : under ≡ width_under mark (get_or nums (width + done) 0)) (a : Scan)
        (q : a ≡ scan_of (passing 11 (fits_width under)) nums next) where
      pub widths-past : (n : ℕ) → a ≡ Past n → FieldsLeft nums width mark count at (done + 1) n
      widths-past n p = record {
        asks = λ h. rw (← further, ← fewer) (fields-left nums (width + done) (count - done) (w.asks h) more);
        rest = λ r h.
            w.rest r
            (fields-past nums (width + done) mark (count - done) next under u a more q n r p
            (rw (← further, ← fewer) at h));
      }

      pub widths-fault : (f i : ℕ) → a ≡ Fault f i → JudgesFields nums width mark count at (Fault f i)
      widths-fault f i p = w.rest (Fault f i)
          (fields-fault nums (width + done) mark (count - done) next under u a more q f i p)

  pub widths-none : count ≤ done → JudgesFields nums width mark count at (Past next)
  widths-none m = w.rest (Past next) (fields-none nums (width + done) mark (count - done) next (omega arith))

pub ruleset fields = (
  widths-inside,
  widths-next,
  widths-most,
  widths-first,
  widths-past,
  widths-fault,
  widths-none,
)
