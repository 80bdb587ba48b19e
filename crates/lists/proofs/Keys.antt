-- What an entry asks of a key, and of keys one after the other.
use mathlib.Core.Bool.{true}
use mathlib.Core.Path.{◌≡◌, refl, sym, ◌∙◌}
use mathlib.Core.List.{List, [], ◌∷◌}
use Prim.Native.Nat.{ℕ, ◌+◌, ◌-◌, ◌^◌, ◌≤◌, ◌<◌}
use native.Mathlib.Omega.{arith}
use native.Mathlib.Nat.{add-zero, sub-zero}
use lib.ListN.{length, get_or}
use Rattle.rules.specs.Words.{widest, fits_width, prefix_fits, mask_fits}
use Rattle.rules.specs.Syntax.{KeyKind, exact, lpm, ternary, Key, Program}
use Rattle.rules.specs.Reading.{◌>>=◌, pure}
use Rattle.rules.specs.Lists.{passing, asked, key_width, read_pattern, read_patterns}
use Rattle.shape.specs.Scans.{Scan, Past, Fault}
use Rattle.shape.specs.Scans.{forget, scan_of}
use Rattle.program.specs.Codes.{key_kind_number}
use Rattle.program.specs.Stands.{Holds, StandsKeys}
use Rattle.program.proofs.Views.{expr-begins}
use Rattle.lists.specs.Parts.{read_limit, JudgesLimit, JudgesPattern, WidthsFrom, Keyed, AsksPatterns, JudgesPatterns}
use Rattle.lists.proofs.Places.{placed-pattern}
use Rattle.lists.proofs.Steps.{past-inside, behind-passed, then-fault, then-past, alike-made, alike-scan}

-- what stands behind a value
module _ (nums : List ℕ) (kind width value at : ℕ) where
  pub limit-none : kind ≡ 0 → JudgesLimit nums kind width value at (Past at)
  unfolding key_kind_number read_limit scan_of forget pure
  limit-none e = record { judged = go }
    where
      go : (k : KeyKind) → kind ≡ key_kind_number k → Past at ≡ scan_of (read_limit k width value) nums at
      go exact q = refl
      go lpm q = absurd (omega (arith, e, q))
      go ternary q = absurd (omega (arith, e, q))

  pub limit-prefix : (r : Scan) → kind ≡ 1 → r ≡ scan_of (passing 10 (prefix_fits width value)) nums at
      → JudgesLimit nums kind width value at r
  unfolding key_kind_number read_limit
  limit-prefix r e h = record { judged = go }
    where
      go : (k : KeyKind) → kind ≡ key_kind_number k → r ≡ scan_of (read_limit k width value) nums at
      go exact q = absurd (omega (arith, e, q))
      go lpm q = alike-scan nums at r (alike-made (passing 10 (prefix_fits width value)) _) h
      go ternary q = absurd (omega (arith, e, q))

  pub limit-mask : (r : Scan) → (kind ≡ 0 → ⊥) → (kind ≡ 1 → ⊥)
      → r ≡ scan_of (passing 10 (mask_fits width value)) nums at → JudgesLimit nums kind width value at r
  unfolding key_kind_number read_limit
  limit-mask r x y h = record { judged = go }
    where
      go : (k : KeyKind) → kind ≡ key_kind_number k → r ≡ scan_of (read_limit k width value) nums at
      go exact q = absurd (x q)
      go lpm q = absurd (y q)
      go ternary q = alike-scan nums at r (alike-made (passing 10 (mask_fits width value)) _) h

pub ruleset limits = (limit-none, limit-prefix, limit-mask)

-- a pattern is its value and what stands behind it
pattern-parts : (P : Program) (k : KeyKind) (width : ℕ)
    → read_pattern true P k width ≡ (passing 10 (fits_width width) >>= read_limit k width)
unfolding read_pattern read_limit asked
pattern-parts P exact width = refl
pattern-parts P lpm width = refl
pattern-parts P ternary width = refl

module _ (nums : List ℕ) (kind width at : ℕ) (a : Scan) (q : a ≡ scan_of (passing 10 (fits_width width)) nums at) where
  pub pattern-past : (n : ℕ) (r : Scan) → a ≡ Past n → JudgesLimit nums kind width (get_or nums at 0) n r
      → JudgesPattern nums kind width at r
  pattern-past n r p h = record {
    judged = λ P k e. h.judged k e
        ∙ sym (behind-passed 10 (fits_width width) nums at (read_limit k width) a n q p)
        ∙ rw (pattern-parts P k width);
  }

  pub pattern-fault : (f i : ℕ) → a ≡ Fault f i → JudgesPattern nums kind width at (Fault f i)
  pattern-fault f i p = record {
    judged = λ P k e. rw (pattern-parts P k width)
        (then-fault (passing 10 (fits_width width)) (read_limit k width) nums at f i a q p);
  }

pub ruleset patterns = (past-inside, pattern-past, pattern-fault)

-- keys of which some are left have a first
record First (P : Program) (nums ends widths : List ℕ) (key count slot : ℕ) (ks : List Key) : Type 0 where
  pub first : Key
  pub others : List Key
  pub same : ks ≡ first ∷ others
  pub kind : Holds nums key (key_kind_number first.kind)
  pub begins : key + 1 < length nums
  pub width : get_or widths slot 0 ≡ key_width P first
  pub most : get_or widths slot 0 ≤ widest
  pub rest : Keyed P nums ends widths (get_or ends (key + 1) 0) (count - 1) (slot + 1) others

first_key : (P : Program) (nums ends widths : List ℕ) (key count slot : ℕ) (ks : List Key)
    → Keyed P nums ends widths key count slot ks → (count ≡ 0 → ⊥) → First P nums ends widths key count slot ks
unfolding StandsKeys WidthsFrom
first_key P nums ends widths key count slot [] h more = absurd (more h.counted)
first_key P nums ends widths key count slot (k ∷ ks) h more = record {
  first = k;
  others = ks;
  same = refl;
  kind = h.stands.1.0;
  begins = (expr-begins h.stands.1.1.0).inside;
  width = h.known.0;
  most = h.known.1.0;
  rest = record {
    stands = h.stands.1.1.1;
    counted = omega (arith, h.counted);
    known = h.known.1.1;
  };
}

-- what the step over a key asks
module _ (nums ends widths : List ℕ) (key count slot : ℕ) (h : AsksPatterns nums ends widths key count slot)
    (more : count ≡ 0 → ⊥)
  where
    asked-key : First h.program nums ends widths key count slot h.keys
    asked-key = first_key h.program nums ends widths key count slot h.keys h.keyed more

    pub key-inside : key < length nums
    key-inside = asked-key.kind.inside

    pub key-ends : key + 1 < length ends
    key-ends = omega (arith, asked-key.begins, h.room)

    pub key-slot : slot < 32
    key-slot = omega (arith, h.slots, more)

    pub key-width : get_or widths slot 0 ≤ widest
    key-width = asked-key.most

    pub keys-left : AsksPatterns nums ends widths (get_or ends (key + 1) 0) (count - 1) (slot + 1)
    keys-left = record {
      program = h.program;
      keys = asked-key.others;
      keyed = asked-key.rest;
      numbers = h.numbers;
      room = h.room;
      slots = omega (arith, h.slots, more);
    }

-- the patterns of keys, one after the other
module _ (nums ends widths : List ℕ) (key count slot at : ℕ) where
  pub patterns-none : count ≡ 0 → JudgesPatterns nums ends widths key count slot at (Past at)
  unfolding read_patterns scan_of forget pure
  patterns-none e = record { judged = go }
    where
      go : (P : Program) (ks : List Key) → Keyed P nums ends widths key count slot ks
          → Past at ≡ scan_of (read_patterns true P ks) nums at
      go P [] h = refl
      go P (k ∷ ks) h = absurd (omega (arith, e, h.counted))

  pub patterns-past : (n : ℕ) (a r : Scan) → (count ≡ 0 → ⊥)
      → JudgesPattern nums (get_or nums key 0) (get_or widths slot 0) at a → a ≡ Past n
      → JudgesPatterns nums ends widths (get_or ends (key + 1) 0) (count - 1) (slot + 1) n r
      → JudgesPatterns nums ends widths key count slot at r
  unfolding read_patterns
  patterns-past n a r more f p g = record {
    judged = λ P ks h.
        let o : First P nums ends widths key count slot ks = first_key P nums ends widths key count slot ks h more in
        let q : a ≡ scan_of (read_pattern true P o.first.kind (key_width P o.first)) nums at
        = rw (← o.width) (f.judged P o.first.kind o.kind.is) in
        let s : r ≡ scan_of (read_patterns true P o.others) nums n = g.judged P o.others o.rest in
        rw o.same
        (then-past _ _ nums at n a r (placed-pattern P o.first.kind (key_width P o.first)) q p
        λ x. alike-scan nums n r (alike-made (read_patterns true P o.others) _) s);
  }

  pub patterns-fault : (f i : ℕ) (a : Scan) → (count ≡ 0 → ⊥)
      → JudgesPattern nums (get_or nums key 0) (get_or widths slot 0) at a → a ≡ Fault f i
      → JudgesPatterns nums ends widths key count slot at (Fault f i)
  unfolding read_patterns
  patterns-fault f i a more g p = record {
    judged = λ P ks h.
        let o : First P nums ends widths key count slot ks = first_key P nums ends widths key count slot ks h more in
        let q : a ≡ scan_of (read_pattern true P o.first.kind (key_width P o.first)) nums at
        = rw (← o.width) (g.judged P o.first.kind o.kind.is) in
        rw o.same (then-fault _ _ nums at f i a q p);
  }

-- so many keys, of which some are done: what the rest is judged to be, all are
pub record KeysLeft (nums ends widths : List ℕ) (key count slot at done here next : ℕ) : Type 0 where
  pub asks : AsksPatterns nums ends widths key count slot
      → AsksPatterns nums ends widths here (count - done) (slot + done)
  pub rest : (r : Scan) → JudgesPatterns nums ends widths here (count - done) (slot + done) next r
      → JudgesPatterns nums ends widths key count slot at r

pub keys-first : (nums ends widths : List ℕ) (key count slot at : ℕ)
    → KeysLeft nums ends widths key count slot at 0 key at
keys-first nums ends widths key count slot at =
    record { asks = λ h. rw (sub-zero, add-zero) h; rest = λ r h. rw (sub-zero, add-zero) at h }

module _ (nums ends widths : List ℕ) (key count slot at done here next : ℕ)
    (w : KeysLeft nums ends widths key count slot at done here next)
  where
    module _ (m : done < count) where
      more : count - done ≡ 0 → ⊥
      more e = omega (arith, e)

      fewer : count - done - 1 ≡ count - (done + 1)
      fewer = omega arith

      further : slot + done + 1 ≡ slot + (done + 1)
      further = omega arith

      module _ (h : AsksPatterns nums ends widths key count slot) where
        pub here-inside : here < length nums
        here-inside = key-inside nums ends widths here (count - done) (slot + done) (w.asks h) more

        pub here-ends : here + 1 < length ends
        here-ends = key-ends nums ends widths here (count - done) (slot + done) (w.asks h) more

        pub here-next : here + 1 < 2 ^ 64
        here-next = omega (
          arith,
          (asked-key nums ends widths here (count - done) (slot + done) (w.asks h) more).begins,
          h.numbers,
        )

        pub here-slot : slot + done < 32
        here-slot = key-slot nums ends widths here (count - done) (slot + done) (w.asks h) more

        pub here-width : get_or widths (slot + done) 0 ≤ widest
        here-width = key-width nums ends widths here (count - done) (slot + done) (w.asks h) more

      module _ (a : Scan) (f : JudgesPattern nums (get_or nums here 0) (get_or widths (slot + done) 0) next a) where
        pub keys-past : (n : ℕ) → a ≡ Past n
            → KeysLeft nums ends widths key count slot at (done + 1) (get_or ends (here + 1) 0) n
        keys-past n p = record {
          asks = λ h.
              rw (← further, ← fewer)
              (keys-left nums ends widths here (count - done) (slot + done) (w.asks h) more);
          rest = λ r h.
              w.rest r
              (patterns-past nums ends widths here (count - done) (slot + done) next n a r more f p
              (rw (← further, ← fewer) at h));
        }

        pub keys-fault : (x i : ℕ) → a ≡ Fault x i
            → JudgesPatterns nums ends widths key count slot at (Fault x i)
        keys-fault x i p = w.rest (Fault x i)
            (patterns-fault nums ends widths here (count - done) (slot + done) next x i a more f p)

    pub keys-none : count ≤ done → JudgesPatterns nums ends widths key count slot at (Past next)
    keys-none m = w.rest (Past next)
        (patterns-none nums ends widths here (count - done) (slot + done) next (omega arith))

pub ruleset keys = (
  here-inside,
  here-ends,
  here-next,
  here-slot,
  here-width,
  keys-first,
  keys-past,
  keys-fault,
  keys-none,
)
