-- Numbers behind blanks, put one after the other.
use mathlib.Core.List.{List, [], ◌∷◌}
use mathlib.Core.Path.{◌≡◌, refl, ap, ◌∙◌}
use Prim.Native.Nat.{ℕ, ◌+◌, ◌-◌, ◌<◌, ◌≤◌}
use native.Mathlib.Numerals.{add-one}
use native.Mathlib.Omega.{arith}
use Rattle.std.proofs.lemmas.List.{take_rest}
use lib.ListN.{length, take, drop, get_or, set, length-set, length-append}
use Rattle.rules.specs.Lines.{blank, decimal, behind_blanks, between_blanks}
use Rattle.lines.specs.Parts.{Stored}
use Rattle.lines.proofs.Texts.{behind-two, length_two, behind-next, behind-end, between_none, between-some}
use Rattle.lines.proofs.Storing.{Storing, storing-start, storing-room, storing-part, storing-done, stored-kept, stored-both}

-- one number
module _ (number place : ℕ) (bytes : List ℕ) where
  module _ (h : place + length (blank ∷ decimal number) ≤ length bytes) where
    pub behind-blank : place < length bytes
    behind-blank = omega arith

    pub behind-digits : (place + 1) + length (decimal number) ≤ length (set bytes place blank)
    behind-digits = rw length-set (omega arith)

  pub behind-put : (next : ℕ) (left : List ℕ) →
      Stored (decimal number) (place + 1) (set bytes place blank) next left →
      Stored (blank ∷ decimal number) place bytes next left
  behind-put next left p = record { behind = omega (arith, p.behind); leaves = rw (add-one place) at p.leaves }

  pub behind-kept : (next : ℕ) (left : List ℕ) →
      Stored (decimal number) (place + 1) (set bytes place blank) next left → length left ≡ length bytes
  behind-kept next left p = stored-kept (blank ∷ decimal number) place bytes next left (behind-put next left p)

pub ruleset behinds = (behind-blank, behind-digits, behind-put, behind-kept)

-- two numbers
module _ (first second place : ℕ) (bytes : List ℕ)
    (h : place + length (behind_blanks (first ∷ second ∷ [])) ≤ length bytes) where
  pub pair-first : place + length (blank ∷ decimal first) ≤ length bytes
  pair-first = omega (arith, length_two first second)

  module _ (next : ℕ) (left : List ℕ) (p : Stored (blank ∷ decimal first) place bytes next left) where
    pub pair-second : next + length (blank ∷ decimal second) ≤ length left
    pair-second =
        omega
        (arith, length_two first second, p.behind, stored-kept (blank ∷ decimal first) place bytes next left p)

    pub pair_put : (next' : ℕ) (left' : List ℕ) → Stored (blank ∷ decimal second) next left next' left' →
        Stored (behind_blanks (first ∷ second ∷ [])) place bytes next' left'
    pair_put next' left' q =
        rw (behind-two first second)
        (stored-both (blank ∷ decimal first) place bytes next left p (blank ∷ decimal second) next' left' q)

pub ruleset pairs = (pair-first, pair-second, pair_put)

-- those of a list
pub numbers-start : (ns : List ℕ) (place : ℕ) (bytes : List ℕ) → place + length (behind_blanks ns) ≤ length bytes →
    Storing (behind_blanks ns) place bytes (behind_blanks (drop 0 ns)) place bytes
numbers-start ns place bytes h = storing-start (behind_blanks ns) place bytes h

module _ (ns text : List ℕ) (place : ℕ) (bytes₀ : List ℕ) (index at : ℕ) (bytes : List ℕ)
    (s : Storing text place bytes₀ (behind_blanks (drop index ns)) at bytes) where
  abbrev rest : List ℕ
  rest = behind_blanks (drop index ns)

  module _ (h : index < length ns) where
    abbrev part : List ℕ
    part = blank ∷ decimal (get_or ns index 0)

    abbrev others : List ℕ
    others = behind_blanks (drop (index + 1) ns)

    pub numbers-room : at + length (blank ∷ decimal (get_or ns index 0)) ≤ length bytes
    numbers-room = storing-room text place bytes₀ rest at bytes s part others (behind-next ns index h)

    pub numbers_more : (next : ℕ) (left : List ℕ) → Stored (blank ∷ decimal (get_or ns index 0)) at bytes next left →
        Storing text place bytes₀ (behind_blanks (drop (index + 1) ns)) next left
    numbers_more = storing-part text place bytes₀ rest at bytes s part others (behind-next ns index h)

  pub numbers-done : length ns ≤ index → Stored text place bytes₀ at bytes
  numbers-done h = storing-done text place bytes₀ rest at bytes s (behind-end ns index h)

pub ruleset numberings = (numbers-start, numbers-room, numbers_more, numbers-done)

-- the first by itself, and the others behind blanks
module _ (ns : List ℕ) (place : ℕ) (bytes : List ℕ) where
  pub between-empty : length ns ≡ 0 → Stored (between_blanks ns) place bytes place bytes
  between-empty e = rw (between_none ns e) (record { behind = omega arith; leaves = refl })

  module _ (h : place + length (between_blanks ns) ≤ length bytes) (some : length ns ≡ 0 → ⊥) where
    lengths : length (between_blanks ns) ≡ length (decimal (get_or ns 0 0)) + length (behind_blanks (drop 1 ns))
    lengths = ap length (between-some ns some) ∙ length-append (decimal (get_or ns 0 0)) (behind_blanks (drop 1 ns))

    pub between_first : place + length (decimal (get_or ns 0 0)) ≤ length bytes
    between_first = omega (arith, lengths)

    module _ (next : ℕ) (left : List ℕ) (p : Stored (decimal (get_or ns 0 0)) place bytes next left) where
      pub between-others : next + length (behind_blanks (take (length ns - 1) (drop 1 ns))) ≤ length left
      between-others = rw (take_rest ns 1) (omega (arith, lengths, p.behind, stored-kept (decimal (get_or ns 0 0)) place bytes next left p))

      pub between_put : (next' : ℕ) (left' : List ℕ) →
          Stored (behind_blanks (take (length ns - 1) (drop 1 ns))) next left next' left' →
          Stored (between_blanks ns) place bytes next' left'
      between_put next' left' q =
          rw (between-some ns some)
          (stored-both (decimal (get_or ns 0 0)) place bytes next left p (behind_blanks (drop 1 ns)) next' left' (rw (take_rest ns 1) at q))

pub ruleset betweens = (between-empty, between_first, between-others, between_put)
